-- The bytes of fields: none is a line feed or a blank.
use Rattle.std.proofs.Common.{◌≡◌, ℕ, ◌+◌, Bool, true, false, cond, ltb, eqb, List, [], ◌∷◌, length, map, inl, inr}
use Rattle.std.specs.Prelude.{All}
use Rattle.std.specs.List.{slice_split, onto_first, position_or_len, enumerate_from}
use Rattle.std.proofs.lemmas.Bool.{cases_Bool, ltb-true}
use Rattle.std.proofs.lemmas.List.Elements.{All-nil, All-cons, All-head, All-tail, All-take, All-filter, filter_passes}
use Rattle.std.proofs.lemmas.List.Splits.{slice_split-cons_yes, slice_split-cons_no}
use Rattle.tet_text.specs.Lines.{is_line_feed, is_comment_mark, is_blank, IsField, content_of, content_line, without_empty_last, lines_of, fields_of, content_lines_from}
use Rattle.tet_text.specs.Laws.{FieldLaw}
use Rattle.tet_text.specs.Views.{content_left}
use Rattle.tet_text.specs.declared.lines.Lines.{Lines}

onto_each : (Q : ℕ → Type 0) (x : ℕ) (parts : List (List ℕ)) → Q x → All (All Q) parts → All (All Q) (onto_first x parts)
onto_each Q x [] q h = All-cons (All Q) (x ∷ []) [] (All-cons Q x [] q (All-nil Q)) (All-nil (All Q))
onto_each Q x (part ∷ parts) q h =
    All-cons (All Q) (x ∷ part) parts (All-cons Q x part q (All-head (All Q) part parts h)) (All-tail (All Q) part parts h)

-- what holds of each element holds in each part, and there no element passes
split_each : (p : ℕ → Bool) (P : ℕ → Type 0) (xs : List ℕ) → All P xs → All (All (λ x. P x × (p x ≡ false))) (slice_split p xs)
split_each p P [] h = All-cons (All (λ x. P x × (p x ≡ false))) [] [] (All-nil (λ x. P x × (p x ≡ false))) (All-nil (All (λ x. P x × (p x ≡ false))))
split_each p P (x ∷ xs) h =
    let Q : ℕ → Type 0 = λ y. P y × (p y ≡ false) in
    let rest = split_each p P xs (All-tail P x xs h) in
    elim (cases_Bool (p x)) [
      | inl passes ↦ rw (slice_split-cons_yes p x xs passes) (All-cons (All Q) [] (slice_split p xs) (All-nil Q) rest)
      | inr fails ↦ rw (slice_split-cons_no p x xs fails) (onto_each Q x (slice_split p xs) (All-head P x xs h, fails) rest)
    ]

kept_or_none : (Q : List ℕ → Type 0) (b : Bool) (parts : List (List ℕ)) → All Q parts → All Q (cond b [] parts)
kept_or_none Q true parts h = All-nil Q
kept_or_none Q false parts h = h

each_kept : (Q : List ℕ → Type 0) (parts : List (List ℕ)) → All Q parts → All Q (without_empty_last parts)
each_kept Q [] h = h
each_kept Q (part ∷ []) h = kept_or_none Q (eqb (length part) 0) (part ∷ []) h
each_kept Q (part ∷ next ∷ more) h =
    All-cons Q part (without_empty_last (next ∷ more)) (All-head Q part (next ∷ more) h) (each_kept Q (next ∷ more) (All-tail Q part (next ∷ more) h))

-- a byte within a line
abbrev IsInLine : ℕ → Type 0
IsInLine byte = Unit {0} × (is_line_feed byte ≡ false)

lines_each : (bytes : List ℕ) → All (All IsInLine) (lines_of bytes)
unfolding lines_of
lines_each bytes = each_kept (All IsInLine) (slice_split is_line_feed bytes) (split_each is_line_feed (λ _. Unit {0}) bytes (λ k d lt. tt))

fields_each : (content : List ℕ) → All IsInLine content → All IsField (fields_of content)
unfolding fields_of
fields_each content h =
    let parts = slice_split is_blank content in
    let inside = All-filter (λ part. ltb 0 (length part)) (All (λ x. IsInLine x × (is_blank x ≡ false))) parts (split_each is_blank IsInLine content h) in
    let some = filter_passes (λ part. ltb 0 (length part)) parts in
    λ k d lt. record {
      some = ltb-true _ _ (some k d lt);
      one_line = λ j e less. (inside k d lt j e less).0.1;
      no_blank = λ j e less. (inside k d lt j e less).1;
    }

numbered : (n : ℕ) (lines : List (List ℕ)) → All (All IsInLine) lines → All (λ l. All IsField l.fields) (map content_line (enumerate_from n lines))
numbered n [] h = All-nil (λ l. All IsField l.fields)
numbered n (line ∷ lines) h =
    All-cons (λ l. All IsField l.fields) (content_line (n, line)) (map content_line (enumerate_from (n + 1) lines))
    (fields_each (content_of line) (All-take IsInLine (position_or_len is_comment_mark line) line (All-head (All IsInLine) line lines h)))
    (numbered (n + 1) lines (All-tail (All IsInLine) line lines h))

pub law_fields : FieldLaw
unfolding content_lines_from
law_fields n bytes =
    All-filter (λ line. ltb 0 (length line.fields)) (λ l. All IsField l.fields) (map content_line (enumerate_from n (lines_of bytes)))
    (numbered n (lines_of bytes) (lines_each bytes))

pub content_left_fields : (lines : Lines) → All (λ l. All IsField l.fields) (content_left lines)
unfolding content_left
content_left_fields lines = law_fields (lines.passed + 1) lines.rest.now
