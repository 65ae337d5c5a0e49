-- The fields of content lines are words.
use Rattle.std.proofs.Common.{◌≡◌, ℕ, zero, suc, ◌+◌, Bool, true, false, cond, ltb, List, [], ◌∷◌, ◌++◌, length, map, take, inl, inr, refl, subst, arith}
use Rattle.std.specs.Prelude.{All, not}
use Rattle.std.specs.List.{list_all, slice_split, onto_first, prefix_len, enumerate_from}
use Rattle.std.proofs.lemmas.Bool.{cases_Bool}
use Rattle.std.proofs.lemmas.List.Elements.{All-nil, All-cons, All-head, All-tail, All-filter}
use Rattle.std.proofs.lemmas.List.Splits.{slice_split-cons_yes, slice_split-cons_no}
use Rattle.tet_text.specs.Lines.{ContentLine, is_line_feed, is_comment_mark, is_blank, content_of, content_line, fields_of, lines_of, content_lines, content_lines_from}
use Rattle.tet_text.proofs.FieldBytes.{law_fields}
use Rattle.run_laws.specs.Reread.{IsPlainField}
use Rattle.run_laws.proofs.Words.{IsWord, AreWords}

-- ---- words

none_passes : (p : ℕ → Bool) (w : List ℕ) → All (λ c. p c ≡ false) w → list_all (λ c. not (p c)) w ≡ true
none_passes p [] all = refl
none_passes p (c ∷ w) all = rw (All-head (λ c. p c ≡ false) c w all) (none_passes p w (All-tail (λ c. p c ≡ false) c w all))

pub plain_word : (w : List ℕ) → IsPlainField w → IsWord w
plain_word w is = record {
  some = is.field.some;
  no_blank = none_passes is_blank w is.field.no_blank;
  no_feed = none_passes is_line_feed w is.field.one_line;
  no_mark = none_passes is_comment_mark w is.no_mark;
}

pub plain_words : (ws : List (List ℕ)) → All IsPlainField ws → AreWords ws
plain_words [] all = tt
plain_words (w ∷ ws) all = (plain_word w (All-head IsPlainField w ws all), plain_words ws (All-tail IsPlainField w ws all))

pub words_append : (vs ws : List (List ℕ)) → AreWords vs → AreWords ws → AreWords (vs ++ ws)
words_append [] ws one two = two
words_append (v ∷ vs) ws one two = (one.0, words_append vs ws one.1 two)

-- the text '0', 48
pub zero_plain : IsPlainField (48 ∷ [])
zero_plain = record {
  field = record { some = omega arith; one_line = one (λ byte. is_line_feed byte ≡ false) refl; no_blank = one (λ byte. is_blank byte ≡ false) refl };
  no_mark = one (λ byte. is_comment_mark byte ≡ false) refl;
}
  where
    one : (P : ℕ → Type 0) → P 48 → All P (48 ∷ [])
    one P h zero d lt = h
    one P h (suc k) d lt = absurd (omega arith)

-- ---- the fields of a line

abbrev IsNoMark : ℕ → Type 0
IsNoMark byte = is_comment_mark byte ≡ false

-- before the first comment mark there is none
before_mark : (line : List ℕ) → All IsNoMark (take (prefix_len (λ c. not (is_comment_mark c)) line) line)
before_mark [] = All-nil IsNoMark
before_mark (c ∷ line) = go (is_comment_mark c) refl (before_mark line)
  where
    go : (b : Bool) → is_comment_mark c ≡ b → All IsNoMark (take (prefix_len (λ c. not (is_comment_mark c)) line) line)
        → All IsNoMark (take (cond (not b) (1 + prefix_len (λ c. not (is_comment_mark c)) line) 0) (c ∷ line))
    go true e rest = All-nil IsNoMark
    go false e rest =
        let n = prefix_len (λ c. not (is_comment_mark c)) line in
        subst (λ (k : ℕ). All IsNoMark (take k (c ∷ line))) (let s : suc n ≡ 1 + n = omega arith in s) (All-cons IsNoMark c (take n line) e rest)

onto_each : (P : ℕ → Type 0) (x : ℕ) (parts : List (List ℕ)) → P x → All (All P) parts → All (All P) (onto_first x parts)
onto_each P x [] h all = All-cons (All P) (x ∷ []) [] (All-cons P x [] h (All-nil P)) (All-nil (All P))
onto_each P x (part ∷ parts) h all =
    All-cons (All P) (x ∷ part) parts (All-cons P x part h (All-head (All P) part parts all)) (All-tail (All P) part parts all)

-- what holds of each byte holds in each part
split_each : (p : ℕ → Bool) (P : ℕ → Type 0) (xs : List ℕ) → All P xs → All (All P) (slice_split p xs)
split_each p P [] all = All-cons (All P) [] [] (All-nil P) (All-nil (All P))
split_each p P (x ∷ xs) all =
    let rest = split_each p P xs (All-tail P x xs all) in
    elim (cases_Bool (p x)) [
      | inl passes ↦ rw (slice_split-cons_yes p x xs passes) (All-cons (All P) [] (slice_split p xs) (All-nil P) rest)
      | inr fails ↦ rw (slice_split-cons_no p x xs fails) (onto_each P x (slice_split p xs) (All-head P x xs all) rest)
    ]

no_marks : (line : List ℕ) → All (All IsNoMark) (fields_of (content_of line))
unfolding fields_of
no_marks line =
    All-filter (λ part. ltb 0 (length part)) (All IsNoMark) (slice_split is_blank (content_of line)) (split_each is_blank IsNoMark (content_of line) (before_mark line))

numbered : (n : ℕ) (lines : List (List ℕ)) → All (λ l. All (All IsNoMark) l.fields) (map content_line (enumerate_from n lines))
numbered n [] = All-nil (λ l. All (All IsNoMark) l.fields)
numbered n (line ∷ lines) =
    All-cons (λ l. All (All IsNoMark) l.fields) (content_line (n, line)) (map content_line (enumerate_from (n + 1) lines)) (no_marks line) (numbered (n + 1) lines)

unmarked : (n : ℕ) (bytes : List ℕ) → All (λ l. All (All IsNoMark) l.fields) (content_lines_from n (lines_of bytes))
unfolding content_lines_from
unmarked n bytes = All-filter (λ line. ltb 0 (length line.fields)) (λ l. All (All IsNoMark) l.fields) (map content_line (enumerate_from n (lines_of bytes))) (numbered n (lines_of bytes))

-- the fields of content lines are plain
abbrev pub HasPlainFields : ContentLine → Type 0
HasPlainFields line = All IsPlainField line.fields

pub plain_lines : (bytes : List ℕ) → All HasPlainFields (content_lines bytes)
plain_lines bytes i line lt j field less = record {
  field = law_fields 1 bytes i line lt j field less;
  no_mark = unmarked 1 bytes i line lt j field less;
}
