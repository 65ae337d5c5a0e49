-- Lines of words between spaces, and the fields that are cut from them.
use Rattle.std.proofs.Common.{◌≡◌, ℕ, suc, ◌+◌, ◌<◌, Bool, true, false, eqb, List, [], ◌∷◌, ◌++◌, length, take, drop, refl, ap, sym, ◌∙◌, arith, length-append}
use Rattle.std.specs.Prelude.{not}
use Rattle.std.specs.List.{list_all, prefix_len, position_or_len, before_first, after_first, AllByRecursion}
use Rattle.std.proofs.lemmas.Bool.{and_parts, ne_eqb}
use Rattle.std.proofs.lemmas.List.{append-nil, take-append-le}
use Rattle.std.proofs.lemmas.List.Folds.{list_all-append}
use Rattle.std.proofs.Math.ListN.{drop_of_length-le}
use Rattle.std.proofs.Math.Seq.{take-length}
use Rattle.tet_text.specs.Lines.{is_line_feed, is_comment_mark, is_blank, is_no_blank, lines_of, content_of, without_blanks, fields_of, content_lines_from}
use Rattle.tet_text.proofs.PlainTexts.{prefix_all, drop_past}
use Rattle.tet_text.proofs.Cutting.{fields_of-nil, fields_of-cons}
use Rattle.tet_text.proofs.ContentLines.{gives_line}

-- a word has a byte, and none that is a blank, a line feed or a comment mark
pub record IsWord (w : List ℕ) : Type 0 where
  pub some : 0 < length w
  pub no_blank : list_all is_no_blank w ≡ true
  pub no_feed : list_all (λ c. not (is_line_feed c)) w ≡ true
  pub no_mark : list_all (λ c. not (is_comment_mark c)) w ≡ true

-- words, each behind a space
abbrev pub joined : List (List ℕ) → List ℕ
joined [] = []
joined (w ∷ ws) = 32 ∷ (w ++ joined ws)

abbrev pub AreWords : List (List ℕ) → Type 0
AreWords ws = AllByRecursion IsWord ws

-- ---- cutting

length_before : (p : ℕ → Bool) (w : List ℕ) (x : ℕ) (f : List ℕ) → list_all (λ c. not (p c)) w ≡ true → p x ≡ true → position_or_len p (w ++ x ∷ f) ≡ length w
length_before p w x f all is =
    let stops : prefix_len (λ c. not (p c)) (x ∷ f) ≡ 0 = rw is refl in
    prefix_all (λ c. not (p c)) w (x ∷ f) all ∙ ap (λ (n : ℕ). length w + n) stops ∙ (let e : length w + 0 ≡ length w = omega arith in e)

cut_before : (p : ℕ → Bool) (w : List ℕ) (x : ℕ) (f : List ℕ) → list_all (λ c. not (p c)) w ≡ true → p x ≡ true → before_first p (w ++ x ∷ f) ≡ w
cut_before p w x f all is = ap (λ (k : ℕ). take k (w ++ x ∷ f)) (length_before p w x f all is) ∙ take-append-le (length w) w (x ∷ f) (omega arith) ∙ take-length w

cut_after : (p : ℕ → Bool) (w : List ℕ) (x : ℕ) (f : List ℕ) → list_all (λ c. not (p c)) w ≡ true → p x ≡ true → after_first p (w ++ x ∷ f) ≡ f
cut_after p w x f all is = ap (λ (k : ℕ). drop (k + 1) (w ++ x ∷ f)) (length_before p w x f all is) ∙ drop_past w x f

length_whole : (p : ℕ → Bool) (w : List ℕ) → list_all (λ c. not (p c)) w ≡ true → position_or_len p w ≡ length w
length_whole p w all =
    ap (prefix_len (λ c. not (p c))) (sym (append-nil w)) ∙ prefix_all (λ c. not (p c)) w [] all ∙ (let e : length w + 0 ≡ length w = omega arith in e)

whole_before : (p : ℕ → Bool) (w : List ℕ) → list_all (λ c. not (p c)) w ≡ true → before_first p w ≡ w
whole_before p w all = ap (λ (k : ℕ). take k w) (length_whole p w all) ∙ take-length w

whole_after : (p : ℕ → Bool) (w : List ℕ) → list_all (λ c. not (p c)) w ≡ true → after_first p w ≡ []
whole_after p w all = let e = length_whole p w all in drop_of_length-le w {i = position_or_len p w + 1} (omega arith)

-- ---- fields

begins : (w rest : List ℕ) → 0 < length w → list_all is_no_blank w ≡ true → without_blanks (w ++ rest) ≡ w ++ rest
begins [] rest some all = absurd (omega arith)
begins (c ∷ w) rest some all =
    let first = (and_parts (is_no_blank c) (list_all is_no_blank w) all).0 in
    ap (λ (k : ℕ). drop k (c ∷ (w ++ rest))) (let e : prefix_len (λ x. not (is_no_blank x)) (c ∷ (w ++ rest)) ≡ 0 = rw first refl in e)

pub fields_joined : (w : List ℕ) (ws : List (List ℕ)) → IsWord w → AreWords ws → fields_of (w ++ joined ws) ≡ w ∷ ws
fields_joined w [] is all =
    let front = ap without_blanks (sym (append-nil w)) ∙ begins w [] is.some is.no_blank ∙ append-nil w in
    ap fields_of (append-nil w) ∙ fields_of-cons w is.some front ∙ (λ n. whole_before is_blank w is.no_blank n ∷ fields_of (whole_after is_blank w is.no_blank n)) ∙ ap (λ (fs : List (List ℕ)). w ∷ fs) fields_of-nil
fields_joined w (v ∷ vs) is (first, rest) =
    let tail = v ++ joined vs in
    let some : 0 < length (w ++ 32 ∷ tail) = (let s = is.some in omega (arith, length-append w (32 ∷ tail))) in
    fields_of-cons (w ++ 32 ∷ tail) some (begins w (32 ∷ tail) is.some is.no_blank)
    ∙ (λ n. cut_before is_blank w 32 tail is.no_blank refl n ∷ fields_of (cut_after is_blank w 32 tail is.no_blank refl n))
    ∙ ap (λ (fs : List (List ℕ)). w ∷ fs) (fields_joined v vs first rest)

-- ---- a line

joined_all : (q : ℕ → Bool) → q 32 ≡ true → (ws : List (List ℕ)) → AllByRecursion (λ w. list_all q w ≡ true) ws → list_all q (joined ws) ≡ true
joined_all q space [] all = refl
joined_all q space (w ∷ ws) all = rw (space, list_all-append q w (joined ws), all.0) (joined_all q space ws all.1)

no_feeds : (ws : List (List ℕ)) → AreWords ws → AllByRecursion (λ w. list_all (λ c. not (is_line_feed c)) w ≡ true) ws
no_feeds [] all = tt
no_feeds (w ∷ ws) all = (all.0.no_feed, no_feeds ws all.1)

no_marks : (ws : List (List ℕ)) → AreWords ws → AllByRecursion (λ w. list_all (λ c. not (is_comment_mark c)) w ≡ true) ws
no_marks [] all = tt
no_marks (w ∷ ws) all = (all.0.no_mark, no_marks ws all.1)

-- a line of words is one content line, with these fields
pub line_read : (k : ℕ) (w : List ℕ) (ws : List (List ℕ)) (rest : List ℕ) → IsWord w → AreWords ws
    → content_lines_from k (lines_of ((w ++ joined ws) ++ 10 ∷ rest)) ≡ record { line = k; fields = w ∷ ws } ∷ content_lines_from (k + 1) (lines_of rest)
line_read k w ws rest is all =
    let content = w ++ joined ws in
    let bytes = content ++ 10 ∷ rest in
    let feeds : list_all (λ c. not (is_line_feed c)) content ≡ true = rw (list_all-append (λ c. not (is_line_feed c)) w (joined ws), is.no_feed) (joined_all (λ c. not (is_line_feed c)) refl ws (no_feeds ws all)) in
    let marks : list_all (λ c. not (is_comment_mark c)) content ≡ true = rw (list_all-append (λ c. not (is_comment_mark c)) w (joined ws), is.no_mark) (joined_all (λ c. not (is_comment_mark c)) refl ws (no_marks ws all)) in
    let before : before_first is_line_feed bytes ≡ content = cut_before is_line_feed content 10 rest feeds refl in
    let fields : fields_of (content_of (before_first is_line_feed bytes)) ≡ w ∷ ws = ap (λ (s : List ℕ). fields_of (content_of s)) before ∙ ap fields_of (whole_before is_comment_mark content marks) ∙ fields_joined w ws is all in
    let some : 0 < length bytes = omega (arith, length-append content (10 ∷ rest)) in
    let has : eqb (length (fields_of (content_of (before_first is_line_feed bytes)))) 0 ≡ false = ap (λ (fs : List (List ℕ)). eqb (length fs) 0) fields ∙ ne_eqb (suc (length ws)) 0 (λ e. omega arith) in
    gives_line k bytes some has ∙ (λ n. record { line = k; fields = fields n } ∷ content_lines_from (k + 1) (lines_of (cut_after is_line_feed content 10 rest feeds refl n)))
