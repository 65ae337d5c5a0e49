-- A text of digits with at most one point.
use Rattle.std.proofs.Common.{◌≡◌, ℕ, suc, ◌+◌, ◌-◌, ◌^◌, ◌<◌, ◌≤◌, Bool, true, false, eqb, List, [], ◌∷◌, ◌++◌, length, get_or, take, drop, Option, Some, refl, ap, ◌∙◌, subst, arith, inl, inr, length-append, append_assoc}
use Rattle.std.specs.Prelude.{not, option_and_then}
use Rattle.std.specs.List.{list_all, prefix_len, before_first, after_first}
use Rattle.std.specs.Char.{is_ascii_digit}
use Rattle.std.specs.Str.Parse.{starts_with_minus, without_leading_sign}
use Rattle.std.proofs.lemmas.Bool.{and_parts, ne_eqb, le-ltb, cases_Bool}
use Rattle.std.proofs.lemmas.List.{append-nil, take-append-le, take_more}
use Rattle.std.proofs.lemmas.List.Folds.{list_all-append}
use Rattle.std.proofs.Math.ListN.{drop_of_length-le}
use Rattle.std.proofs.Math.Seq.{take-length, take-add}
use Rattle.tet_text.specs.Lines.{is_blank, is_no_blank}
use Rattle.tet_text.specs.Numbers.{are_digits, number_of, digits_from}
use Rattle.tet_text.specs.Decimals.{◌>>=◌, Parts, is_point, is_exponent_mark, mantissa_of, exponent_of, steps_of, lowest, scaled_of, with_sign, decimal_of_parts, decimal_of}
use Rattle.tet_text.specs.PlainTexts.{IsPlain}
use Rattle.tet_text.proofs.Numerals.{digit_bounds, number_of_fits, digits_from_joined}
use Rattle.tet_text.proofs.Scaling.{scaled_down}

-- a digit is no sign, no point and no mark of an exponent
pub record IsGlyph (c : ℕ) : Type 0 where
  pub no_point : is_point c ≡ false
  pub no_mark : is_exponent_mark c ≡ false
  pub no_minus : eqb c 45 ≡ false
  pub no_plus : eqb c 43 ≡ false
  pub no_blank : is_blank c ≡ false

pub glyph : (c : ℕ) → is_ascii_digit c ≡ true → IsGlyph c
glyph c is =
    let bounds = digit_bounds c is in
    let low = bounds.0 in
    let high = bounds.1 in
    record {
      no_point = ne_eqb c 46 (λ e. omega arith);
      no_mark = rw (ne_eqb c 101 (λ e. omega arith), ne_eqb c 69 (λ e. omega arith)) refl;
      no_minus = ne_eqb c 45 (λ e. omega arith);
      no_plus = ne_eqb c 43 (λ e. omega arith);
      no_blank = rw (ne_eqb c 32 (λ e. omega arith), ne_eqb c 9 (λ e. omega arith), ne_eqb c 13 (λ e. omega arith)) refl;
    }

abbrev pub AreDigits : List ℕ → Type 0
AreDigits text = list_all is_ascii_digit text ≡ true

no_points : (w : List ℕ) → AreDigits w → list_all (λ c. not (is_point c)) w ≡ true
no_points [] all = refl
no_points (c ∷ w) all = let both = and_parts (is_ascii_digit c) (list_all is_ascii_digit w) all in rw (glyph c both.0).no_point (no_points w both.1)

pub no_marks : (w : List ℕ) → AreDigits w → list_all (λ c. not (is_exponent_mark c)) w ≡ true
no_marks [] all = refl
no_marks (c ∷ w) all = let both = and_parts (is_ascii_digit c) (list_all is_ascii_digit w) all in rw (glyph c both.0).no_mark (no_marks w both.1)

pub no_blanks : (w : List ℕ) → AreDigits w → list_all is_no_blank w ≡ true
no_blanks [] all = refl
no_blanks (c ∷ w) all = let both = and_parts (is_ascii_digit c) (list_all is_ascii_digit w) all in rw (glyph c both.0).no_blank (no_blanks w both.1)

-- ---- cutting

pub prefix_all : (q : ℕ → Bool) (w rest : List ℕ) → list_all q w ≡ true → prefix_len q (w ++ rest) ≡ length w + prefix_len q rest
prefix_all q [] rest all = omega arith
prefix_all q (c ∷ w) rest all = let both = and_parts (q c) (list_all q w) all in rw both.0 (omega (arith, prefix_all q w rest both.1))

prefix_whole : (q : ℕ → Bool) (w : List ℕ) → list_all q w ≡ true → prefix_len q w ≡ length w
prefix_whole q [] all = refl
prefix_whole q (c ∷ w) all = let both = and_parts (q c) (list_all q w) all in rw both.0 (omega (arith, prefix_whole q w both.1))

pub drop_past : (w : List ℕ) (x : ℕ) (f : List ℕ) → drop (length w + 1) (w ++ x ∷ f) ≡ f
drop_past [] x f = refl
drop_past (c ∷ w) x f =
    let e : suc (length w) + 1 ≡ suc (length w + 1) = omega arith in
    ap (λ (k : ℕ). drop k (c ∷ w ++ x ∷ f)) e ∙ drop_past w x f

cut_before : (w tail : List ℕ) → AreDigits w → prefix_len (λ c. not (is_point c)) tail ≡ 0 → before_first is_point (w ++ tail) ≡ w
cut_before w tail all stops =
    let e : prefix_len (λ c. not (is_point c)) (w ++ tail) ≡ length w = prefix_all (λ c. not (is_point c)) w tail (no_points w all) ∙ omega arith in
    ap (λ (k : ℕ). take k (w ++ tail)) e ∙ take-append-le (length w) w tail (omega arith) ∙ take-length w

cut_after : (w tail f : List ℕ) → AreDigits w → prefix_len (λ c. not (is_point c)) tail ≡ 0 → drop (length w + 1) (w ++ tail) ≡ f → after_first is_point (w ++ tail) ≡ f
cut_after w tail f all stops rest =
    let e : prefix_len (λ c. not (is_point c)) (w ++ tail) ≡ length w = prefix_all (λ c. not (is_point c)) w tail (no_points w all) ∙ omega arith in
    ap (λ (k : ℕ). drop (k + 1) (w ++ tail)) e ∙ rest

whole_mantissa : (u : List ℕ) → list_all (λ c. not (is_exponent_mark c)) u ≡ true → mantissa_of u ≡ u
whole_mantissa u all = ap (λ (k : ℕ). take k u) (prefix_whole (λ c. not (is_exponent_mark c)) u all) ∙ take-length u

no_exponent : (u : List ℕ) → list_all (λ c. not (is_exponent_mark c)) u ≡ true → exponent_of u ≡ 48 ∷ []
no_exponent u all =
    let e = prefix_whole (λ c. not (is_exponent_mark c)) u all in
    rw (le-ltb (prefix_len (λ c. not (is_exponent_mark c)) u) (length u) (omega arith)) refl

-- ---- the decimal

abbrev made : Bool → List ℕ → List ℕ → List ℕ → Parts
made negative whole fraction exponent = record { negative = negative; whole = whole; fraction = fraction; exponent = exponent }

no_steps : steps_of (48 ∷ []) ≡ Some (0, 0)
unfolding are_digits
no_steps = refl

decimal_made : (negative : Bool) (w f : List ℕ) (n s : ℕ) → number_of 36 (w ++ f) ≡ Some n → length f ≡ s → n < 10 ^ 36
    → decimal_of_parts (made negative w f (48 ∷ [])) ≡ Some (with_sign negative (lowest n s))
unfolding decimal_of_parts
decimal_made negative w f n s number long small =
    let none : length f + 0 - 0 ≡ s = omega arith in
    let scaled : scaled_of n 0 (length f + 0) ≡ Some (lowest n s) =
    scaled_down n 0 (length f + 0) small (omega arith) ∙ ap (λ (k : ℕ). let o : Option (ℕ × ℕ) = Some (lowest n k) in o) none in
    ap (λ (o : Option ℕ). o >>= λ digits. steps_of (48 ∷ []) >>= λ steps.
    scaled_of digits steps.0 (length f + steps.1) >>= λ scaled. Some (with_sign negative scaled)) number
    ∙ ap (λ (o : Option (ℕ × ℕ)). o >>= λ steps.
    scaled_of n steps.0 (length f + steps.1) >>= λ scaled. Some (with_sign negative scaled)) no_steps
    ∙ ap (λ (o : Option (ℕ × ℕ)). o >>= λ scaled. Some (with_sign negative scaled)) scaled

pub plain_is : (text u : List ℕ) (negative : Bool) (number scale : ℕ) → starts_with_minus text ≡ negative → without_leading_sign text ≡ u
    → IsPlain u number scale → number < 10 ^ 36 → decimal_of text ≡ Some (with_sign negative (lowest number scale))
plain_is text u negative number scale minus unsigned plain small =
    let w = before_first is_point (mantissa_of u) in
    let f = after_first is_point (mantissa_of u) in
    ap (λ (v : List ℕ). decimal_of_parts (made (starts_with_minus text)
    (before_first is_point (mantissa_of v)) (after_first is_point (mantissa_of v)) (exponent_of v))) unsigned
    ∙ ap (λ (b : Bool). decimal_of_parts (made b w f (exponent_of u))) minus
    ∙ ap (λ (e : List ℕ). decimal_of_parts (made negative w f e)) plain.no_exponent
    ∙ decimal_made negative w f number scale plain.digits plain.decimals small

-- ---- the digits before the point, and what stands behind them

pub plain_parts : (w tail f : List ℕ) (number scale : ℕ) → AreDigits w → list_all (λ c. not (is_exponent_mark c)) tail ≡ true
    → prefix_len (λ c. not (is_point c)) tail ≡ 0 → drop (length w + 1) (w ++ tail) ≡ f
    → number_of 36 (w ++ f) ≡ Some number → length f ≡ scale → IsPlain (w ++ tail) number scale
plain_parts w tail f number scale all marks stops rest digits decimals =
    let u = w ++ tail in
    let unmarked : list_all (λ c. not (is_exponent_mark c)) u ≡ true =
    list_all-append (λ c. not (is_exponent_mark c)) w tail ∙ rw (no_marks w all, marks) refl in
    let before : before_first is_point (mantissa_of u) ≡ w =
    ap (before_first is_point) (whole_mantissa u unmarked) ∙ cut_before w tail all stops in
    let after : after_first is_point (mantissa_of u) ≡ f =
    ap (after_first is_point) (whole_mantissa u unmarked) ∙ cut_after w tail f all stops rest in
    record {
      no_exponent = no_exponent u unmarked;
      digits = ap (λ (x : List ℕ). number_of 36 (x ++ after_first is_point (mantissa_of u))) before
          ∙ ap (λ (x : List ℕ). number_of 36 (w ++ x)) after ∙ digits;
      decimals = ap length after ∙ decimals;
    }

are_digits_of : (before n : ℕ) (text : List ℕ) → digits_from before text ≡ Some n → AreDigits text
unfolding digits_from
are_digits_of before n text is =
    elim (cases_Bool (list_all is_ascii_digit text)) [
      | inl all ↦ all
      | inr other ↦ let none = rw other at is in absurd cc
    ]

-- digits alone
pub whole_plain : (u : List ℕ) (n : ℕ) → 0 < length u → length u ≤ 36 → digits_from 0 u ≡ Some n → IsPlain u n 0
whole_plain u n some few digits =
    let plain : length (u ++ []) ≡ length u = ap length (append-nil u) in
    let number : number_of 36 (u ++ []) ≡ Some n = ap (number_of 36) (append-nil u) ∙ number_of_fits 36 u some few ∙ digits in
    subst (λ (v : List ℕ). IsPlain v n 0) (append-nil u)
    (plain_parts u [] [] n 0 (are_digits_of 0 n u digits) refl refl (drop_of_length-le (u ++ []) {i = length u + 1} (omega arith)) number refl)

pub whole_no_blank : (before n : ℕ) (u : List ℕ) → digits_from before u ≡ Some n → list_all is_no_blank u ≡ true
whole_no_blank before n u digits = no_blanks u (are_digits_of before n u digits)

-- digits, a point, and digits behind it, at least one in all
pub pointed_plain : (w f : List ℕ) (m n : ℕ) → 0 < length w + length f → length w + length f ≤ 36
    → digits_from 0 w ≡ Some m → digits_from m f ≡ Some n
    → IsPlain (w ++ 46 ∷ f) n (length f)
pointed_plain w f m n some few first second =
    let count = length-append w f in
    let number : number_of 36 (w ++ f) ≡ Some n =
    number_of_fits 36 (w ++ f) (omega arith) (omega arith) ∙ digits_from_joined 0 w f
    ∙ ap (option_and_then (λ (x : ℕ). digits_from x f)) first ∙ second in
    plain_parts w (46 ∷ f) f n (length f) (are_digits_of 0 m w first)
    (no_marks f (are_digits_of m n f second)) refl (drop_past w 46 f) number refl

pub pointed_no_blank : (w f : List ℕ) (m n : ℕ) → digits_from 0 w ≡ Some m → digits_from m f ≡ Some n
    → list_all is_no_blank (w ++ 46 ∷ f) ≡ true
pointed_no_blank w f m n first second =
    list_all-append is_no_blank w (46 ∷ f) ∙ rw (whole_no_blank 0 m w first, whole_no_blank m n f second) refl

-- the first bytes, up to the point, and behind it
pub split_at_point : (u : List ℕ) (k j : ℕ) → k < length u → get_or u k 0 ≡ 46
    → take (k + 1 + j) u ≡ take k u ++ 46 ∷ take j (drop (k + 1) u)
split_at_point u k j within point =
    take-add (k + 1) j u
    ∙ ap (λ (x : List ℕ). x ++ take j (drop (k + 1) u)) (take_more u k 0 within ∙ ap (λ (x : ℕ). take k u ++ x ∷ []) point)
    ∙ append_assoc (take k u) (46 ∷ []) (take j (drop (k + 1) u))
