-- A printed decimal is read back.
use Rattle.std.proofs.Common.{◌≡◌, ◌≢◌, ℕ, zero, suc, ◌+◌, ◌-◌, ◌/◌, ◌%◌, ◌^◌, ◌<◌, ◌≤◌, Bool, true, false, eqb, ℤ, pos, negsuc, List, [], ◌∷◌, ◌++◌, length, take, drop, map, replicate, Option, Some, refl, sym, ap, ◌∙◌, arith, inl, inr, length-append}
use Rattle.std.specs.Prelude.{not, int_lt, unsigned_abs}
use Rattle.std.specs.List.{list_all, prefix_len}
use Rattle.std.specs.Char.{is_ascii_digit, digit_value}
use Rattle.std.specs.Int.Digits.{digits_of, number_from_digits, AllBelowBase}
use Rattle.std.specs.Str.Parse.{digits_value, starts_with_minus, without_leading_sign}
use Rattle.std.proofs.lemmas.Bool.{and_parts, ne_eqb, eq-eqb, cases_eq, lt-ltb, le-ltb, le-leb, cond-false}
use Rattle.std.proofs.lemmas.Int.Digits.{digits_value_is, number_digits_of, all_below_base_digits_of, length-digits_of-le}
use Rattle.std.proofs.lemmas.List.{append-nil, length-map, length-replicate, length-take, length-drop, take-append-drop}
use Rattle.std.proofs.lemmas.List.Folds.{list_all-append}
use Rattle.std.proofs.Math.ListN.{drop_of_length-le}
use Rattle.tet_text.specs.Numbers.{are_digits, number_of}
use Rattle.tet_text.specs.Decimals.{Scaled, is_point, is_exponent_mark, lowest, with_sign, signed, decimal_of}
use Rattle.tet_text.specs.Printing.{glyphs, numeral, size_text, sign_text}
use Rattle.tet_text.specs.Laws.{PrintedLaw}
use Rattle.tet_text.proofs.Numerals.{digit_value_is}
use Rattle.tet_text.proofs.PlainTexts.{AreDigits, glyph, no_marks, drop_past, plain_is, plain_parts}
use Rattle.tet_text.proofs.Texts.{numeral_zero, numeral_glyphs}

-- ---- digits

glyphs_digits : (ds : List ℕ) → AllBelowBase 10 ds → AreDigits (map (λ d. 48 + d) ds)
glyphs_digits [] all = refl
glyphs_digits (d ∷ ds) all =
    let lt : d < 10 = all.0 in
    rw (le-leb 48 (48 + d) (omega arith), le-leb (48 + d) 57 (omega arith)) (glyphs_digits ds all.1)

glyphs_back : (ds : List ℕ) → AllBelowBase 10 ds → map digit_value (map (λ d. 48 + d) ds) ≡ ds
glyphs_back [] all = refl
glyphs_back (d ∷ ds) all =
    let lt : d < 10 = all.0 in
    let e : digit_value (48 + d) ≡ d = digit_value_is (48 + d) (omega arith) (omega arith) ∙ omega arith in
    ap (λ (x : ℕ). x ∷ map digit_value (map (λ d. 48 + d) ds)) e ∙ ap (λ (xs : List ℕ). d ∷ xs) (glyphs_back ds all.1)

numeral_digits : (n : ℕ) → AreDigits (numeral n)
numeral_digits n =
    elim (cases_eq n 0) [
      | inl none ↦ rw (numeral_zero n none) refl
      | inr some ↦ rw (numeral_glyphs n some) (glyphs_digits (digits_of 10 n) (all_below_base_digits_of 10 n (omega arith)))
    ]

numeral_value : (n : ℕ) → digits_value 10 (numeral n) ≡ n
numeral_value n =
    elim (cases_eq n 0) [
      | inl none ↦ rw (numeral_zero n none) (sym none)
      | inr some ↦
          let ds = digits_of 10 n in
          ap (λ (t : List ℕ). digits_value 10 t) (numeral_glyphs n some) ∙ digits_value_is 10 (glyphs n)
          ∙ ap (λ (t : List ℕ). number_from_digits 10 t) (glyphs_back ds (all_below_base_digits_of 10 n (omega arith))) ∙ number_digits_of 10 n (omega arith)
    ]

numeral_short : (n : ℕ) → n < 10 ^ 36 → length (numeral n) ≤ 36
numeral_short n small =
    elim (cases_eq n 0) [
      | inl none ↦ rw (numeral_zero n none) (omega arith)
      | inr some ↦
          let e = ap length (numeral_glyphs n some) ∙ length-map (digits_of 10 n) (λ d. 48 + d) in
          omega (arith, length-digits_of-le 10 36 n (omega arith) small)
    ]

zeros_digits : (k : ℕ) → AreDigits (replicate k 48)
zeros_digits zero = refl
zeros_digits (suc k) = zeros_digits k

zeros_value : (k : ℕ) (digits : List ℕ) → digits_value 10 (replicate k 48 ++ digits) ≡ digits_value 10 digits
zeros_value zero digits = refl
zeros_value (suc k) digits = zeros_value k digits

-- ---- the sign

minus_first : (negative : Bool) (c : ℕ) (rest : List ℕ) → is_ascii_digit c ≡ true → starts_with_minus (sign_text negative ++ c ∷ rest) ≡ negative
minus_first true c rest is = refl
minus_first false c rest is = (glyph c is).no_minus

sign_cut : (negative : Bool) (c : ℕ) (rest : List ℕ) → is_ascii_digit c ≡ true → without_leading_sign (sign_text negative ++ c ∷ rest) ≡ c ∷ rest
sign_cut true c rest is = refl
sign_cut false c rest is = let g = glyph c is in rw (g.no_minus, g.no_plus) refl

-- ---- the number

lowest_kept : (n s : ℕ) → (0 < s → n % 10 ≢ 0) → lowest n s ≡ (n, s)
lowest_kept n zero last = refl
lowest_kept n (suc s) last = cond-false (eqb (n % 10) 0) (lowest (n / 10) s) (n, suc s) (ne_eqb (n % 10) 0 (last (omega arith)))

number_written : (ds : List ℕ) (n : ℕ) → AreDigits ds → 0 < length ds → length ds ≤ 36 → digits_value 10 ds ≡ n → number_of 36 ds ≡ Some n
unfolding are_digits
number_written ds n all some few value = rw (lt-ltb 0 (length ds) some, le-leb (length ds) 36 few, all) (ap (λ (m : ℕ). let o : Option ℕ = Some m in o) value)

-- digits before the point, and what stands behind them
read_back : (negative : Bool) (w tail f : List ℕ) (n s : ℕ) → AreDigits w → AreDigits f → 0 < length w → list_all (λ c. not (is_exponent_mark c)) tail ≡ true
    → prefix_len (λ c. not (is_point c)) tail ≡ 0 → drop (length w + 1) (w ++ tail) ≡ f → length (w ++ f) ≤ 36 → digits_value 10 (w ++ f) ≡ n → length f ≡ s → n < 10 ^ 36 → (0 < s → n % 10 ≢ 0)
    → decimal_of (sign_text negative ++ (w ++ tail)) ≡ Some (with_sign negative (n, s))
read_back negative [] tail f n s all-w all-f some marks stops rest few value long small last = absurd (omega arith)
read_back negative (c ∷ w) tail f n s all-w all-f some marks stops rest few value long small last =
    let digit = (and_parts (is_ascii_digit c) (list_all is_ascii_digit w) all-w).0 in
    let u = c ∷ w ++ tail in
    let both : AreDigits ((c ∷ w) ++ f) = list_all-append is_ascii_digit (c ∷ w) f ∙ rw (all-w, all-f) refl in
    let more = length-append (c ∷ w) f in
    let plain = plain_parts (c ∷ w) tail f n s all-w marks stops rest
    (number_written ((c ∷ w) ++ f) n both (omega arith) few value) long in
    plain_is (sign_text negative ++ u) u negative n s
    (minus_first negative c (w ++ tail) digit) (sign_cut negative c (w ++ tail) digit) plain small
    ∙ ap (λ (p : ℕ × ℕ). let o : Option Scaled = Some (with_sign negative p) in o) (lowest_kept n s last)

-- ---- the text

size_back : (negative : Bool) (n s : ℕ) → n < 10 ^ 36 → (0 < s → n % 10 ≢ 0) → s ≤ 35 → decimal_of (sign_text negative ++ size_text n s) ≡ Some (with_sign negative (n, s))
size_back negative n s small last few =
    let digits = numeral n in
    let zeros : List ℕ = replicate (s + 1 - length digits) 48 in
    let ds : List ℕ = zeros ++ digits in
    let long : length ds ≡ s + 1 - length digits + length digits = length-append zeros digits ∙ ap (λ (k : ℕ). k + length digits) (length-replicate (s + 1 - length digits) 48) in
    let short = numeral_short n small in
    let all : AreDigits ds = list_all-append is_ascii_digit zeros digits ∙ rw (zeros_digits (s + 1 - length digits), numeral_digits n) refl in
    let value : digits_value 10 ds ≡ n = zeros_value (s + 1 - length digits) digits ∙ numeral_value n in
    let k = length ds - s in
    let w : List ℕ = take k ds in
    let f : List ℕ = drop k ds in
    let joined : w ++ f ≡ ds = take-append-drop k ds in
    let parts = and_parts (list_all is_ascii_digit w) (list_all is_ascii_digit f) (sym (list_all-append is_ascii_digit w f) ∙ ap (list_all is_ascii_digit) joined ∙ all) in
    let taken = length-take k ds in
    let dropped = length-drop k ds in
    let w-some : 0 < length w = omega arith in
    let f-long : length f ≡ s = omega arith in
    let count : length (w ++ f) ≤ 36 = omega (arith, ap length joined) in
    let written : digits_value 10 (w ++ f) ≡ n = ap (digits_value 10) joined ∙ value in
    elim (cases_eq s 0) [
      | inl none ↦
          let plain : length (w ++ []) ≡ length w = ap length (append-nil w) in
          let rest : drop (length w + 1) (w ++ []) ≡ f = drop_of_length-le (w ++ []) {i = length w + 1} (omega arith) ∙ sym (drop_of_length-le ds {i = k} (omega arith)) in
          rw (eq-eqb s 0 none) (read_back negative w [] f n s parts.0 parts.1 w-some refl refl rest count written f-long small last)
      | inr some ↦ rw (ne_eqb s 0 some) (read_back negative w (46 ∷ f) f n s parts.0 parts.1 w-some (no_marks f parts.1) refl (drop_past w 46 f) count written f-long small last)
    ]

value_back : (v : ℤ) → signed (int_lt v (pos 0)) (unsigned_abs v) ≡ v
value_back (pos m) = rw (le-ltb m 0 (omega arith)) refl
value_back (negsuc m) = refl

pub printed_law : PrintedLaw
printed_law d is few =
    size_back (int_lt d.value (pos 0)) (unsigned_abs d.value) d.scale is.small is.no_trailing_zero few
    ∙ ap (λ (v : ℤ). let o : Option Scaled = Some (record { value = v; scale = d.scale }) in o) (value_back d.value)
