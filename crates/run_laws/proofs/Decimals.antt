-- Printed numbers, as words that are read back.
use Rattle.std.proofs.Common.{◌≡◌, ℕ, suc, ◌^◌, ◌<◌, ℤ, pos, negsuc, neg_ℤ, unsigned_abs, Bool, true, false, cond, List, [], ◌∷◌, length, drop, Some, None, refl, ap, sym, ◌∙◌, arith, lit≤}
use Rattle.std.specs.Prelude.{not, ◌&&◌}
use Rattle.std.specs.List.{list_all}
use Rattle.std.specs.Fmt.{decimal, signed_decimal}
use Rattle.std.specs.Char.{is_ascii_digit}
use Rattle.std.specs.Str.{all_ascii_digits}
use Rattle.std.specs.Str.Parse.{digits_value, starts_with_minus, without_leading_sign, without_leading_plus}
use Rattle.std.proofs.Math.Nat.{lt_of_lt_of_le}
use Rattle.std.proofs.lemmas.Bool.{and_parts, ne_eqb, lt-ltb, le-leb}
use Rattle.std.proofs.lemmas.Fmt.{digits_decimal, digits_value-decimal, decimal_nonempty, length-decimal-le}
use Rattle.std.proofs.lemmas.Str.Parse.{numerals_by_value, tells_all_ascii_digits}
use Rattle.tet_text.specs.Lines.{is_line_feed, is_comment_mark}
use Rattle.tet_text.specs.Numbers.{are_digits, count_of, whole_of}
use Rattle.tet_text.proofs.Numerals.{digit_bounds}
use Rattle.tet_text.proofs.PlainTexts.{no_blanks}
use Rattle.run_laws.specs.Reread.{IsShortNumber}
use Rattle.run_laws.proofs.Words.{IsWord}

wide : (n : ℕ) → IsShortNumber n → n < 2 ^ 64
wide n h = lt_of_lt_of_le h (lit≤ tt)

as_test : (w : List ℕ) → all_ascii_digits w ≡ list_all is_ascii_digit w
as_test [] = refl
as_test (c ∷ w) = ap (λ (b : Bool). is_ascii_digit c && b) (as_test w)

digits_are : (n : ℕ) → IsShortNumber n → list_all is_ascii_digit (decimal n) ≡ true
digits_are n h = sym (as_test (decimal n)) ∙ digits_decimal (numerals_by_value (λ ds. all_ascii_digits ds ≡ true) tells_all_ascii_digits) n (wide n h)

value_is : (n : ℕ) → IsShortNumber n → digits_value 10 (decimal n) ≡ n
value_is n h = digits_value-decimal (numerals_by_value (λ ds. all_ascii_digits ds ≡ true) tells_all_ascii_digits) n (wide n h)

digits_pass : (q : ℕ → Bool) → ((c : ℕ) → is_ascii_digit c ≡ true → q c ≡ true) → (w : List ℕ) → list_all is_ascii_digit w ≡ true → list_all q w ≡ true
digits_pass q each [] all = refl
digits_pass q each (c ∷ w) all = let both = and_parts (is_ascii_digit c) (list_all is_ascii_digit w) all in rw (each c both.0) (digits_pass q each w both.1)

no_feed : (c : ℕ) → is_ascii_digit c ≡ true → not (is_line_feed c) ≡ true
no_feed c is = let low = (digit_bounds c is).0 in rw (ne_eqb c 10 (λ e. omega arith)) refl

no_mark : (c : ℕ) → is_ascii_digit c ≡ true → not (is_comment_mark c) ≡ true
no_mark c is = let low = (digit_bounds c is).0 in rw (ne_eqb c 35 (λ e. omega arith)) refl

pub decimal_word : (n : ℕ) → IsShortNumber n → IsWord (decimal n)
decimal_word n h =
    let all = digits_are n h in
    record { some = decimal_nonempty n (wide n h); no_blank = no_blanks (decimal n) all; no_feed = digits_pass _ no_feed (decimal n) all; no_mark = digits_pass _ no_mark (decimal n) all }

are_short_digits : (n : ℕ) → IsShortNumber n → are_digits 18 (decimal n) ≡ true
unfolding are_digits
are_short_digits n h =
    rw (lt-ltb 0 (length (decimal n)) (decimal_nonempty n (wide n h)), le-leb (length (decimal n)) 18 (length-decimal-le 18 n (omega arith) h (wide n h)), digits_are n h) refl

pub count_is : (n : ℕ) → IsShortNumber n → count_of (decimal n) ≡ Some n
count_is n h = rw (are_short_digits n h) (ap Some (value_is n h))

-- ---- with a sign

no_minus : (w : List ℕ) → 0 < length w → list_all is_ascii_digit w ≡ true → starts_with_minus w ≡ false
no_minus [] some all = absurd (omega arith)
no_minus (c ∷ w) some all = let low = (digit_bounds c (and_parts (is_ascii_digit c) (list_all is_ascii_digit w) all).0).0 in ne_eqb c 45 (λ e. omega arith)

no_plus : (w : List ℕ) → 0 < length w → list_all is_ascii_digit w ≡ true → without_leading_plus w ≡ w
no_plus [] some all = absurd (omega arith)
no_plus (c ∷ w) some all =
    let low = (digit_bounds c (and_parts (is_ascii_digit c) (list_all is_ascii_digit w) all).0).0 in
    ap (λ (b : Bool). drop (cond b 1 0) (c ∷ w)) (ne_eqb c 43 (λ e. omega arith))

unsigned_is : (n : ℕ) → IsShortNumber n → without_leading_sign (decimal n) ≡ decimal n
unsigned_is n h =
    let some = decimal_nonempty n (wide n h) in
    let all = digits_are n h in
    ap (λ (b : Bool). cond b (drop 1 (decimal n)) (without_leading_plus (decimal n))) (no_minus (decimal n) some all) ∙ no_plus (decimal n) some all

read_whole : (text : List ℕ) (negative : Bool) (n : ℕ) → IsShortNumber n → starts_with_minus text ≡ negative → without_leading_sign text ≡ decimal n → whole_of text ≡ Some (cond negative (neg_ℤ (pos n)) (pos n))
read_whole text negative n h minus unsigned =
    ap (λ (w : List ℕ). cond (are_digits 18 w) (Some (cond (starts_with_minus text) (neg_ℤ (pos (digits_value 10 w))) (pos (digits_value 10 w)))) None) unsigned
    ∙ ap (λ (b : Bool). cond b (Some (cond (starts_with_minus text) (neg_ℤ (pos (digits_value 10 (decimal n)))) (pos (digits_value 10 (decimal n))))) None) (are_short_digits n h)
    ∙ ap (λ (b : Bool). Some (cond b (neg_ℤ (pos (digits_value 10 (decimal n)))) (pos (digits_value 10 (decimal n))))) minus
    ∙ ap (λ (k : ℕ). Some (cond negative (neg_ℤ (pos k)) (pos k))) (value_is n h)

pub whole_is : (z : ℤ) → IsShortNumber (unsigned_abs z) → whole_of (signed_decimal z) ≡ Some z
whole_is (pos n) h = read_whole (decimal n) false n h (no_minus (decimal n) (decimal_nonempty n (wide n h)) (digits_are n h)) (unsigned_is n h)
whole_is (negsuc m) h = read_whole (45 ∷ decimal (suc m)) true (suc m) h refl refl

pub signed_word : (z : ℤ) → IsShortNumber (unsigned_abs z) → IsWord (signed_decimal z)
signed_word (pos n) h = decimal_word n h
signed_word (negsuc m) h = let w = decimal_word (suc m) h in record { some = omega arith; no_blank = w.no_blank; no_feed = w.no_feed; no_mark = w.no_mark }
