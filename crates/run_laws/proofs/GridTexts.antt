-- Texts of coordinates and whole numbers, as words.
use Rattle.std.proofs.Common.{◌≡◌, ℕ, zero, suc, ◌+◌, ◌-◌, ◌^◌, ◌<◌, ℤ, pos, negsuc, unsigned_abs, Bool, true, false, cond, ◌&&◌, List, [], ◌∷◌, ◌++◌, length, map, take, drop, refl, ap, sym, ◌∙◌, arith, inl, inr, ◌⊎◌, lit≤}
use Rattle.std.specs.Prelude.{not, int_lt, replicate, if◌then◌else◌, ◌==◌}
use Rattle.std.specs.List.{list_all}
use Rattle.std.specs.Fmt.{decimal, signed_decimal}
use Rattle.std.specs.Int.Digits.{digits_of}
use Rattle.std.proofs.Math.Nat.{lt_of_lt_of_le}
use Rattle.std.proofs.Math.Seq.{take-length}
use Rattle.std.proofs.lemmas.Bool.{and_parts, cases_eq, ne_eqb, le-ltb}
use Rattle.std.proofs.lemmas.Fmt.{decimal-digits_of, decimal_digit}
use Rattle.std.proofs.lemmas.List.{append-nil}
use Rattle.std.proofs.lemmas.List.Folds.{list_all-append}
use Rattle.tet_text.specs.Decimals.{Scaled}
use Rattle.tet_text.specs.Lines.{is_line_feed, is_comment_mark, is_no_blank}
use Rattle.tet_text.specs.Printing.{numeral, with_zeros, with_decimal_point, size_text, sign_text, decimal_text}
use Rattle.tet_text.proofs.Texts.{numeral_zero, numeral_glyphs, numeral_some, no_zeros}
use Rattle.node_files.specs.Writing.{whole_text}
use Rattle.run_laws.specs.Reread.{IsShortNumber}
use Rattle.run_laws.proofs.Words.{IsWord}

-- ---- whole numbers

wide : (n : ℕ) → IsShortNumber n → n < 2 ^ 64
wide n h = lt_of_lt_of_le h (lit≤ tt)

numeral_is : (n : ℕ) → IsShortNumber n → numeral n ≡ decimal n
numeral_is n h = go (cases_eq n 0)
  where
    go : (n ≡ 0) ⊎ (n ≡ 0 → ⊥) → numeral n ≡ decimal n
    go (inl e) = numeral_zero n e ∙ sym (ap decimal e ∙ decimal_digit 0 (omega arith))
    go (inr ne) = numeral_glyphs n ne ∙ sym (decimal-digits_of n (some n ne) (wide n h))
      where
        some : (n : ℕ) → (n ≡ 0 → ⊥) → 0 < n
        some n ne = grind arith

size_is : (n : ℕ) → IsShortNumber n → size_text n 0 ≡ decimal n
size_is n h =
    let some = numeral_some n in
    let whole : with_zeros 0 (numeral n) ≡ numeral n = no_zeros (numeral n) 0 some in
    ap (with_decimal_point 0) whole ∙ append-nil (take (length (numeral n) - 0) (numeral n)) ∙ ap (λ (k : ℕ). take k (numeral n)) (let e : length (numeral n) - 0 ≡ length (numeral n) = omega arith in e) ∙ take-length (numeral n) ∙ numeral_is n h

pub whole_is_decimal : (n : ℕ) → IsShortNumber n → whole_text (pos n) ≡ decimal n
whole_is_decimal n h = ap (λ (b : Bool). sign_text b ++ size_text n 0) (le-ltb n 0 (omega arith)) ∙ size_is n h

pub whole_is_signed : (z : ℤ) → IsShortNumber (unsigned_abs z) → whole_text z ≡ signed_decimal z
whole_is_signed (pos n) h = whole_is_decimal n h
whole_is_signed (negsuc m) h = ap (λ (w : List ℕ). 45 ∷ w) (size_is (suc m) h)

-- ---- decimals

-- a test that digits, a point and a minus pass
pub record Passes (q : ℕ → Bool) : Type 0 where
  pub digit : (d : ℕ) → q (48 + d) ≡ true
  pub point : q 46 ≡ true
  pub minus : q 45 ≡ true

glyphs_pass : (q : ℕ → Bool) → Passes q → (ds : List ℕ) → list_all q (map (λ d. 48 + d) ds) ≡ true
glyphs_pass q p [] = refl
glyphs_pass q p (d ∷ ds) = rw (p.digit d) (glyphs_pass q p ds)

numeral_pass : (q : ℕ → Bool) → Passes q → (n : ℕ) → list_all q (numeral n) ≡ true
numeral_pass q p n = go (cases_eq n 0)
  where
    go : (n ≡ 0) ⊎ (n ≡ 0 → ⊥) → list_all q (numeral n) ≡ true
    go (inl e) = ap (list_all q) (numeral_zero n e) ∙ rw (p.digit 0) refl
    go (inr ne) = ap (list_all q) (numeral_glyphs n ne) ∙ glyphs_pass q p (digits_of 10 n)

zeros_pass : (q : ℕ → Bool) → Passes q → (k : ℕ) → list_all q (replicate k 48) ≡ true
zeros_pass q p zero = refl
zeros_pass q p (suc k) = rw (p.digit 0) (zeros_pass q p k)

take_pass : (q : ℕ → Bool) (k : ℕ) (w : List ℕ) → list_all q w ≡ true → list_all q (take k w) ≡ true
take_pass q zero w all = refl
take_pass q (suc k) [] all = refl
take_pass q (suc k) (c ∷ w) all = let both = and_parts (q c) (list_all q w) all in rw both.0 (take_pass q k w both.1)

drop_pass : (q : ℕ → Bool) (k : ℕ) (w : List ℕ) → list_all q w ≡ true → list_all q (drop k w) ≡ true
drop_pass q zero w all = all
drop_pass q (suc k) [] all = refl
drop_pass q (suc k) (c ∷ w) all = drop_pass q k w (and_parts (q c) (list_all q w) all).1

size_pass : (q : ℕ → Bool) → Passes q → (n scale : ℕ) → list_all q (size_text n scale) ≡ true
size_pass q p n scale =
    let digits = with_zeros scale (numeral n) in
    let all : list_all q digits ≡ true = list_all-append q (replicate (scale + 1 - length (numeral n)) 48) (numeral n) ∙ rw (zeros_pass q p (scale + 1 - length (numeral n)), numeral_pass q p n) refl in
    list_all-append q (take (length digits - scale) digits) (if scale == 0 then [] else 46 ∷ drop (length digits - scale) digits)
    ∙ rw (take_pass q (length digits - scale) digits all) (tail (scale == 0) (drop (length digits - scale) digits) (drop_pass q (length digits - scale) digits all))
  where
    tail : (b : Bool) (w : List ℕ) → list_all q w ≡ true → list_all q (cond b [] (46 ∷ w)) ≡ true
    tail true w all = refl
    tail false w all = rw p.point all

pub text_pass : (q : ℕ → Bool) → Passes q → (d : Scaled) → list_all q (decimal_text d) ≡ true
text_pass q p d =
    list_all-append q (sign_text (int_lt d.value (pos 0))) (size_text (unsigned_abs d.value) d.scale)
    ∙ rw (size_pass q p (unsigned_abs d.value) d.scale) (sign (int_lt d.value (pos 0)))
  where
    sign : (b : Bool) → (list_all q (sign_text b) && true) ≡ true
    sign true = rw p.minus refl
    sign false = refl

blank : Passes is_no_blank
blank = record { digit = λ d. rw (ne_eqb (48 + d) 32 (λ e. omega arith), ne_eqb (48 + d) 9 (λ e. omega arith), ne_eqb (48 + d) 13 (λ e. omega arith)) refl; point = refl; minus = refl }

feed : Passes (λ c. not (is_line_feed c))
feed = record { digit = λ d. rw (ne_eqb (48 + d) 10 (λ e. omega arith)) refl; point = refl; minus = refl }

mark : Passes (λ c. not (is_comment_mark c))
mark = record { digit = λ d. rw (ne_eqb (48 + d) 35 (λ e. omega arith)) refl; point = refl; minus = refl }

pub text_word : (d : Scaled) → 0 < length (decimal_text d) → IsWord (decimal_text d)
text_word d some = record { some = some; no_blank = text_pass is_no_blank blank d; no_feed = text_pass _ feed d; no_mark = text_pass _ mark d }
