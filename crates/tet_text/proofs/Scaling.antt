-- Numbers times and divided by powers of ten.
use Rattle.std.proofs.Common.{◌≡◌, ℕ, zero, suc, ◌+◌, ◌-◌, ◌*◌, ◌/◌, ◌%◌, ◌^◌, ◌<◌, ◌≤◌, Bool, true, false, cond, ltb, eqb, Some, None, refl, sym, ap, ◌∙◌, arith, inl, inr, ◌≢◌}
use Rattle.std.specs.Prelude.{IfSome, unsigned_abs, pos}
use Rattle.std.specs.Option.{option_map}
use Rattle.std.proofs.lemmas.Bool.{cond-true, cond-false, le-ltb, lt-ltb, eqb-true, eqb-false, cases_lt, cases_Bool}
use Rattle.std.proofs.lemmas.Nat.{pow-add}
use Rattle.std.proofs.Math.Nat.{pow-suc, mul_comm, mul_assoc, mul-le-mul_right, mul-lt-mul_of_pos_right}
use Rattle.tet_text.specs.Decimals.{IsDecimal, below_limit, lowest, scaled_of, signed}
use Rattle.tet_text.proofs.Numerals.{pow10_pos, le_room}

-- one ten more above and below
lowest_ten : (n s : ℕ) → lowest (n * 10) (suc s) ≡ lowest n s
lowest_ten n s =
    let whole : n * 10 % 10 ≡ 0 = omega arith in
    let back : n * 10 / 10 ≡ n = omega arith in
    rw (whole, back) refl

times_ten : (n k : ℕ) → n * 10 ^ suc k ≡ n * 10 ^ k * 10
times_ten n k = ap (λ (p : ℕ). n * p) (pow-suc 10 k) ∙ sym (mul_assoc n (10 ^ k) 10)

pub times_ten_more : (n k : ℕ) → n * 10 ^ (k + 1) ≡ n * 10 ^ k * 10
times_ten_more n k = let e : k + 1 ≡ suc k = omega arith in rw e (times_ten n k)

-- the same tens above and below
pub lowest_tens : (n s k : ℕ) → lowest (n * 10 ^ k) (s + k) ≡ lowest n s
lowest_tens n s zero = let e : s + 0 ≡ s = omega arith in let one : n * 10 ^ 0 ≡ n = omega arith in rw (e, one) refl
lowest_tens n s (suc k) =
    let e : s + suc k ≡ suc (s + k) = omega arith in
    rw (e, times_ten n k) (lowest_ten (n * 10 ^ k) (s + k) ∙ lowest_tens n s k)

split_tens : (n i j : ℕ) → n * 10 ^ (i + j) ≡ n * 10 ^ i * 10 ^ j
split_tens n i j = ap (λ (p : ℕ). n * p) (pow-add 10 i j) ∙ sym (mul_assoc n (10 ^ i) (10 ^ j))

ltb_times : (a b p : ℕ) → 0 < p → ltb (a * p) (b * p) ≡ ltb a b
ltb_times a b p some =
    elim (cases_lt a b) [
      | inl lt ↦ lt-ltb (a * p) (b * p) (mul-lt-mul_of_pos_right lt some) ∙ sym (lt-ltb a b lt)
      | inr le ↦ le-ltb (a * p) (b * p) (mul-le-mul_right p le) ∙ sym (le-ltb a b le)
    ]

abbrev as_whole : ℕ → ℕ × ℕ
as_whole m = (m, 0)

whole_if : (b : Bool) (m : ℕ) → cond b (Some (as_whole m)) None ≡ option_map as_whole (cond b (Some m) None)
whole_if true m = refl
whole_if false m = refl

regroup : (q n p : ℕ) → q * 10 ≡ n → q * p * 10 ≡ n * p
regroup q n p tens = mul_assoc q p 10 ∙ ap (λ (m : ℕ). q * m) (mul_comm p 10) ∙ sym (mul_assoc q 10 p) ∙ ap (λ (m : ℕ). m * p) tens

-- where at least as many tens raise as lower, the rest raises
pub scaled_up : (n raise lower : ℕ) → lower ≤ raise → scaled_of n raise lower ≡ option_map (λ m. (m, 0)) (below_limit (n * 10 ^ (raise - lower)))
unfolding scaled_of
scaled_up n raise lower le =
    let m = n * 10 ^ (raise - lower) in
    let more : raise ≡ raise - lower + lower = omega arith in
    let e : n * 10 ^ raise ≡ m * 10 ^ lower = ap (λ (r : ℕ). n * 10 ^ r) more ∙ split_tens n (raise - lower) lower in
    let f : 10 ^ (36 + lower) ≡ 10 ^ 36 * 10 ^ lower = pow-add 10 36 lower in
    let none : 0 + lower ≡ lower = omega arith in
    let l : lowest (m * 10 ^ lower) lower ≡ (m, 0) = ap (λ (s : ℕ). lowest (m * 10 ^ lower) s) (sym none) ∙ lowest_tens m 0 lower in
    let t : ltb (n * 10 ^ raise) (10 ^ (36 + lower)) ≡ ltb m (10 ^ 36) = ap (λ (x : ℕ). ltb x (10 ^ (36 + lower))) e ∙ ap (ltb (m * 10 ^ lower)) f ∙ ltb_times m (10 ^ 36) (10 ^ lower) (pow10_pos lower) in
    ap (λ (b : Bool). cond b (Some (lowest (n * 10 ^ raise) lower)) None) t ∙ ap (λ (x : ℕ × ℕ). cond (ltb m (10 ^ 36)) (Some x) None) (ap (λ (x : ℕ). lowest x lower) e ∙ l) ∙ whole_if (ltb m (10 ^ 36)) m

-- where at most as many raise, the rest lowers
pub scaled_down : (n raise lower : ℕ) → n < 10 ^ 36 → raise ≤ lower → scaled_of n raise lower ≡ Some (lowest n (lower - raise))
unfolding scaled_of
scaled_down n raise lower small le =
    let more : lower - raise + raise ≡ lower = omega arith in
    let l : lowest (n * 10 ^ raise) lower ≡ lowest n (lower - raise) = ap (λ (s : ℕ). lowest (n * 10 ^ raise) s) (sym more) ∙ lowest_tens n (lower - raise) raise in
    let steps : 36 + lower ≡ 36 + raise + (lower - raise) = omega arith in
    let wide : 10 ^ (36 + lower) ≡ 10 ^ 36 * 10 ^ raise * 10 ^ (lower - raise) = ap (λ (k : ℕ). 10 ^ k) steps ∙ pow-add 10 (36 + raise) (lower - raise) ∙ ap (λ (p : ℕ). p * 10 ^ (lower - raise)) (pow-add 10 36 raise) in
    let below : n * 10 ^ raise < 10 ^ 36 * 10 ^ raise = mul-lt-mul_of_pos_right small (pow10_pos raise) in
    let lt : n * 10 ^ raise < 10 ^ (36 + lower) = omega (arith, le_room (10 ^ 36 * 10 ^ raise) (lower - raise)) in
    cond-true (ltb (n * 10 ^ raise) (10 ^ (36 + lower))) _ _ (lt-ltb _ _ lt) ∙ ap (λ (x : ℕ × ℕ). Some x) l

-- a product that has reached a tenth of the limit, with a ten still to come
pub at_limit : (n i by p : ℕ) → p ≡ n * 10 ^ i → 10 ^ 35 ≤ p → i < by → below_limit (n * 10 ^ by) ≡ None
at_limit n i by p p-is large lt =
    let k = by - (i + 1) in
    let by-is : by ≡ i + 1 + k = omega arith in
    let e : n * 10 ^ by ≡ p * 10 * 10 ^ k = ap (λ (b : ℕ). n * 10 ^ b) by-is ∙ split_tens n (i + 1) k ∙ ap (λ (m : ℕ). m * 10 ^ k) (times_ten_more n i ∙ ap (λ (m : ℕ). m * 10) (sym p-is)) in
    cond-false (ltb (n * 10 ^ by) (10 ^ 36)) _ _ (le-ltb (n * 10 ^ by) (10 ^ 36) (omega (arith, le_room (p * 10) k)))

-- lowest terms are no larger, and have no trailing zero
pub lowest_le : (n s : ℕ) → (lowest n s).0 ≤ n
lowest_le n zero = omega arith
lowest_le n (suc s) =
    elim (cases_Bool (eqb (n % 10) 0)) [
      | inl zero_last ↦ rw zero_last (omega (arith, lowest_le (n / 10) s))
      | inr other_last ↦ rw other_last (omega arith)
    ]

pub lowest_has_no_zero : (n s : ℕ) → 0 < (lowest n s).1 → (lowest n s).0 % 10 ≢ 0
lowest_has_no_zero n zero = λ some. absurd (omega arith)
lowest_has_no_zero n (suc s) =
    elim (cases_Bool (eqb (n % 10) 0)) [
      | inl zero_last ↦ rw zero_last (lowest_has_no_zero (n / 10) s)
      | inr other_last ↦ rw other_last (λ some. eqb-false (n % 10) 0 other_last)
    ]

-- and are the same number
pub lowest_is : (n s : ℕ) → (lowest n s).0 * 10 ^ s ≡ n * 10 ^ (lowest n s).1
lowest_is n zero = refl
lowest_is n (suc s) =
    elim (cases_Bool (eqb (n % 10) 0)) [
      | inl zero_last ↦
          let none = eqb-true (n % 10) 0 zero_last in
          let tens : n / 10 * 10 ≡ n = omega arith in
          rw zero_last (times_ten (lowest (n / 10) s).0 s ∙ ap (λ (m : ℕ). m * 10) (lowest_is (n / 10) s) ∙ regroup (n / 10) n (10 ^ (lowest (n / 10) s).1) tens)
      | inr other_last ↦ rw other_last refl
    ]

-- the size below the limit, and the sign before it
pub below_limit_small : (n : ℕ) → IfSome (below_limit n) (λ m. m < 10 ^ 36)
below_limit_small n =
    elim (cases_lt n (10 ^ 36)) [
      | inl lt ↦ rw (lt-ltb n (10 ^ 36) lt) lt
      | inr le ↦ rw (le-ltb n (10 ^ 36) le) tt
    ]

pub abs_signed : (negative : Bool) (n : ℕ) → unsigned_abs (signed negative n) ≡ n
abs_signed false n = refl
abs_signed true zero = refl
abs_signed true (suc n) = refl

pub lowest_is_decimal : (n s : ℕ) → n < 10 ^ 36 → IsDecimal (record { value = pos (lowest n s).0; scale = (lowest n s).1 })
lowest_is_decimal n s small = record { small = omega (arith, lowest_le n s); no_trailing_zero = lowest_has_no_zero n s }

pub whole_is_decimal : (n : ℕ) → n < 10 ^ 36 → IsDecimal (record { value = pos n; scale = 0 })
whole_is_decimal n small = record { small = small; no_trailing_zero = λ some. absurd (omega arith) }

pub signed_is_decimal : (negative : Bool) (n s : ℕ) → IsDecimal (record { value = pos n; scale = s }) → IsDecimal (record { value = signed negative n; scale = s })
signed_is_decimal negative n s is =
    let e = abs_signed negative n in
    record { small = rw e is.small; no_trailing_zero = λ some. rw e (is.no_trailing_zero some) }
