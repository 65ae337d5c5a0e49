-- Quotients by powers of ten, and the nearest whole number.
use Rattle.std.proofs.Common.{◌≡◌, ℕ, suc, ◌+◌, ◌-◌, ◌*◌, ◌/◌, ◌%◌, ◌^◌, ◌<◌, ◌≤◌, inl, inr, sym, ap, subst, ◌∙◌, arith}
use Rattle.std.specs.Prelude.{min}
use Rattle.std.proofs.lemmas.Bool.{cases_lt}
use Rattle.std.proofs.lemmas.Nat.{pow-add, div-add-mod', div_below, le-div, mul-le, mod_below}
use Rattle.std.proofs.Math.Nat.{div-div-eq-div-mul, add-div_right, mul-add-div_right, mul-div-mul_right, one-le-pow, pow-suc, pow-le-pow_right, div-le_of_le-mul, le-mul_of_pos_right, le-div_iff_mul-le}
use Rattle.tet_text.proofs.Numerals.{tens_le, pow10_pos}
use Rattle.grid_coords.specs.Rounding.{nearest_whole}

-- the nearest whole number is half of one more than the whole part of the double
pub nearest_by_halves : (n h k : ℕ) → nearest_whole (n * 2 ^ h) k ≡ (n * 2 ^ (h + 1) / 10 ^ k + 1) / 2
unfolding nearest_whole
nearest_by_halves n h k =
    let e : h + 1 ≡ suc h = omega arith in
    let double : 2 * (n * 2 ^ h) ≡ n * 2 ^ (h + 1) = let p = pow-suc 2 h in let q : n * (2 ^ h * 2) ≡ 2 * (n * 2 ^ h) = omega arith in sym (ap (λ (j : ℕ). n * 2 ^ j) e ∙ ap (λ (p : ℕ). n * p) p ∙ q) in
    let below : 2 * 10 ^ k ≡ 10 ^ k * 2 = omega arith in
    ap (λ (m : ℕ). (2 * (n * 2 ^ h) + 10 ^ k) / m) below ∙ sym (div-div-eq-div-mul (2 * (n * 2 ^ h) + 10 ^ k) (10 ^ k) 2)
    ∙ ap (λ (m : ℕ). m / 2) (add-div_right (2 * (n * 2 ^ h)) (pow10_pos k)) ∙ ap (λ (m : ℕ). (m / 10 ^ k + 1) / 2) double

-- the whole part of a product, from the whole part of its first factor and what is left of it
pub whole_part_by_parts : (n m t : ℕ) → 0 < t → n / t * m + n % t * m / t ≡ n * m / t
whole_part_by_parts n m t some =
    let split = div-add-mod' n t in
    let spread : (n / t * t + n % t) * m ≡ n / t * m * t + n % t * m = omega arith in
    sym (ap (λ (k : ℕ). k * m / t) (sym split) ∙ ap (λ (k : ℕ). k / t) spread ∙ mul-add-div_right some (n / t * m) (n % t * m))

-- tens are taken off at once or in two steps
pub tens_in_steps : (n i j : ℕ) → n / 10 ^ i / 10 ^ j ≡ n / 10 ^ (i + j)
tens_in_steps n i j = div-div-eq-div-mul n (10 ^ i) (10 ^ j) ∙ ap (λ (m : ℕ). n / m) (sym (pow-add 10 i j))

-- the same tens above and below
pub nearest_without_tens : (n i k : ℕ) → nearest_whole (n * 10 ^ i) (k + i) ≡ nearest_whole n k
unfolding nearest_whole
nearest_without_tens n i k =
    let tens = pow-add 10 k i in
    let above : 2 * (n * 10 ^ i) + 10 ^ k * 10 ^ i ≡ (2 * n + 10 ^ k) * 10 ^ i = omega arith in
    let below : 2 * (10 ^ k * 10 ^ i) ≡ 2 * 10 ^ k * 10 ^ i = omega arith in
    ap (λ (m : ℕ). (2 * (n * 10 ^ i) + m) / (2 * m)) tens ∙ ap (λ (m : ℕ). m / (2 * (10 ^ k * 10 ^ i))) above ∙ ap (λ (m : ℕ). (2 * n + 10 ^ k) * 10 ^ i / m) below
    ∙ mul-div-mul_right (2 * n + 10 ^ k) (2 * 10 ^ k) (pow10_pos i)

-- a whole number is the nearest to itself
pub nearest_of_whole : (n k : ℕ) → nearest_whole (n * 10 ^ k) k ≡ n
unfolding nearest_whole
nearest_of_whole n k =
    let none : 0 + k ≡ k = omega arith in
    let whole : (2 * n + 1) / 2 ≡ n = omega arith in
    ap (nearest_whole (n * 10 ^ k)) (sym none) ∙ nearest_without_tens n k 0 ∙ whole

-- ---- sizes

pub twos_le : (k most : ℕ) → k ≤ most → 2 ^ k ≤ 2 ^ most
twos_le k most le = pow-le-pow_right (omega arith) le

-- the two products of a number of which 18 digits are cut off
pub record HasSmallParts (n t m : ℕ) : Type 0 where
  pub some : 0 < t
  pub whole : n / t * m ≤ 10 ^ 18 * 2 ^ 65
  pub part : n % t * m ≤ 10 ^ 18 * 2 ^ 65
  pub part_over : n % t * m / t ≤ 2 ^ 65

pub small_parts : (n k d t m : ℕ) → k ≤ 18 → d ≤ 65 → n / 10 ^ k ≤ 10 ^ 18 → t ≡ 10 ^ k → m ≡ 2 ^ d → HasSmallParts n t m
small_parts n k d t m cut few whole-small t-is m-is =
    let some : 0 < t = rw t-is (pow10_pos k) in
    let t-small : t ≤ 10 ^ 18 = rw t-is (tens_le k 18 cut) in
    let m-small : m ≤ 2 ^ 65 = rw m-is (twos_le d 65 few) in
    let left = mod_below n t some in
    record {
      some = some;
      whole = mul-le (n / t) m (10 ^ 18) (2 ^ 65) (rw t-is whole-small) m-small;
      part_over = div-le_of_le-mul t (mul-le (n % t) m t (2 ^ 65) (omega arith) m-small);
      part = mul-le (n % t) m (10 ^ 18) (2 ^ 65) (omega arith) m-small;
    }

-- nothing is left where more tens are taken off than the number has digits
pub nothing_left : (n k : ℕ) → n < 10 ^ 38 → 38 < k → n / 10 ^ k ≡ 0
nothing_left n k small far =
    let large = tens_le 38 k (omega arith) in
    let one : n / 10 ^ k < 1 = div_below n (10 ^ k) 1 (pow10_pos k) (omega arith) in
    omega arith

-- a number that is large without its doublings is large with them
pub nearest_large : (n h k w : ℕ) → w ≤ n / 10 ^ k → w ≤ nearest_whole (n * 2 ^ h) k
unfolding nearest_whole
nearest_large n h k w le =
    let some = pow10_pos k in
    let first : w * 10 ^ k ≤ n = (le-div_iff_mul-le some).0 le in
    let grows : n ≤ n * 2 ^ h = le-mul_of_pos_right n (one-le-pow h 2 (omega arith)) in
    let both : w * (2 * 10 ^ k) ≤ 2 * (n * 2 ^ h) + 10 ^ k = omega arith in
    le-div w (2 * (n * 2 ^ h) + 10 ^ k) (2 * 10 ^ k) (omega arith) both

-- in steps, by halves
pub nearest_in_steps : (n h k cut : ℕ) → cut ≤ k → (n * 2 ^ (h + 1) / 10 ^ cut / 10 ^ (k - cut) + 1) / 2 ≡ nearest_whole (n * 2 ^ h) k
nearest_in_steps n h k cut le =
    let all : cut + (k - cut) ≡ k = omega arith in
    ap (λ (m : ℕ). (m + 1) / 2) (tens_in_steps (n * 2 ^ (h + 1)) cut (k - cut) ∙ ap (λ (j : ℕ). n * 2 ^ (h + 1) / 10 ^ j) all) ∙ sym (nearest_by_halves n h k)

-- a number below 10^36 has over 10^18 before the digits that are cut off, at most 18 of them, only where these are all its decimals
pub over_by_front : (n h k cut : ℕ) → n < 10 ^ 36 → cut ≡ min k 18 → 10 ^ 18 < n / 10 ^ cut → 10 ^ 18 < nearest_whole (n * 2 ^ h) k
over_by_front n h k cut small cut-is over =
    elim (cases_lt 18 k) [
      | inl far ↦
          let e : cut ≡ 18 = omega arith in
          let front : 10 ^ 18 < n / 10 ^ 18 = subst (λ (j : ℕ). 10 ^ 18 < n / 10 ^ j) e over in
          absurd (omega arith)
      | inr near ↦
          let e : cut ≡ k = omega arith in
          nearest_large n h k (suc (10 ^ 18)) (subst (λ (j : ℕ). 10 ^ 18 < n / 10 ^ j) e over)
    ]
