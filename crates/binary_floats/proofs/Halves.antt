-- The whole number nearest to a number over a power of two.
use Rattle.std.proofs.Common.{◌≡◌, ℕ, suc, ◌+◌, ◌-◌, ◌*◌, ◌/◌, ◌^◌, ◌<◌, ◌≤◌, sym, ap, ◌∙◌, arith}
use Rattle.std.proofs.Math.Nat.{div-div-eq-div-mul, div-eq_of_lt, mul-div_cancel_left, mul-le-mul, pow-le-pow_right, pow-suc}
use Rattle.std.proofs.Math.Pow.{pow_mono}
use Rattle.binary_floats.specs.Doubles.{nearest_whole}

-- it is 0 where the number is below half of the power
pub nearest_none : (n k : ℕ) → n < 2 ^ 127 → 127 < k → nearest_whole n k ≡ 0
unfolding nearest_whole
nearest_none n k less more =
    let large : 128 ≤ k = omega (arith, more) in
    let most : 2 ^ 128 ≤ 2 ^ k = pow_mono large in
    div-eq_of_lt (omega (arith, less, most))

-- it is one quotient of the number and half of the power
pub nearest_halved : (n k : ℕ) → 0 < k → (n + 2 ^ (k - 1)) / 2 ^ k ≡ nearest_whole n k
unfolding nearest_whole
nearest_halved n k some =
    let before : suc (k - 1) ≡ k = omega (arith, some) in
    let twice : 2 ^ (k - 1) * 2 ≡ 2 ^ k = sym (pow-suc 2 (k - 1)) ∙ ap (λ (i : ℕ). 2 ^ i) before in
    let sum : 2 * n + 2 ^ k ≡ 2 * (n + 2 ^ (k - 1)) = omega (arith, twice) in
    sym (ap (λ (m : ℕ). m / (2 * 2 ^ k)) sum ∙ sym (div-div-eq-div-mul (2 * (n + 2 ^ (k - 1))) 2 (2 ^ k))
    ∙ ap (λ (m : ℕ). m / 2 ^ k) (mul-div_cancel_left (n + 2 ^ (k - 1)) (omega arith)))

-- half of a power below 2^128, and what is below 2^127
pub half_below : (k : ℕ) → k ≤ 127 → 0 < k → 2 ^ (k - 1) ≤ 2 ^ 126
half_below k few some =
    let fewer : k - 1 ≤ 126 = omega (arith, few, some) in
    pow_mono fewer

-- a power of ten up to 10^22, and the units of a float
pub tens_few : (decimals : ℕ) → decimals ≤ 22 → 10 ^ decimals ≤ 10 ^ 22
tens_few decimals few = pow-le-pow_right (omega arith) few

pub units_few : (count tens : ℕ) → count < 2 ^ 53 → tens ≤ 10 ^ 22 → count * tens < 2 ^ 127
units_few count tens less few =
    let most : count ≤ 2 ^ 53 = omega (arith, less) in
    let product : count * tens ≤ 2 ^ 53 * 10 ^ 22 = mul-le-mul most few in
    omega (arith, product)
