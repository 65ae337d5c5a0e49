-- Multiples of mixed numbers, and their whole parts.
use Rattle.std.proofs.Common.{◌≡◌, ℕ, zero, ◌+◌, ◌*◌, ◌/◌, ◌%◌, ◌^◌, ◌≤◌, ◌<◌, min, sym, ap, ◌∙◌, arith}
use Rattle.std.proofs.Math.Nat.{div-add-mod, one-le-pow, pow-le-pow_right, mul-le-mul_left}
use Rattle.std.proofs.lemmas.Nat.{div-mul-add, le-div, mul-le}

-- the rest of the multiple is cut again
pub multiple : (w r b u : ℕ) → (w * b + r * b / u) * u + r * b % u ≡ (w * u + r) * b
multiple w r b u =
    let cut = div-add-mod (r * b) u in
    omega (arith, cut)

-- what is great after some multiplications stays great
pub great : (u n b i k w r : ℕ) → w * u + r ≡ n * b ^ i → zero < b → i ≤ k → 2 ^ 100 ≤ w → 2 ^ 100 * u ≤ n * b ^ k
great u n b i k w r e p l g =
    let more = mul-le-mul_left n (pow-le-pow_right p l) in
    let wide = mul-le (2 ^ 100) u w u g (omega arith) in
    omega (arith, e, more, wide)

-- the whole part of the number
pub whole_is : (u n w r : ℕ) → w * u + r ≡ n → r < u → n / u ≡ w
whole_is u n w r e l = ap (λ x. x / u) (sym e) ∙ div-mul-add w u r l

-- and of a great number
pub whole_great : (u n : ℕ) → 0 < u → 2 ^ 100 * u ≤ n → 2 ^ 100 ≡ min (2 ^ 100) (n / u)
whole_great u n p g =
    let h = le-div (2 ^ 100) n u p g in
    omega (arith, h)

-- doubled, it stays great
pub greater : (u n k : ℕ) → 2 ^ 100 * u ≤ n → 2 ^ 100 * u ≤ n * 2 ^ k
greater u n k g =
    let one = mul-le-mul_left n (one-le-pow k 2 (omega arith)) in
    omega (arith, g, one)
