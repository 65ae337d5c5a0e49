-- Vectors that are short where the bits of their coordinates say so.
use Rattle.std.proofs.Common.{◌≡◌, ℕ, ◌+◌, ◌<◌, ◌≤◌, ◌^◌, ℤ, pos, ◌+ℤ◌, w32, of_z, unsigned_abs, arith, bit_or, sym, ◌∙◌}
use Rattle.std.proofs.lemmas.Int.{ints, to_z_pos}
use Rattle.std.proofs.lemmas.Nat.{le_or_l, le_or_r}
use Rattle.exact_algebra.proofs.Size.{back}

pub first_below : (a b n : ℕ) → bit_or a b < n → a < n
first_below a b n h = omega (arith, le_or_l a b)

pub second_below : (a b n : ℕ) → bit_or a b < n → b < n
second_below a b n h = omega (arith, le_or_r a b)

-- the number raised by 2^20 is not negative where its bits are below 2^21
pub raised_is_short : (z : ℤ) → unsigned_abs z ≤ 2 ^ 30 → of_z w32 (z +ℤ pos (2 ^ 20)) < 2 ^ 21 → unsigned_abs z ≤ 2 ^ 20
raised_is_short z h k =
    let y = z +ℤ pos (2 ^ 20) in
    let n = of_z w32 y in
    let size : unsigned_abs y ≤ (2 ^ 30 + 2 ^ 20) = omega (arith, ints) in
    let low : n < 2 ^ 31 = omega arith in
    let is : pos n ≡ y = sym (to_z_pos w32 n low) ∙ back w32 ((2 ^ 30 + 2 ^ 20)) y tt size in
    omega (arith, ints)
