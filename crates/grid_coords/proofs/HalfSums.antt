-- Half sums of coordinates.
use Rattle.std.proofs.Common.{◌≡◌, ℤ, w32, to_z, of_z, unsigned_abs, ◌≤◌, ◌≤ℤ◌, ◌+ℤ◌, pos, negsuc, arith}
use Rattle.std.proofs.lemmas.Int.{ints}
use Rattle.exact_algebra.proofs.Size.{back}

-- a coordinate comes back from its 32 bits
pub kept : (z : ℤ) → unsigned_abs z ≤ 536870912 → to_z w32 (of_z w32 z) ≡ z
kept z small = back w32 536870912 z tt small

pub on_grid : (z : ℤ) → negsuc 536870911 ≤ℤ z → z ≤ℤ pos 536870912 → unsigned_abs z ≤ 536870912
on_grid z low high = omega (arith, ints)

-- the sum of two coordinates that come back from their bits
pub back_sum : (a b s : ℤ) → unsigned_abs a ≤ 536870912 → unsigned_abs b ≤ 536870912 → s ≡ to_z w32 (of_z w32 a) +ℤ to_z w32 (of_z w32 b) → s ≡ a +ℤ b
back_sum a b s a-small b-small is = let x = kept a a-small in let y = kept b b-small in rw (x, y) at is

pub sum_back : (a b s : ℤ) → unsigned_abs a ≤ 536870912 → unsigned_abs b ≤ 536870912 → s ≡ a +ℤ b → s ≡ to_z w32 (of_z w32 a) +ℤ to_z w32 (of_z w32 b)
sum_back a b s a-small b-small is = let x = kept a a-small in let y = kept b b-small in rw (x, y) is
