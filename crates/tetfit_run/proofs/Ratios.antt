-- The terms of a ratio that words give.
use Rattle.std.proofs.Common.{◌^◌, ◌≤◌, ℕ, arith}
use Rattle.std.proofs.Math.Nat.{pow-le-pow_right}

-- a power of ten with at most four zeros
pub small_unit : (scale : ℕ) → scale ≤ 4 → 10 ^ scale ≤ 10 ^ 4
small_unit scale h = pow-le-pow_right (omega arith) h
