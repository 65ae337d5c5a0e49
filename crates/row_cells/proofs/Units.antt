-- Signed numbers that fit their width, as they are passed on.
use Rattle.std.proofs.Common.{◌≡◌, ◌⊎◌, inl, inr, ℕ, ◌*◌, ◌≤◌, ℤ, pos, negsuc, neg_ℤ, ◌+ℤ◌, ◌*ℤ◌, ◌≤ℤ◌, ap, arith}
use Rattle.std.specs.Prelude.{unsigned_abs}
use Rattle.std.proofs.lemmas.Int.{ints}
use Rattle.sign_predicates.specs.Point.{IsNear}
use mir.Syntax.{w32, w64}
use mir.Val.{to_z, of_z}

pub kept_32 : (x : ℤ) → negsuc 536870911 ≤ℤ x → x ≤ℤ pos 536870912 → to_z w32 (of_z w32 x) ≡ x
kept_32 x low high = omega (arith, ints)

abs_bound : (z : ℤ) (n : ℕ) → unsigned_abs z ≤ n → (neg_ℤ (pos n) ≤ℤ z) × (z ≤ℤ pos n)
abs_bound (pos m) n h = (omega (arith, ints), omega (arith, ints))
abs_bound (negsuc m) n h = (omega (arith, ints), omega (arith, ints))

pub kept_unit : (w : ℤ) → (w ≡ pos 1) ⊎ (w ≡ pos 1000000) → to_z w64 (of_z w64 w) ≡ w
kept_unit w (inl e) = omega (arith, ints)
kept_unit w (inr e) = omega (arith, ints)

-- a coordinate counted from -2^29 on
pub kept_sum : (x w : ℤ) → (w ≡ pos 1) ⊎ (w ≡ pos 1000000) → IsNear w x
    → to_z w64 (of_z w64 (to_z w64 (of_z w64 x) +ℤ to_z w64 (of_z w64 (pos 536870912 *ℤ to_z w64 (of_z w64 w))))) ≡ x +ℤ pos 536870912 *ℤ w
kept_sum x w (inl e) near = let k = ap unsigned_abs e in let b = abs_bound x (536870913 * unsigned_abs w) near in omega (arith, ints, b.0, b.1)
kept_sum x w (inr e) near = let k = ap unsigned_abs e in let b = abs_bound x (536870913 * unsigned_abs w) near in omega (arith, ints, b.0, b.1)
