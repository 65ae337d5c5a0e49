-- Coordinates on a grid.
use Rattle.std.proofs.Common.{◌≡◌, ℕ, ◌≤◌, ◌^◌, sym, ap, ◌∙◌, arith, inl, inr, ℤ, pos, Bool, true, false, w64, to_z, of_z, unsigned_abs, ◌-ℤ◌}
use Rattle.std.specs.Prelude.{min, int_lt, neg_ℤ}
use Rattle.std.specs.Int.{w128}
use Rattle.std.proofs.lemmas.Int.{ints}
use Rattle.exact_algebra.proofs.Size.{back}
use Rattle.std.proofs.lemmas.Bool.{cond-true, le-leb, cases_lt}
use Rattle.tet_text.specs.Decimals.{Scaled, signed}
use Rattle.grid_coords.specs.Rounding.{rounded}

rounded_far : (decimals : ℕ) (d : Scaled) → d.scale ≤ decimals → rounded decimals d ≡ d
unfolding rounded
rounded_far decimals d le = cond-true _ _ _ (le-leb d.scale decimals le)

-- a number is rounded to no more decimals than it has, nor to more than 32 bits hold
pub rounded_least : (decimals most : ℕ) (d : Scaled) → d.scale ≤ most → rounded (min (min decimals most) d.scale) d ≡ rounded decimals d
rounded_least decimals most d le =
    elim (cases_lt decimals d.scale) [
      | inl few ↦ let e : min (min decimals most) d.scale ≡ decimals = omega arith in ap (λ (n : ℕ). rounded n d) e
      | inr enough ↦ rounded_far (min (min decimals most) d.scale) d (omega arith) ∙ sym (rounded_far decimals d enough)
    ]

-- the sign of a number that comes back from its bits
pub sign_back : (z value : ℤ) (b : Bool) → unsigned_abs z ≤ 10 ^ 36 → z ≡ value → int_lt (to_z w128 (of_z w128 z)) (pos 0) ≡ b → int_lt value (pos 0) ≡ b
sign_back z value b small same is = sym (ap (λ (y : ℤ). int_lt y (pos 0)) (back w128 (10 ^ 36) z tt small ∙ same)) ∙ is

-- a size with its sign
pub size_above : (n : ℕ) (size : ℤ) → size ≡ pos n → unsigned_abs size ≤ 536870913000000 → to_z w64 (of_z w64 size) ≡ signed false n
size_above n size is small = back w64 536870913000000 size tt small ∙ is

pub size_below : (n : ℕ) (size : ℤ) → size ≡ pos n → unsigned_abs size ≤ 536870913000000 → to_z w64 (of_z w64 (pos 0 -ℤ to_z w64 (of_z w64 size))) ≡ signed true n
size_below n size is small =
    let low : unsigned_abs (pos 0 -ℤ pos n) ≤ 536870913000000 = omega (arith, ints) in
    let turned : pos 0 -ℤ pos n ≡ neg_ℤ (pos n) = omega (arith, ints) in
    ap (λ (z : ℤ). to_z w64 (of_z w64 (pos 0 -ℤ z))) (size_above n size is small) ∙ back w64 536870913000000 (pos 0 -ℤ pos n) tt low ∙ turned
