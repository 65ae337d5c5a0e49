-- Coordinates that rounding moves by at most half of a unit.
use Rattle.std.specs.Prelude.{◌+◌, ◌*◌, ◌^◌, ◌<◌, ◌≤◌, ℕ, pos, ◌-ℤ◌, ◌*ℤ◌, unsigned_abs}
use Rattle.grid_coords.specs.Rounding.{rounded}
use Rattle.tet_text.specs.Decimals.{Scaled}
use Rattle.tetfit_run.specs.Units.{multiple_near}

-- Two numbers differ by at most half the size of u: twice their difference is at most that size, each times ten to the power of all
-- three scales
abbrev pub AreWithinHalf : Scaled → Scaled → Scaled → Type 0
AreWithinHalf u d r =
    2 * unsigned_abs (d.value *ℤ pos (10 ^ r.scale) -ℤ r.value *ℤ pos (10 ^ d.scale)) * 10 ^ u.scale
    ≤ unsigned_abs u.value * 10 ^ (d.scale + r.scale)

-- a number that is rounded to m decimals moves by at most half a unit of the last one
abbrev pub RoundedNearLaw : Type 0
RoundedNearLaw = (m : ℕ) (d : Scaled) → AreWithinHalf (record { value = pos 1; scale = m }) d (rounded m d)

-- a number that is rounded to a multiple of a unit moves by at most half of it
abbrev pub MultipleNearLaw : Type 0
MultipleNearLaw = (u d : Scaled) → 0 < unsigned_abs u.value → AreWithinHalf u d (multiple_near u d)
