-- Bounds on volumes, in the units of a grid.
use Rattle.std.specs.Prelude.{◌≡◌, ℕ, ◌+◌, ◌-◌, ◌*◌, ◌/◌, ◌^◌, ◌<◌, ◌≤◌, min, unsigned_abs, Option, None, Some}
use Rattle.grid_coords.specs.declared.grid.Grid.{Grid}
use Rattle.tet_text.specs.Decimals.{Scaled}
use Rattle.tet_shapes.specs.declared.volume.Mixed.{Mixed}

-- Six times a volume in cubes of grid units, of which 10^decimals × 2^halvings are a unit of the model, rounded down.
-- Of the decimals of the volume and three times those of the grid only the difference counts
abbrev pub six_times : Grid → Scaled → ℕ
six_times g v = (6 * unsigned_abs v.value) * 10 ^ (3 * g.decimals - v.scale) * 2 ^ (3 * g.halvings) / 10 ^ (v.scale - 3 * g.decimals)

-- the bound on six times the volume of a tetrahedron: six times this volume, and at most 2^100
unfoldable pub most_volume : Grid → Scaled → ℕ
most_volume g v = min (2 ^ 100) (six_times g v)

-- the number whole + rest / under is n / under
pub record IsMixed (under n : ℕ) (m : Mixed) : Type 0 where
  pub value : m.whole * under + m.rest ≡ n
  pub rest : m.rest < under

-- the number n / under, or None where that is 2^100 or more
abbrev pub IsMixedOrGreat : ℕ → ℕ → Option Mixed → Type 0
IsMixedOrGreat under n None = 2 ^ 100 * under ≤ n
IsMixedOrGreat under n (Some m) = IsMixed under n m
