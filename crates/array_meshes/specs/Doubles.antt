-- Points whose coordinates are binary floats, rounded to points with whole coordinates.
use Rattle.std.specs.Prelude.{ℕ, ◌<◌, List, length, All, Option, Some, IsSome}
use Rattle.binary_floats.specs.Doubles.{nearest_units}
use Rattle.grid_coords.specs.Units.{limit}
use Rattle.tet_text.specs.Decimals.{◌>>=◌}
use Rattle.array_meshes.specs.declared.arrays.Place.{Place}
use Rattle.array_meshes.specs.declared.doubles.DoublePoint.{DoublePoint}
use Rattle.array_meshes.specs.declared.doubles.DoubleFault.{DoubleFault}
use Rattle.array_meshes.specs.declared.doubles.DoubleFault.TheVariants.{TooFine, OffGrid, NoRoom}

-- The point in units of 1 / 10^decimals, each coordinate rounded to a whole number from its exact value, halves away from zero; None where
-- one is over 2^29 in size then, infinite or no number
abbrev pub rounded_place : ℕ → DoublePoint → Option Place
rounded_place decimals p = do
  x ← nearest_units limit decimals p.x
  y ← nearest_units limit decimals p.y
  z ← nearest_units limit decimals p.z
  Some (record { x = x; y = y; z = z })

-- the most decimals
abbrev pub most_double_decimals : ℕ
most_double_decimals = 22

-- why points are not rounded to an array with this room
abbrev pub IsDoubleFault : ℕ → List DoublePoint → ℕ → DoubleFault → Type 0
IsDoubleFault decimals points room TooFine = most_double_decimals < decimals
IsDoubleFault decimals points room OffGrid = ¬ All (λ p. IsSome (rounded_place decimals p)) points
IsDoubleFault decimals points room NoRoom = room < length points

-- the statuses: 5 for a limit, and 20 for want of room
abbrev pub code_of : DoubleFault → ℕ
code_of TooFine = 5
code_of OffGrid = 5
code_of NoRoom = 20
