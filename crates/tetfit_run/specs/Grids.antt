-- Decimals at which points are off each grid.
use Rattle.std.specs.Prelude.{◌≡◌, ◌<◌, ◌⊎◌, ℕ, map, List, Option, Some, None, Err}
use Rattle.grid_coords.specs.Choice.{grid_of}
use Rattle.grid_coords.specs.declared.points.DecimalPoint.{DecimalPoint}
use Rattle.grid_coords.specs.declared.origin.WholePoint.{WholePoint}
use Rattle.node_files.specs.Settling.{measured_from, rounded_point}

-- the point rounded to m decimals, and measured from an origin where there is one
abbrev pub point_at : Option WholePoint → ℕ → DecimalPoint → DecimalPoint
point_at None m p = rounded_point m p
point_at (Some w) m p = rounded_point m (measured_from w m p)

-- the line of a point that is off each grid of coordinates up to `wide` units, once all points are rounded to m
-- decimals
pub record IsOffRounded (wide : ℕ) (origin : Option WholePoint) (points : List DecimalPoint) (m : ℕ) : Type 0 where
  pub line : ℕ
  pub off : (halvings : ℕ) → grid_of wide halvings (map (point_at origin m) points) ≡ Err (record { line = line })

-- the points are as they are with m decimals
abbrev pub AreAlike : Option WholePoint → List DecimalPoint → ℕ → ℕ → Type 0
AreAlike origin points m n = map (point_at origin n) points ≡ map (point_at origin m) points

-- n decimals need no try after a refusal by the grid at m: a point is off each grid, or the points are the same
abbrev pub IsPassed : ℕ → Option WholePoint → List DecimalPoint → ℕ → ℕ → Type 0
IsPassed wide origin points m n = IsOffRounded wide origin points n ⊎ AreAlike origin points m n

-- no number of decimals between least and most needs a try after a refusal at the most
abbrev pub ArePassedBetween : ℕ → Option WholePoint → List DecimalPoint → ℕ → ℕ → Type 0
ArePassedBetween wide origin points least most = (n : ℕ) → least < n → n < most → IsPassed wide origin points most n
