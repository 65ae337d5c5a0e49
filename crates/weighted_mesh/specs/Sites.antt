-- The value in contracts of points with weights.
use Rattle.std.specs.Prelude.{ℤ, List}
use Rattle.sign_predicates.specs.Point.{Point}

-- a list of points, and the weight of each
pub record Weighted : Type 0 where
  pub points : List Point
  pub weights : List ℤ

abbrev pub weighted : List Point → List ℤ → Weighted
weighted ps ws = record { points = ps; weights = ws }
