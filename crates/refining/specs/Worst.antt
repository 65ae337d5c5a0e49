-- Where a mesh is worst.
use Rattle.std.specs.Prelude.{◌≡◌, ℕ, ◌^◌, ◌<◌, min, List, HoldsAt, Option, None, Some}
use Rattle.sign_predicates.specs.Point.{Point}
use Rattle.geo_laws.specs.Delaunay.{corners}
use Rattle.geo_laws.specs.declared.tetrahedra.Tet.{Tet}
use Rattle.refining.specs.declared.goal.ShapeBounds.{ShapeBounds}
use Rattle.refining.specs.declared.worst.LargeRatio.{LargeRatio}
use Rattle.refining.specs.declared.worst.SmallAngle.{SmallAngle}
use Rattle.refining.specs.declared.worst.Worst.{Worst}
use Rattle.tet_shapes.specs.Shape.{is_slim}
use Rattle.tet_shapes.specs.Worst.{IsGreatestRatio, IsLeastAngle, NonePasses, is_below_degrees}
use Rattle.tet_shapes.specs.declared.shape.Ratio.{Ratio}

-- the first corner of the tetrahedron at this place of the list
abbrev pub IsCornerAt : List Point → List Tet → ℕ → Point → Type 0
IsCornerAt ps rows place p = HoldsAt (λ row. (corners ps row).a ≡ p) rows place

-- the least dihedral angle in whole degrees, rounded down, and a corner of a tetrahedron that has it
pub record IsSmallAngle (ps : List Point) (rows : List Tet) (small : SmallAngle) : Type 0 where
  pub place : ℕ
  pub least : IsLeastAngle ps rows (record { degrees = small.degrees; place = place })
  pub corner : IsCornerAt ps rows place small.at

-- where an angle is below the aim, or below 30 degrees where that is less
abbrev pub IsWorstAngle : Option ℕ → List Point → List Tet → Option SmallAngle → Type 0
IsWorstAngle None ps rows worst = worst ≡ None
IsWorstAngle (Some aim) ps rows None = NonePasses (is_below_degrees (min aim 30)) ps rows
IsWorstAngle (Some aim) ps rows (Some small) = small.degrees < min aim 30 × IsSmallAngle ps rows small

-- The greatest ratio of the circumradius to the shortest edge, by the power of two that is the greatest multiple of a bound that is
-- exceeded, and a corner of a tetrahedron that exceeds it
pub record IsLargeRatio (bound : Ratio) (ps : List Point) (rows : List Tet) (large : LargeRatio) : Type 0 where
  pub doublings : ℕ
  pub times : large.times ≡ 2 ^ doublings
  pub place : ℕ
  pub greatest : IsGreatestRatio bound ps rows (record { doublings = doublings; place = place })
  pub corner : IsCornerAt ps rows place large.at

-- where a ratio is over the bound
abbrev pub IsWorstRatio : Option Ratio → List Point → List Tet → Option LargeRatio → Type 0
IsWorstRatio None ps rows worst = worst ≡ None
IsWorstRatio (Some bound) ps rows None = NonePasses (is_slim bound) ps rows
IsWorstRatio (Some bound) ps rows (Some large) = IsLargeRatio bound ps rows large

-- where tetrahedra are worst by the bounds of a goal
pub record IsWorst (shapes : ShapeBounds) (ps : List Point) (rows : List Tet) (worst : Worst) : Type 0 where
  pub angle : IsWorstAngle shapes.angle ps rows worst.angle
  pub ratio : IsWorstRatio shapes.ratio ps rows worst.ratio
