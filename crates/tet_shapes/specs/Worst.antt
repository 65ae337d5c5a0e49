-- The worst tetrahedra of a list: one with the least dihedral angle, and one with the greatest ratio of the circumradius to the
-- shortest edge.
use Rattle.std.specs.Prelude.{◌≡◌, ℕ, ◌+◌, ◌*◌, ◌^◌, ◌<◌, nat_le, Bool, ◌&&◌, true, false, List, length, All, HoldsAt, Option, None, Some}
use Rattle.sign_predicates.specs.Point.{Point}
use Rattle.sign_predicates.specs.declared.tetrahedron.Corners.{Corners}
use Rattle.geo_laws.specs.Delaunay.{corners}
use Rattle.geo_laws.specs.declared.tetrahedra.Tet.{Tet}
use Rattle.tet_shapes.specs.Angle.{is_flat, squared_cosine}
use Rattle.tet_shapes.specs.Shape.{is_slim}
use Rattle.tet_shapes.specs.declared.shape.Ratio.{Ratio}
use Rattle.tet_shapes.specs.declared.worst.LeastAngle.{LeastAngle}
use Rattle.tet_shapes.specs.declared.worst.GreatestRatio.{GreatestRatio}

-- a dihedral angle of the tetrahedron is below so many degrees, whose squared cosine is rounded to nine decimals
abbrev pub is_below_degrees : ℕ → Corners → Bool
is_below_degrees degrees t = is_flat (squared_cosine degrees) t

-- the tetrahedron at this place of the list passes the test
pub record PassesAt (test : Corners → Bool) (ps : List Point) (rows : List Tet) (place : ℕ) : Type 0 where
  pub there : place < length rows
  pub passes : HoldsAt (λ row. test (corners ps row) ≡ true) rows place

-- no tetrahedron of the list passes the test
abbrev pub NonePasses : (Corners → Bool) → List Point → List Tet → Type 0
NonePasses test ps rows = All (λ row. test (corners ps row) ≡ false) rows

-- The least dihedral angle in whole degrees, rounded down: no tetrahedron has one below these degrees, and the one at this place has
-- one below a degree more
pub record IsLeastAngle (ps : List Point) (rows : List Tet) (least : LeastAngle) : Type 0 where
  pub none : NonePasses (is_below_degrees least.degrees) ps rows
  pub one : PassesAt (is_below_degrees (least.degrees + 1)) ps rows least.place

-- the least dihedral angle, where one is below so many degrees
abbrev pub IsLeastAngleBelow : ℕ → List Point → List Tet → Option LeastAngle → Type 0
IsLeastAngleBelow degrees ps rows None = NonePasses (is_below_degrees degrees) ps rows
IsLeastAngleBelow degrees ps rows (Some least) = least.degrees < degrees × IsLeastAngle ps rows least

-- the ratio times 2^doublings
abbrev pub doubled : Ratio → ℕ → Ratio
doubled r doublings = record { over = r.over * 2 ^ doublings; under = r.under }

-- the circumradius is over the ratio times 2^doublings times the shortest edge, with at most 20 doublings, by which the numerator
-- is at most 2^20
abbrev pub is_over_doubled : Ratio → ℕ → Corners → Bool
is_over_doubled r doublings t =
    nat_le doublings 20 && (nat_le (r.over * 2 ^ doublings) (2 ^ 20) && is_slim (doubled r doublings) t)

-- The greatest ratio of the circumradius to the shortest edge, by the doublings of a ratio: the tetrahedron at this place is over it
-- with so many, and no tetrahedron is over it with one more
pub record IsGreatestRatio (r : Ratio) (ps : List Point) (rows : List Tet) (greatest : GreatestRatio) : Type 0 where
  pub none : NonePasses (is_over_doubled r (greatest.doublings + 1)) ps rows
  pub one : PassesAt (is_over_doubled r greatest.doublings) ps rows greatest.place

-- the greatest ratio, where one is over this one
abbrev pub IsGreatestRatioOver : Ratio → List Point → List Tet → Option GreatestRatio → Type 0
IsGreatestRatioOver r ps rows None = NonePasses (is_slim r) ps rows
IsGreatestRatioOver r ps rows (Some greatest) = IsGreatestRatio r ps rows greatest
