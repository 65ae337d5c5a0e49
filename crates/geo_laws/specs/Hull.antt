-- The convex hull of points, all those of a list or those with some numbers, and lists of rows that cover it once. By Caratheodory's
-- theorem a point lies in the hull where it lies in a tetrahedron on four of the points.
use Rattle.std.specs.Prelude.{◌≡◌, ℕ, List, All, count_by}
use Rattle.sign_predicates.specs.Point.{Point, RationalPoint, EachRational}
use Rattle.sign_predicates.specs.Orientation.{IsPositive, InClosed, OffFacePlanes, strictly_inside}
use Rattle.geo_laws.specs.Delaunay.{corners, IsAmong, all_numbers}
use Rattle.geo_laws.specs.declared.tetrahedra.Tet.{Tet}

-- x lies in a closed positive tetrahedron on four points with these numbers
pub record InHullAmong (ps : List Point) (ms : List ℕ) (x : RationalPoint) : Type 0 where
  pub row : Tet
  pub is_on : IsAmong ms row
  pub is_positive : IsPositive (corners ps row)
  pub holds : InClosed (corners ps row) x

-- x lies in the hull of all the points
abbrev pub InHull : List Point → RationalPoint → Type 0
InHull ps x = InHullAmong ps (all_numbers ps) x

-- x lies in no closed positive tetrahedron on four of the points
abbrev pub IsBeyondHull : List Point → RationalPoint → Type 0
IsBeyondHull ps x = ¬ InHull ps x

-- x lies on no plane through a face of a row
abbrev pub OffPlanes : List Point → List Tet → RationalPoint → Type 0
OffPlanes ps rows x = All (λ t. OffFacePlanes (corners ps t) x) rows

-- how many rows hold x strictly
abbrev pub rows_round : List Point → List Tet → RationalPoint → ℕ
rows_round ps rows x = count_by (λ t. strictly_inside (corners ps t) x) rows

-- each rational point off all face planes of the rows lies strictly inside exactly one row where it is in the hull of these points, and in
-- none where it is not
pub record CoversHullOnceAmong (ps : List Point) (ms : List ℕ) (rows : List Tet) : Type 0 where
  pub inside : EachRational (λ x. OffPlanes ps rows x → InHullAmong ps ms x → rows_round ps rows x ≡ 1)
  pub beyond : EachRational (λ x. OffPlanes ps rows x → ¬ InHullAmong ps ms x → rows_round ps rows x ≡ 0)

-- and where these are all the points
abbrev pub CoversHullOnce : List Point → List Tet → Type 0
CoversHullOnce ps rows = CoversHullOnceAmong ps (all_numbers ps) rows
