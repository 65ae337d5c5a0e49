-- Free paths: straight legs that meet no facet and no edge of a tetrahedron; and which points are out of a mesh.
use Rattle.std.specs.Prelude.{◌≡◌, ◌⊎◌, ℕ, ◌+◌, ◌<◌, pos, ◌+ℤ◌, ◌*ℤ◌, ◌<ℤ◌, List, [], ◌∷◌, All, Any}
use Rattle.sign_predicates.specs.Point.{Point, RationalPoint, EachRational, SomeRational}
use Rattle.geo_laws.specs.Hull.{IsBeyondHull, OffPlanes}
use Rattle.geo_laws.specs.Simplex.{InSimplex}
use Rattle.geo_laws.specs.Faces.{row_sides, side_numbers}
use Rattle.geo_laws.specs.Facet.{IsOnSomeFacet}
use Rattle.geo_laws.specs.declared.tetrahedra.Tet.{Tet}
use Rattle.geo_laws.specs.declared.complex.FacetTriangle.{FacetTriangle}

-- x lies on a side of a row
abbrev pub IsOnRowSide : List Point → List Tet → RationalPoint → Type 0
IsOnRowSide ps rows x = Any (λ t. Any (λ s. InSimplex ps (side_numbers s) x) (row_sides t)) rows

-- z lies on the straight leg from x to y
abbrev pub IsOnLeg : RationalPoint → RationalPoint → RationalPoint → Type 0
IsOnLeg x y z = (m n : ℕ) × (0 < m + n)
    × (z.x *ℤ (pos m *ℤ x.w +ℤ pos n *ℤ y.w) ≡ z.w *ℤ (pos m *ℤ x.x +ℤ pos n *ℤ y.x))
    × (z.y *ℤ (pos m *ℤ x.w +ℤ pos n *ℤ y.w) ≡ z.w *ℤ (pos m *ℤ x.y +ℤ pos n *ℤ y.y))
    × (z.z *ℤ (pos m *ℤ x.w +ℤ pos n *ℤ y.w) ≡ z.w *ℤ (pos m *ℤ x.z +ℤ pos n *ℤ y.z))

-- two rational points are one
pub record SamePoint (x y : RationalPoint) : Type 0 where
  pub x_same : x.x *ℤ y.w ≡ y.x *ℤ x.w
  pub y_same : x.y *ℤ y.w ≡ y.y *ℤ x.w
  pub z_same : x.z *ℤ y.w ≡ y.z *ℤ x.w

-- the leg meets no facet, and no side of a row but at a marked point in which the path ends
pub record IsFreeLeg (ps : List Point) (ts : List FacetTriangle) (rows : List Tet) (ends_marked : Type 0)
    (x y : RationalPoint) : Type 0 where
  pub off_facets : EachRational (λ z. IsOnLeg x y z → ¬ IsOnSomeFacet ps ts z)
  pub off_sides : EachRational (λ z. IsOnLeg x y z → IsOnRowSide ps rows z → ends_marked × SamePoint z y)

-- From x by straight legs through the points. Each point is off all planes of the rows; a last point that is marked, as a hole point is,
-- may lie on them
abbrev pub IsFreePath : List Point → List FacetTriangle → List Tet → Type 0 → RationalPoint → List RationalPoint → Type 0
IsFreePath ps ts rows marked x [] = OffPlanes ps rows x ⊎ marked
IsFreePath ps ts rows marked x (y ∷ []) = OffPlanes ps rows x × IsFreeLeg ps ts rows marked x y × (OffPlanes ps rows y ⊎ marked)
IsFreePath ps ts rows marked x (y ∷ z ∷ path) = OffPlanes ps rows x × IsFreeLeg ps ts rows ⊥ x y × IsFreePath ps ts rows marked y (z ∷ path)

abbrev pub last_point : RationalPoint → List RationalPoint → RationalPoint
last_point x [] = x
last_point x (y ∷ path) = last_point y path

-- a free path leads from x to y; `marked` says that y is a hole point or a region point
abbrev pub IsJoined : List Point → List FacetTriangle → List Tet → Type 0 → RationalPoint → RationalPoint → Type 0
IsJoined ps ts rows marked x y =
    (path : List RationalPoint) × All (λ z. pos 0 <ℤ z.w) path × IsFreePath ps ts rows marked x path × SamePoint (last_point x path) y

abbrev pub ReachesHole : List Point → List FacetTriangle → List Tet → List RationalPoint → RationalPoint → Type 0
ReachesHole ps ts rows holes x = Any (IsJoined ps ts rows (Unit {0}) x) holes

-- what is cut away: with a piecewise linear complex what is joined with the outside or a hole; where the hull is kept, what is beyond it or
-- joined with a hole; without a complex what is beyond the hull
pub data Carving : Type 0 where
  HullOnly : Carving
  KeepHull : Carving
  FromOutside : Carving

abbrev pub IsOut : Carving → List Point → List FacetTriangle → List Tet → List RationalPoint → RationalPoint → Type 0
IsOut HullOnly ps ts rows holes x = IsBeyondHull ps x
IsOut KeepHull ps ts rows holes x = IsBeyondHull ps x ⊎ ReachesHole ps ts rows holes x
IsOut FromOutside ps ts rows holes x = SomeRational (λ y. IsBeyondHull ps y × IsJoined ps ts rows ⊥ x y) ⊎ ReachesHole ps ts rows holes x
