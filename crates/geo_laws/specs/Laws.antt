-- The laws of the Delaunay list, over the definitions alone. Where a law names numbers `ms`, it holds of the points with these numbers,
-- and so of all points of the list at `all_numbers ps`; where it names `first`, it holds of any first numbers of the heights.
use Rattle.std.specs.Prelude.{◌≡◌, ◌≢◌, ◌↔◌, ◌⊎◌, ℕ, ◌<◌, ℤ, pos, ◌+ℤ◌, ◌-ℤ◌, ◌*ℤ◌, ◌<ℤ◌, neg_ℤ, IsTrue, List, map, length, Contains}
use Rattle.std.specs.List.{AllByRecursion}
use Rattle.sign_predicates.specs.Point.{Point, RationalPoint, EachRational, SomeRational}
use Rattle.sign_predicates.specs.Orientation.{orient, Triangle, IsPositive, StrictlyInside, InClosed, SpansPlane, side_rational}
use Rattle.sign_predicates.specs.declared.tetrahedron.Corners.{Corners}
use Rattle.geo_laws.specs.Delaunay.{point, corners, numbers, is_outside_of, all_numbers, IsOn, AreNumbersOf, IsDelaunayAmong, IsDelaunayListAmong, IsDelaunayList, delaunay_rows}
use Rattle.geo_laws.specs.Hull.{InHullAmong, CoversHullOnceAmong}
use Rattle.geo_laws.specs.Simplex.{ProperlyMet, RowsProperlyMet}
use Rattle.geo_laws.specs.Height.{IsLexPositive, lifted, residual, IsLowestAmong}
use Rattle.geo_laws.specs.declared.tetrahedra.Tet.{Tet}

-- The three-term relation of Grassmann and Pluecker: of the six orientations of four points c, d, e, f with a common edge from a to b
abbrev pub ThreeTermLaw : Type 0
ThreeTermLaw = (a b c d e f : Point)
    → orient a b c d *ℤ orient a b e f -ℤ orient a b c e *ℤ orient a b d f +ℤ orient a b c f *ℤ orient a b d e ≡ pos 0

-- The lifting map: a further point is outside of a positive tetrahedron, ties included, exactly where its lifted height is above the
-- tetrahedron's
abbrev pub LiftLaw : Type 0
LiftLaw = (ps : List Point) (t : Tet) (e : ℕ) → IsOn ps t → e < length ps → IsPositive (corners ps t) → ¬ Contains (numbers t) e
    → IsTrue (is_outside_of ps t e) ↔ IsLexPositive (residual ps (lifted ps) t e)

-- Heights with the points' own places are in general position: the residual of a positive tetrahedron at a further point is not all 0
abbrev pub ResidualLaw : Type 0
ResidualLaw = (ps : List Point) (first : ℕ → ℤ) (t : Tet) (e : ℕ) → e < length ps → IsPositive (corners ps t) → ¬ Contains (numbers t) e
    → IsLexPositive (residual ps first t e) ⊎ IsLexPositive (map neg_ℤ (residual ps first t e))

-- the tetrahedra are properly met, and they are the same one where a rational point is strictly inside both
abbrev pub IsMetOrSame : List Point → Tet → Tet → Type 0
IsMetOrSame ps s t = ProperlyMet ps (numbers s) (numbers t)
    × (SomeRational (λ x. StrictlyInside (corners ps s) x × StrictlyInside (corners ps t) x) → s ≡ t)

-- Power diagrams: two lowest tetrahedra, and so two Delaunay ones, are properly met, and they are equal where a rational point is strictly
-- inside both
pub record RadicalLaw : Type 0 where
  pub lowest : (ps : List Point) (ms : List ℕ) (first : ℕ → ℤ) (s t : Tet) → IsLowestAmong ps ms first s → IsLowestAmong ps ms first t
      → IsMetOrSame ps s t
  pub delaunay : (ps : List Point) (ms : List ℕ) → AreNumbersOf ps ms → (s t : Tet) → IsDelaunayAmong ps ms s → IsDelaunayAmong ps ms t
      → IsMetOrSame ps s t

-- y is off the plane, and on the side of x where x is off it
pub record KeepsSide (x y : RationalPoint) (f : Triangle) : Type 0 where
  pub off : side_rational f y ≢ pos 0
  pub above : pos 0 <ℤ side_rational f x → pos 0 <ℤ side_rational f y
  pub below : side_rational f x <ℤ pos 0 → side_rational f y <ℤ pos 0

-- General position by perturbation: for a rational point of a closed positive tetrahedron and finitely many planes there is a rational
-- point strictly inside it and off all the planes that keeps each sign of the first that is not 0
abbrev pub NudgeLaw : Type 0
NudgeLaw = (t : Corners) → IsPositive t → (planes : List Triangle) → AllByRecursion SpansPlane planes
    → EachRational (λ x. InClosed t x → SomeRational (λ y. StrictlyInside t y × AllByRecursion (KeepsSide x y) planes))

-- the triangle of the points with these numbers
abbrev pub plane_through : List Point → ℕ → ℕ → ℕ → Triangle
plane_through ps i j k = record { a = point ps i; b = point ps j; c = point ps k }

-- x is off each plane through three points with these numbers
abbrev pub IsGeneric : List Point → List ℕ → RationalPoint → Type 0
IsGeneric ps ms x = (i j k : ℕ) → Contains ms i → Contains ms j → Contains ms k → SpansPlane (plane_through ps i j k)
    → side_rational (plane_through ps i j k) x ≢ pos 0

-- A rational point is in the hull of points or beyond it
abbrev pub HullLaw : Type 0
HullLaw = (ps : List Point) (ms : List ℕ) (x : RationalPoint) → InHullAmong ps ms x ⊎ ¬ InHullAmong ps ms x

-- The lower hull of the lifted points lies over the whole hull: a rational point of the hull, off all planes through three of the points,
-- is strictly inside a lowest tetrahedron, and so inside a Delaunay one
pub record LeastHeightLaw : Type 0 where
  pub lowest : (ps : List Point) (ms : List ℕ) → AreNumbersOf ps ms → (first : ℕ → ℤ)
      → EachRational (λ x. InHullAmong ps ms x → IsGeneric ps ms x
      → (t : Tet) × IsLowestAmong ps ms first t × StrictlyInside (corners ps t) x)
  pub delaunay : (ps : List Point) (ms : List ℕ) → AreNumbersOf ps ms
      → EachRational (λ x. InHullAmong ps ms x → IsGeneric ps ms x → (t : Tet) × IsDelaunayAmong ps ms t × StrictlyInside (corners ps t) x)

-- the tetrahedra cover the hull of the points with these numbers once, and any two of them are properly met
pub record IsTriangulationAmong (ps : List Point) (ms : List ℕ) (rows : List Tet) : Type 0 where
  pub covers : CoversHullOnceAmong ps ms rows
  pub properly_met : RowsProperlyMet ps rows

-- and where these are all points of the list
abbrev pub IsTriangulation : List Point → List Tet → Type 0
IsTriangulation ps rows = IsTriangulationAmong ps (all_numbers ps) rows

-- The Delaunay list triangulates the hull of its points
abbrev pub CoverLaw : Type 0
CoverLaw = (ps : List Point) (ms : List ℕ) → AreNumbersOf ps ms → (rows : List Tet) → IsDelaunayListAmong ps ms rows
    → IsTriangulationAmong ps ms rows

-- The list that computes is the Delaunay list
abbrev pub DelaunayListLaw : Type 0
DelaunayListLaw = (ps : List Point) → IsDelaunayList ps (delaunay_rows ps)
