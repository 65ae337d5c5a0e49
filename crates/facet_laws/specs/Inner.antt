-- Sides that two polygons of a facet have in common, one on either hand: the facet goes on across them.
use Rattle.std.specs.Prelude.{◌≡◌, ◌≢◌, ℕ, pos, ◌<ℤ◌, ◌≤ℤ◌, false, count_by, List, [], Contains}
use Rattle.std.specs.List.{AllByRecursion}
use Rattle.sign_predicates.specs.Point.{Point, EachRational, as_rational}
use Rattle.sign_predicates.specs.Orientation.{Triangle, side}
use Rattle.geo_laws.specs.Delaunay.{point}
use Rattle.geo_laws.specs.Segment.{sides, same_ends}
use Rattle.geo_laws.specs.Facet.{Facet, areas}
use Rattle.geo_laws.specs.declared.complex.Piece.{Piece}
use Rattle.facet_laws.specs.Legs.{IsWeightedMean}

-- no point between a and b lies strictly between c and d
abbrev pub IsOffInside : Point → Point → Point → Point → Type 0
IsOffInside a b c d = EachRational (λ z. IsWeightedMean (as_rational a) (as_rational b) z
    → (l : IsWeightedMean (as_rational c) (as_rational d) z)
    → pos 0 <ℤ l.to_x → ¬ (pos 0 <ℤ l.to_y))

-- the polygon has the side at one place, and none of its other sides passes through a point of it
pub record HasOnce (ps : List Point) (s : Piece) (polygon : List ℕ) : Type 0 where
  pub once : count_by (same_ends s) (sides polygon) ≡ 1
  pub others : AllByRecursion (λ r. same_ends s r ≡ false
      → IsOffInside (point ps s.a) (point ps s.b) (point ps r.a) (point ps r.b)) (sides polygon)

-- The side of a polygon is inner in the facet: another of its polygons has it too; a plane g through the side has the one polygon on the
-- one hand of it and the other on the other; and no hole point leaves the facet
pub record IsInnerSide (ps : List Point) (facet : Facet) (polygon : List ℕ) (s : Piece) : Type 0 where
  pub no_holes : facet.holes ≡ []
  pub other : List ℕ
  pub listed : Contains (areas facet) other
  pub g : Triangle
  pub a_on : side g (point ps s.a) ≡ pos 0
  pub b_on : side g (point ps s.b) ≡ pos 0
  pub ends : point ps s.a ≢ point ps s.b
  pub beside : AllByRecursion (λ i. pos 0 ≤ℤ side g (point ps i)) polygon
  pub beyond : AllByRecursion (λ i. side g (point ps i) ≤ℤ pos 0) other
  pub off : ℕ
  pub off_is : Contains polygon off
  pub off_line : pos 0 <ℤ side g (point ps off)
  pub own : HasOnce ps s polygon
  pub others : HasOnce ps s other
