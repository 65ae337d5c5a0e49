-- Points of a facet's plane near the facet.
use Rattle.std.specs.Prelude.{◌≡◌, ℕ, ◌<◌, pos, List, length, All, Contains, IsTrue}
use Rattle.sign_predicates.specs.Point.{Point, as_rational}
use Rattle.sign_predicates.specs.Orientation.{Triangle, side}
use Rattle.geo_laws.specs.Delaunay.{point}
use Rattle.geo_laws.specs.Facet.{Facet, in_region}
use Rattle.facet_laws.specs.PlaneRows.{ArePlaneNumbers}
use Rattle.facet_laws.specs.Region.{through}
use Rattle.box_tree.specs.Bounds.{HoldsPoint}
use Rattle.box_tree.specs.declared.bounds.Bounds.{Bounds}

-- the box holds the points with these numbers
abbrev pub HoldsAll : List Point → Bounds → List ℕ → Type 0
HoldsAll ps b cs = All (λ i. HoldsPoint b (point ps i)) cs

-- ascending numbers of points of the plane, with all those of the plane that the box holds
pub record ArePlaneNumbersIn (ps : List Point) (f : Triangle) (b : Bounds) (ns : List ℕ) : Type 0 where
  pub numbers : ArePlaneNumbers ps f ns
  pub held : (i : ℕ) → i < length ps → side f (point ps i) ≡ pos 0 → HoldsPoint b (point ps i) → Contains ns i

-- ascending numbers of points of the facet's plane, with the corners that span it and with the points of the region
pub record AreNumbersNear (ps : List Point) (facet : Facet) (p : ℕ × ℕ × ℕ) (ns : List ℕ) : Type 0 where
  pub numbers : ArePlaneNumbers ps (through ps p) ns
  pub spanning : Contains ns p.0 × Contains ns p.1 × Contains ns p.2
  pub region : (i : ℕ) → i < length ps → IsTrue (in_region ps facet (as_rational (point ps i))) → Contains ns i
