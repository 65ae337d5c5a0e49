-- Facets of a mesh are covered by their triangles.
use Rattle.std.specs.Prelude.{◌≡◌, ℕ, List, Some, Contains}
use Rattle.sign_predicates.specs.Point.{Point}
use Rattle.geo_laws.specs.Facet.{Facet, plane}
use Rattle.geo_laws.specs.declared.complex.FacetTriangle.{FacetTriangle}
use Rattle.geo_laws.specs.declared.complex.Piece.{Piece}
use Rattle.facet_laws.specs.Region.{CoversBounded}
use Rattle.complex_laws.specs.SoundComplex.{facet_numbered}
use Rattle.complex_mesh.specs.Protection.{triangles_at}

-- Where the facet at a place has a plane, its triangles cover its region but for the pieces of segments, each point once; and they are
-- among these triangles
pub record IsCoveredAt (qs : List Point) (ts : List FacetTriangle) (segs : List Piece) (fs : List Facet) (k : ℕ) : Type 0 where
  pub covers : (p : ℕ × ℕ × ℕ) → plane qs (facet_numbered fs k) ≡ Some p
      → CoversBounded qs segs (facet_numbered fs k) (triangles_at qs fs k)
  pub there : (t : FacetTriangle) → Contains (triangles_at qs fs k) t → Contains ts t
