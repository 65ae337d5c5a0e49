-- Triangles that facets may have.
use Rattle.std.specs.Prelude.{◌<◌, List, length}
use Rattle.sign_predicates.specs.Point.{Point}
use Rattle.sign_predicates.specs.Orientation.{SpansPlane}
use Rattle.geo_laws.specs.OrientedFace.{triangle}
use Rattle.geo_laws.specs.declared.complex.FacetTriangle.{FacetTriangle}
use Rattle.tangle_laws.specs.Tangle.{facet_face}

-- the triangle ascends, is on the points and not on a line
pub record IsPlaneTriangle (ps : List Point) (k : FacetTriangle) : Type 0 where
  pub ascends : (k.a < k.b) × (k.b < k.c)
  pub within : k.c < length ps
  pub spans : SpansPlane (triangle ps (facet_face k))
