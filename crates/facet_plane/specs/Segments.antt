-- Facets whose sides are covered by pieces.
use Rattle.std.specs.Prelude.{List}
use Rattle.sign_predicates.specs.Point.{Point}
use Rattle.geo_laws.specs.Facet.{Facet}
use Rattle.geo_laws.specs.declared.complex.Piece.{Piece}
use Rattle.facet_laws.specs.Region.{HavePieces, IsBounded}

-- the pieces of some segments are sides of Delaunay rows, and each side of the facet's polygons is one of these segments or inner in the
-- facet
pub record HasSegments (ps : List Point) (facet : Facet) : Type 0 where
  pub segs : List Piece
  pub pieces : HavePieces ps segs
  pub bounded : IsBounded ps segs facet
