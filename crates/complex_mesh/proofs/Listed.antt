-- Facet triangles that are faces of the Delaunay list are properly met, and with its sides.
use Rattle.std.proofs.Common.{◌≡◌, Bool, true, List, arith}
use Rattle.std.specs.Prelude.{All}
use Rattle.std.specs.List.{slice_index_or}
use Rattle.sign_predicates.specs.Point.{Point}
use Rattle.geo_laws.specs.Delaunay.{delaunay_rows}
use Rattle.geo_laws.specs.Segment.{is_side}
use Rattle.geo_laws.specs.declared.complex.Piece.{Piece}
use Rattle.geo_laws.specs.declared.complex.FacetTriangle.{FacetTriangle}
use Rattle.simplex_meets.specs.Crossing.{AreKnownMet}
use Rattle.facet_recover.specs.Missing.{AreListed}
use Rattle.complex_laws.proofs.MetFaces.{listed_faces_met, listed_side_met}

pub listed_known : (ps : List Point) (ts : List FacetTriangle) (rest : List Piece) (marks : List Bool) → AreListed ts (delaunay_rows ps) marks
    → All (λ p. is_side (delaunay_rows ps) p ≡ true) rest → AreKnownMet ps ts rest marks
listed_known ps ts rest marks listed sides = record {
  triangles_meet = λ i j d h n mi mj. listed_faces_met ps (slice_index_or ts i d) (slice_index_or ts j d) ((listed.each i d (omega arith)).0 mi) ((listed.each j d n).0 mj);
  triangles_meet_pieces = λ i j d p h n mi. listed_side_met ps (slice_index_or ts i d) (slice_index_or rest j p) ((listed.each i d h).0 mi) (sides j p n);
}
