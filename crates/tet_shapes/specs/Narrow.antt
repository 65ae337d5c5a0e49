-- Corners in which two segments meet at a small angle.
use Rattle.std.specs.Prelude.{◌≡◌, ◌<◌, ℕ, true, List, length, HoldsAt}
use Rattle.sign_predicates.specs.Point.{Point, from_to}
use Rattle.geo_laws.specs.Delaunay.{point}
use Rattle.geo_laws.specs.Segment.{piece, same_ends}
use Rattle.geo_laws.specs.declared.complex.Piece.{Piece}
use Rattle.tet_shapes.specs.Angle.{is_below, squared_cosine}
use Rattle.tet_shapes.specs.declared.narrow.Corner.{Corner}
use Rattle.tet_shapes.specs.declared.narrow.NarrowCorner.{NarrowCorner}

-- two segments have this corner in common, and these other ends
pub record IsCornerOf (s t : Piece) (c : Corner) : Type 0 where
  pub first : same_ends (piece c.at c.one 0) s ≡ true
  pub second : same_ends (piece c.at c.other 0) t ≡ true

-- the angle in a corner is below so many degrees, whose squared cosine is rounded to nine decimals
abbrev pub IsBelowDegrees : List Point → Corner → ℕ → Type 0
IsBelowDegrees ps c degrees =
    is_below (squared_cosine degrees) (from_to (point ps c.at) (point ps c.one)) (from_to (point ps c.at) (point ps c.other)) ≡ true

-- a segment and the one at a place of a list meet in a corner, at an angle below so many degrees
pub record IsNarrow (ps : List Point) (segs : List Piece) (s : Piece) (n : NarrowCorner) : Type 0 where
  pub there : n.place < length segs
  pub corner : HoldsAt (λ t. IsCornerOf s t n.corner) segs n.place
  pub below : IsBelowDegrees ps n.corner n.degrees
