-- The parts of a complex: the triangles of its facets, and its pieces.
use Rattle.std.specs.Prelude.{ℕ, Bool, true, false, not, ◌&&◌, ◌==◌, IsTrue, List}
use Rattle.sign_predicates.specs.Point.{Point}
use Rattle.geo_laws.specs.Simplex.{ProperlyMet}
use Rattle.geo_laws.specs.Facet.{corner_numbers, is_on_plane}
use Rattle.geo_laws.specs.Mesh.{ends}
use Rattle.geo_laws.specs.declared.complex.Piece.{Piece}
use Rattle.geo_laws.specs.declared.complex.FacetTriangle.{FacetTriangle}
use Rattle.geo_laws.specs.declared.faces.Side.{Side}
use Rattle.simplex_meets.specs.Proper.{IsSegment, IsTriangle, triangle_face}
use Rattle.simplex_meets.specs.declared.complex_parts.Compared.{Compared}
use Rattle.simplex_meets.specs.declared.complex_parts.Compared.TheVariants.{Any, WithTriangle, AcrossPlanes}
use Rattle.simplex_meets.specs.declared.complex_parts.Part.{Part}
use Rattle.simplex_meets.specs.declared.complex_parts.Part.TheVariants.{Triangle, Segment}

abbrev pub piece_side : Piece → Side
piece_side p = record { a = p.a; b = p.b }

-- the corners of a part
abbrev pub part_numbers : Part → List ℕ
part_numbers (Triangle t) = corner_numbers t
part_numbers (Segment p) = ends p

-- the corners of a triangle aren't on a line, and the ends of a piece are different points
abbrev pub IsPart : List Point → Part → Type 0
IsPart ps (Triangle t) = IsTriangle ps (triangle_face t)
IsPart ps (Segment p) = IsSegment ps (piece_side p)

-- the piece lies in the plane of the triangle
abbrev pub lies_in_plane : List Point → FacetTriangle → Piece → Bool
lies_in_plane ps t p = is_on_plane ps t.a t.b t.c p.a && is_on_plane ps t.a t.b t.c p.b

-- one of the two is a triangle
abbrev pub has_triangle : Part → Part → Bool
has_triangle (Segment p) (Segment q) = false
has_triangle p q = true

-- one of the two is a triangle, and they are not two triangles of one facet, nor a triangle and a later piece in its
-- plane
abbrev pub is_across : List Point → Part → Part → Bool
is_across ps (Triangle t) (Triangle u) = not (t.facet == u.facet)
is_across ps (Triangle t) (Segment p) = not (lies_in_plane ps t p)
is_across ps (Segment p) q = has_triangle (Segment p) q

-- the two are to be compared
abbrev pub is_compared : Compared → List Point → Part → Part → Bool
is_compared Any ps p q = true
is_compared WithTriangle ps p q = has_triangle p q
is_compared AcrossPlanes ps p q = is_across ps p q

-- the parts are properly met, where they are to be compared
abbrev pub IsPairMet : Compared → List Point → Part → Part → Type 0
IsPairMet compared ps p q = IsTrue (is_compared compared ps p q) → ProperlyMet ps (part_numbers p) (part_numbers q)
