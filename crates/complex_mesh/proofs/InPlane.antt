-- Triangles of one facet are properly met, and so is each triangle with each side of the Delaunay list in its plane.
use Rattle.std.proofs.Common.{◌≡◌, ℕ, ◌<◌, ◌&&◌, true, List, length, Option, None, Some, refl, ap, sym, subst, ◌∙◌, arith}
use Rattle.std.specs.Prelude.{All, IsTrue}
use Rattle.std.specs.List.{slice_index_or}
use Rattle.std.proofs.lemmas.Bool.{false≢true}
use Rattle.sign_predicates.specs.Point.{Point, RationalPoint}
use Rattle.sign_predicates.specs.Orientation.{side}
use Rattle.geo_laws.specs.Delaunay.{point, numbers, has_corner, numbers_below, delaunay_rows}
use Rattle.geo_laws.specs.Simplex.{ProperlyMet}
use Rattle.geo_laws.specs.Mesh.{ends}
use Rattle.geo_laws.specs.Segment.{is_side}
use Rattle.geo_laws.specs.Facet.{Facet, plane, in_region, is_within_plane, is_on_plane, corner_numbers, triangle_centroid}
use Rattle.geo_laws.specs.declared.tetrahedra.Tet.{Tet}
use Rattle.geo_laws.specs.declared.complex.Piece.{Piece}
use Rattle.geo_laws.specs.declared.complex.FacetTriangle.{FacetTriangle}
use Rattle.geo_laws.proofs.Members.{IsMember, here, there, contains_of, some_true, both_true, flat_map_cases, at_place}
use Rattle.geo_laws.proofs.Simplices.{member_of_test}
use Rattle.geo_laws.proofs.DelaunayList.{law_delaunay_list}
use Rattle.complex_laws.specs.SoundComplex.{facet_numbered}
use Rattle.facet_laws.specs.Region.{IsFacetTriangle, through}
use Rattle.facet_laws.specs.Circle.{circle_triangle}
use Rattle.facet_laws.proofs.OnPiece.{zero_test}
use Rattle.facet_laws.proofs.General.{own_plane}
use Rattle.facet_laws.proofs.Facets.{Circle, circle_of, middle_of, plane_spans}
use Rattle.facet_laws.proofs.Meets.{law_circle_meet, law_piece_meet}
use Rattle.facet_laws.proofs.FaceIn.{law_meet_order}
use Rattle.simplex_meets.specs.Parts.{lies_in_plane}
use Rattle.simplex_meets.specs.Crossing.{AreFlatMet}
use Rattle.complex_mesh.specs.Protection.{triangles_at, complex_triangles}
use Rattle.complex_mesh.proofs.Triangles.{of_list}

-- a facet whose region holds a point has a plane
plane_of : (ps : List Point) (facet : Facet) (x : RationalPoint) → in_region ps facet x ≡ true → (p : ℕ × ℕ × ℕ) × (plane ps facet ≡ Some p)
plane_of ps facet x inside = go (plane ps facet) refl
  where
    go : (o : Option (ℕ × ℕ × ℕ)) → plane ps facet ≡ o → (p : ℕ × ℕ × ℕ) × (plane ps facet ≡ Some p)
    go None e = absurd (false≢true (sym (ap (is_within_plane ps facet x) e) ∙ inside))
    go (Some p) e = (p, e)

-- a triangle of a facet is a circle triangle of the facet's plane
circle_in : (ps : List Point) (k : ℕ) (facet : Facet) (t : FacetTriangle) → IsFacetTriangle ps k facet t → (p : ℕ × ℕ × ℕ) × (plane ps facet ≡ Some p) × Circle ps p t
circle_in ps k facet t h =
    let p = plane_of ps facet (triangle_centroid (point ps t.a) (point ps t.b) (point ps t.c)) (middle_of ps facet t h.test) in
    (p.0, p.1, circle_of ps k facet p.0 t p.1 h)

one_facet_met : (ps : List Point) (k : ℕ) (facet : Facet) (s t : FacetTriangle) → IsFacetTriangle ps k facet s → IsFacetTriangle ps k facet t
    → ProperlyMet ps (corner_numbers s) (corner_numbers t)
one_facet_met ps k facet s t hs ht =
    let p = circle_in ps k facet s hs in
    let c = circle_of ps k facet p.0 t p.1 ht in
    law_circle_meet ps (through ps p.0) s t (plane_spans ps facet p.0 p.1) p.2.circle c.circle p.2.lies c.lies

side_in_plane_met : (ps : List Point) (k : ℕ) (facet : Facet) (t : FacetTriangle) (p : Piece) → IsFacetTriangle ps k facet t → is_side (delaunay_rows ps) p ≡ true → IsTrue (lies_in_plane ps t p)
    → ProperlyMet ps (corner_numbers t) (ends p)
side_in_plane_met ps k facet t p h is flat =
    law_meet_order.swapped ps (ends p) (corner_numbers t)
    (law_piece_meet ps (circle_triangle ps t) row.0 p.a p.b t circle.circle.spans (((law_delaunay_list ps).exactly row.0).0 (contains_of (delaunay_rows ps) row.0 row.1))
    (contains_of (numbers row.0) p.a (member_of_test (numbers row.0) p.a both.0)) (contains_of (numbers row.0) p.b (member_of_test (numbers row.0) p.b both.1))
    (zero_test (side (circle_triangle ps t) (point ps p.a)) on.0) (zero_test (side (circle_triangle ps t) (point ps p.b)) on.1) circle.circle
    (record { at_a = own_plane ps t t.a here; at_b = own_plane ps t t.b (there here); at_c = own_plane ps t t.c (there (there here)) }))
  where
    row : (r : Tet) × IsMember r (delaunay_rows ps) × (has_corner r p.a && has_corner r p.b ≡ true)
    row = some_true (λ r. has_corner r p.a && has_corner r p.b) (delaunay_rows ps) is

    both : (has_corner row.0 p.a ≡ true) × (has_corner row.0 p.b ≡ true)
    both = both_true (has_corner row.0 p.a) (has_corner row.0 p.b) row.2

    on : (is_on_plane ps t.a t.b t.c p.a ≡ true) × (is_on_plane ps t.a t.b t.c p.b ≡ true)
    on = both_true (is_on_plane ps t.a t.b t.c p.a) (is_on_plane ps t.a t.b t.c p.b) flat

    circle : Circle ps (circle_in ps k facet t h).0 t
    circle = (circle_in ps k facet t h).2

-- a triangle of the list is one of its facet
own_facet : (qs : List Point) (fs : List Facet) (i : ℕ) (d : FacetTriangle) → i < length (complex_triangles qs fs)
    → IsFacetTriangle qs (slice_index_or (complex_triangles qs fs) i d).facet (facet_numbered fs (slice_index_or (complex_triangles qs fs) i d).facet) (slice_index_or (complex_triangles qs fs) i d)
own_facet qs fs i d h =
    let t = slice_index_or (complex_triangles qs fs) i d in
    let p = flat_map_cases (triangles_at qs fs) t (numbers_below (length fs)) (at_place (complex_triangles qs fs) i d h) in
    let own = of_list qs fs p.0 t p.2 in
    subst (λ k. IsFacetTriangle qs k (facet_numbered fs k) t) (sym own.of_facet) own

pub met_in_plane : (qs : List Point) (fs : List Facet) (rest : List Piece) → All (λ p. is_side (delaunay_rows qs) p ≡ true) rest → AreFlatMet qs (complex_triangles qs fs) rest
met_in_plane qs fs rest sides = record {
  triangles_meet = λ i j d h n same.
      (let t = slice_index_or (complex_triangles qs fs) i d in
      let u = slice_index_or (complex_triangles qs fs) j d in
      one_facet_met qs t.facet (facet_numbered fs t.facet) t u (own_facet qs fs i d (omega arith)) (subst (λ k. IsFacetTriangle qs k (facet_numbered fs k) u) (sym same) (own_facet qs fs j d n)));
  triangles_meet_pieces = λ i j d p h n flat.
      (let t = slice_index_or (complex_triangles qs fs) i d in
      side_in_plane_met qs t.facet (facet_numbered fs t.facet) t (slice_index_or rest j p) (own_facet qs fs i d h) (sides j p n) flat);
}
