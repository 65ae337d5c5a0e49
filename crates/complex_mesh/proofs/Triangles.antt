-- The triangles of all facets of a complex.
use Rattle.std.proofs.Common.{◌≡◌, inl, inr, ℕ, ◌+◌, ◌<◌, ◌≤◌, zero-add, Bool, ◌&&◌, List, [], ◌∷◌, ◌++◌, ◌-◌, map, take, drop, length, ap, sym, subst, ◌∙◌, arith}
use Rattle.std.specs.Prelude.{None, All, Contains, flat_map, slice_range, IsTrue}
use Rattle.std.specs.List.{HoldsAt, AllByRecursion, slice_index_or}
use Rattle.std.proofs.lemmas.Grind.{flat_map-append}
use Rattle.std.proofs.lemmas.List.{get_or-map, append-nil, take-append-drop}
use Rattle.std.proofs.lemmas.List.Folds.{flat_map-map}
use Rattle.std.proofs.lemmas.List.FromFn.{map-range_with_len_more}
use Rattle.sign_predicates.specs.Point.{Point}
use Rattle.geo_laws.specs.Segment.{segments}
use Rattle.geo_laws.specs.Complex.{Complex, Polygon, flat_facet, facets, corner_lists, HasCornersOf}
use Rattle.geo_laws.specs.Delaunay.{numbers_below, AreCoplanar}
use Rattle.geo_laws.specs.Facet.{Facet as FlatFacet, IsFlat, facet_triangles, all_corners}
use Rattle.geo_laws.specs.declared.complex.Facet.{Facet}
use Rattle.geo_laws.specs.declared.complex.Piece.{Piece}
use Rattle.facet_laws.specs.Region.{HavePieces}
use Rattle.facet_plane.specs.Segments.{HasSegments}
use Rattle.geo_laws.specs.declared.complex.FacetTriangle.{FacetTriangle}
use Rattle.geo_laws.proofs.Members.{IsMember, member_of, contains_of, in_append_left, in_append_right, in_map, map_cases, in_flat_map, flat_map_cases, in_range, range_bounds, both_true, at_place}
use Rattle.geo_laws.proofs.Ascending.{Rises, rises-range, rises-flat_map}
use Rattle.facet_laws.specs.Region as region
use Rattle.facet_laws.specs.Faces.{Ascends}
use Rattle.facet_laws.proofs.Chains.{all_at}
use Rattle.facet_laws.proofs.Threes.{law_facet_list, law_facet_order}
use Rattle.refill_laws.specs.Protected.{TriangleBefore}
use Rattle.complex_laws.specs.SoundComplex.{IsSoundFacet, HasTriangles, facet_numbered}
use Rattle.complex_laws.proofs.SoundComplex.{law_listed}
use Rattle.simplex_meets.specs.Proper.{IsTriangle, triangle_face}
use Rattle.simplex_meets.proofs.Facets.{law_spans}
use Rattle.facet_plane.proofs.FlatFacets.{facet_count}
use Rattle.facet_plane.proofs.Polygons.{facet_corners_there}
use Rattle.segment_protect.proofs.Splits.{pairs_of_rises, all_members}
use Rattle.segment_protect.proofs.Stops.{rises_of_pairs}
use Rattle.complex_mesh.specs.Protection.{triangles_at, first_triangles, complex_triangles}

-- ---- facets

-- the facet at a place, with its polygons
pub facet_is : (c : Complex) (k : ℕ) (d : Facet) → k < length c.facets → facet_numbered (facets c) k ≡ flat_facet c.polygons (slice_index_or c.facets k d)
facet_is c k d l = get_or-map (flat_facet c.polygons) c.facets k d (record { polygons = []; holes = [] }) l

abbrev no_facet : Facet
no_facet = record { first = 0; past = 0; holes = []; marker = None }

-- the corners of all facets are numbers of points
pub corners_on : (ps : List Point) (c : Complex) → HasCornersOf ps c → (k : ℕ) → k < length (facets c) → AllByRecursion (λ i. i < length ps) (all_corners (facet_numbered (facets c) k))
corners_on ps c on k l =
    let f = slice_index_or c.facets k no_facet in
    subst (λ g. AllByRecursion (λ i. i < length ps) (all_corners g)) (sym (facet_is c k no_facet (subst (λ n. k < n) (facet_count c) l))) (facet_corners_there ps c f.first f.past on)

-- where all points lie in one plane, all facets are flat
pub coplanar_flat : (ps : List Point) (c : Complex) → HasCornersOf ps c → AreCoplanar ps → (k : ℕ) → k < length (facets c) → IsFlat ps (facet_numbered (facets c) k)
coplanar_flat ps c on flat k l a b d e ma mb md me = flat a b d e (there a ma) (there b mb) (there d md) (there e me)
  where
    there : (i : ℕ) → Contains (all_corners (facet_numbered (facets c) k)) i → i < length ps
    there i m = all_at (λ i. i < length ps) i (all_corners (facet_numbered (facets c) k)) (corners_on ps c on k l) (member_of (all_corners (facet_numbered (facets c) k)) i m)

-- the polygons of a facet are some of the complex
polygons_among : (c : Complex) (f : Facet) (q : List ℕ) → Contains (flat_facet c.polygons f).polygons q → Contains (corner_lists c.polygons) q
polygons_among c f q m =
    let r = map_cases (λ (p : Polygon). p.corners) q (slice_range c.polygons f.first f.past) (member_of (flat_facet c.polygons f).polygons q m) in
    contains_of (corner_lists c.polygons) q
    (subst (λ cs. IsMember cs (corner_lists c.polygons)) (sym r.2) (in_map (λ (p : Polygon). p.corners) r.0 c.polygons (in_dropped f.first c.polygons r.0 (in_taken (f.past - f.first) (drop f.first c.polygons) r.0 r.1))))
  where
    in_taken : (n : ℕ) (xs : List Polygon) (x : Polygon) → IsMember x (take n xs) → IsMember x xs
    in_taken n xs x m = subst (IsMember x) (take-append-drop n xs) (in_append_left x (take n xs) (drop n xs) m)

    in_dropped : (n : ℕ) (xs : List Polygon) (x : Polygon) → IsMember x (drop n xs) → IsMember x xs
    in_dropped n xs x m = subst (IsMember x) (take-append-drop n xs) (in_append_right x (take n xs) (drop n xs) m)

-- flat facets whose corners are numbers of points are sound
pub sound_facet : (ps : List Point) (c : Complex) → HasCornersOf ps c → All (IsFlat ps) (facets c) → (k : ℕ) → k < length (facets c) → IsSoundFacet ps (segments (corner_lists c.polygons)) (facet_numbered (facets c) k)
sound_facet ps c on flat k l =
    let f = slice_index_or c.facets k no_facet in
    let is = facet_is c k no_facet (subst (λ n. k < n) (facet_count c) l) in
    law_listed ps (corner_lists c.polygons) (facet_numbered (facets c) k) (corners_on ps c on k l) (flat k (record { polygons = []; holes = [] }) l) (λ q m. polygons_among c f q (subst (λ g. Contains g.polygons q) is m))

-- ---- triangles

-- a triangle in a facet's list is one of the facet
pub of_list : (qs : List Point) (fs : List FlatFacet) (k : ℕ) (t : FacetTriangle) → IsMember t (triangles_at qs fs k) → region.IsFacetTriangle qs k (facet_numbered fs k) t
of_list qs fs k t m = (law_facet_list qs k (facet_numbered fs k) t).0 (contains_of (triangles_at qs fs k) t m)

-- the triangles of all facets are exactly those of each, by facets and corners
pub has_triangles : (qs : List Point) (fs : List FlatFacet) → HasTriangles qs fs (complex_triangles qs fs)
has_triangles qs fs = record {
  exactly = λ t. (to t, from t);
  ascending = pairs_of_rises TriangleBefore (complex_triangles qs fs) (rises-flat_map ◌<◌ TriangleBefore (triangles_at qs fs) (numbers_below (length fs)) (rises-range 0 (length fs)) each apart);
}
  where
    to : (t : FacetTriangle) → Contains (complex_triangles qs fs) t → (t.facet < length fs) × Contains (facet_triangles qs t.facet (facet_numbered fs t.facet)) t
    to t m =
        let p = flat_map_cases (triangles_at qs fs) t (numbers_below (length fs)) (member_of (complex_triangles qs fs) t m) in
        let is = (of_list qs fs p.0 t p.2).of_facet in (
          subst (λ k. k < length fs) (sym is) (subst (λ n. p.0 < n) (zero-add (length fs)) (range_bounds 0 (length fs) p.0 p.1).1),
          subst (λ k. Contains (triangles_at qs fs k) t) (sym is) (contains_of (triangles_at qs fs p.0) t p.2),
        )

    least : (k : ℕ) → 0 ≤ k
    least k = omega arith

    from : (t : FacetTriangle) → (t.facet < length fs) × Contains (facet_triangles qs t.facet (facet_numbered fs t.facet)) t → Contains (complex_triangles qs fs) t
    from t h =
        contains_of (complex_triangles qs fs) t
        (in_flat_map (triangles_at qs fs) t.facet t (numbers_below (length fs))
        (in_range 0 (length fs) t.facet (least t.facet) (subst (λ n. t.facet < n) (sym (zero-add (length fs))) h.0))
        (member_of (triangles_at qs fs t.facet) t h.1))

    each : (k : ℕ) → Rises TriangleBefore (triangles_at qs fs k)
    each k = rises_of_pairs TriangleBefore (triangles_at qs fs k) (λ i j d l m.
        let u = slice_index_or (triangles_at qs fs k) i d in
        let v = slice_index_or (triangles_at qs fs k) j d in
        inr (
          (of_list qs fs k u (at_place (triangles_at qs fs k) i d (less i j (length (triangles_at qs fs k)) l m))).of_facet ∙ sym (of_list qs fs k v (at_place (triangles_at qs fs k) j d m)).of_facet,
          law_facet_order qs k (facet_numbered fs k) i j d l m,
        ))
      where
        less : (i j n : ℕ) → i < j → j < n → i < n
        less i j n h l = omega arith

    apart : (k l : ℕ) (u v : FacetTriangle) → k < l → IsMember u (triangles_at qs fs k) → IsMember v (triangles_at qs fs l) → TriangleBefore u v
    apart k l u v h m n = inl (subst (λ i. i < v.facet) (sym (of_list qs fs k u m).of_facet) (subst (λ i. k < i) (sym (of_list qs fs l v n).of_facet) h))

first_test : (a b c d : Bool) → IsTrue (a && b && c && d) → IsTrue a
first_test a b c d e = (both_true a b (both_true (a && b) c (both_true (a && b && c) d e).0).0).0

-- their corners are not on a line
pub triangles_span : (qs : List Point) (fs : List FlatFacet) → All (λ t. IsTriangle qs (triangle_face t)) (complex_triangles qs fs)
triangles_span qs fs = all_members (λ t. IsTriangle qs (triangle_face t)) (complex_triangles qs fs) each
  where
    less : (i j n : ℕ) → i < j → j < n → i < n
    less i j n h l = omega arith

    each : (t : FacetTriangle) → IsMember t (complex_triangles qs fs) → IsTriangle qs (triangle_face t)
    each t m =
        let p = flat_map_cases (triangles_at qs fs) t (numbers_below (length fs)) m in
        let h = of_list qs fs p.0 t p.2 in
        let b = less t.b t.c (length qs) h.second h.on_list in
        record { a_on = less t.a t.b (length qs) h.first b; b_on = b; c_on = h.on_list; spans = (law_spans qs t.a t.b t.c).0 (first_test _ _ _ _ h.test) }

-- they ascend
pub triangles_ascend : (qs : List Point) (fs : List FlatFacet) → All Ascends (complex_triangles qs fs)
triangles_ascend qs fs = all_members Ascends (complex_triangles qs fs) each
  where
    each : (t : FacetTriangle) → IsMember t (complex_triangles qs fs) → Ascends t
    each t m =
        let p = flat_map_cases (triangles_at qs fs) t (numbers_below (length fs)) m in
        let h = of_list qs fs p.0 t p.2 in
        record { first = h.first; second = h.second }

-- ---- one facet more

-- the facet at a place of the complex is flat
pub flat_at : (qs : List Point) (segs : List Piece) (c : Complex) (k n : ℕ) → n ≡ length c.facets → k < n → ((k : ℕ) → k < length (facets c) → IsSoundFacet qs segs (facet_numbered (facets c) k))
    → HoldsAt (λ f. IsFlat qs (flat_facet c.polygons f)) c.facets k
flat_at qs segs c k n e l sound d = subst (IsFlat qs) (facet_is c k d (subst (λ m. k < m) e l)) (sound k (subst (λ m. k < m) (e ∙ sym (facet_count c)) l)).flat

-- each side of it is inner or one of the segments
pub segments_at : (qs : List Point) (segs : List Piece) (c : Complex) (k n : ℕ) → n ≡ length c.facets → k < n → HavePieces qs segs → ((k : ℕ) → k < length (facets c) → IsSoundFacet qs segs (facet_numbered (facets c) k))
    → HoldsAt (λ f. HasSegments qs (flat_facet c.polygons f)) c.facets k
segments_at qs segs c k n e l pieces sound d =
    subst (HasSegments qs) (facet_is c k d (subst (λ m. k < m) e l)) (record { segs = segs; pieces = pieces; bounded = (sound k (subst (λ m. k < m) (e ∙ sym (facet_count c)) l)).bounded })

triangles_more : (qs : List Point) (c : Complex) (k : ℕ) (found : List FacetTriangle) → k < length c.facets → HoldsAt (λ f. found ≡ facet_triangles qs k (flat_facet c.polygons f)) c.facets k
    → first_triangles qs (facets c) (k + 1) ≡ first_triangles qs (facets c) k ++ found
triangles_more qs c k found l is =
    sym (flat_map-map h (λ i. i) (numbers_below (k + 1)))
    ∙ ap (flat_map h) (map-range_with_len_more (λ i. i) 0 k k (zero-add k))
    ∙ flat_map-append h (map (λ i. i) (numbers_below k)) (k ∷ [])
    ∙ (λ j. flat_map-map h (λ i. i) (numbers_below k) j ++ one j)
  where
    h : ℕ → List FacetTriangle
    h = triangles_at qs (facets c)

    one : h k ++ [] ≡ found
    one = append-nil (h k) ∙ ap (facet_triangles qs k) (facet_is c k no_facet l) ∙ sym (is no_facet)

-- the triangles so far, with those of the next facet
pub added_triangles : (qs : List Point) (c : Complex) (k n : ℕ) (old found new more : List FacetTriangle) → n ≡ length c.facets → k < n → old ≡ first_triangles qs (facets c) k
    → HoldsAt (λ f. found ≡ facet_triangles qs k (flat_facet c.polygons f)) c.facets k → more ≡ found → new ≡ old ++ more → new ≡ first_triangles qs (facets c) (k + 1)
added_triangles qs c k n old found new more e l before is same put =
    put ∙ (λ j. before j ++ same j) ∙ sym (triangles_more qs c k found (subst (λ m. k < m) e l) is)
