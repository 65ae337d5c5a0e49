-- The marker of a face by the facets in which it lies, and the faces of positive rows among facet triangles.
use Rattle.std.proofs.Common.{◌≡◌, ◌⊎◌, inl, inr, ℕ, ◌<◌, ℤ, Bool, true, List, [], ◌∷◌, ap, sym, subst, ◌∙◌, arith, get_or}
use Rattle.std.specs.Prelude.{◌↔◌, pos, if◌then◌else◌, IsTrue, None, Contains, length}
use Rattle.std.proofs.lemmas.Int.{ints}
use Rattle.std.proofs.lemmas.Bool.{cases_order}
use Rattle.sign_predicates.specs.Point.{Point}
use Rattle.sign_predicates.specs.Orientation.{IsPositive, SpansPlane}
use Rattle.geo_laws.specs.Complex.{Complex}
use Rattle.geo_laws.specs.Delaunay.{corners, point}
use Rattle.geo_laws.specs.Laws.{plane_through}
use Rattle.geo_laws.specs.Faces.{faces_of_rows}
use Rattle.geo_laws.specs.Facet.{LiesIn, triangle_centroid}
use Rattle.geo_laws.specs.declared.complex.Facet.{Facet}
use Rattle.geo_laws.specs.declared.complex.FacetTriangle.{FacetTriangle}
use Rattle.geo_laws.specs.declared.faces.Face.{Face}
use Rattle.geo_laws.specs.declared.tetrahedra.Tet.{Tet}
use Rattle.geo_laws.proofs.Corners.{distinct}
use Rattle.sign_predicates.proofs.Places.{Place}
use Rattle.geo_laws.proofs.RowFaces.{Ascends as IsAscending, face_at, face_place, face_ascends}
use Rattle.facet_laws.specs.Faces.{Ascends, as_triangle}
use Rattle.facet_laws.proofs.FaceIn.{centroid_in, law_face_in_facet}
use Rattle.incidence.specs.Pairs.{has_face}
use Rattle.incidence.specs.declared.uses.Use.{Use}
use Rattle.incidence.specs.Uses.{AreAllUses}
use Rattle.mesh_files.specs.FaceRows.{AreTrianglesMetByFaces, IsFirstLying, IsFaceMarker, IsAsked, IsFaceRowOf, IsFaceRow, AreFaceRowsOf, is_on_hull, corners_of, marker_or_1}
use Rattle.mesh_files.specs.FacetFaces.{IsTriangleIn, AreFacetFaces}
use Rattle.mesh_files.specs.declared.facet_faces.FacetFace.{FacetFace}
use Rattle.mesh_files.specs.declared.markers.FaceRow.{FaceRow}
use Rattle.mesh_files.proofs.Found.{AreItems, AreFoundBefore, found_all, no_row, row_of_face, in_row}
use Rattle.mesh_files.proofs.Spans.{face_spans}

-- ---- a face has one marker

first_same : (lies : ℕ → Type 0) (f g : ℕ) → IsFirstLying lies f → IsFirstLying lies g → f ≡ g
first_same lies f g p q = go (cases_order f g)
  where
    go : (f ≡ g) ⊎ ((f < g) ⊎ (g < f)) → f ≡ g
    go (inl e) = e
    go (inr (inl l)) = absurd (q.1 f l p.0)
    go (inr (inr l)) = absurd (p.1 g l q.0)

no_facet : Facet
no_facet = record { first = 0; past = 0; holes = []; marker = None }

marker_same : (lies : ℕ → Type 0) (facets : List Facet) (on_hull : Bool) (m n : ℤ) → IsFaceMarker lies facets on_hull m → IsFaceMarker lies facets on_hull n → m ≡ n
marker_same lies facets on_hull m n (inl (f, p, e)) (inl (g, q, d)) = e no_facet ∙ ap (λ k. marker_or_1 (get_or facets k no_facet).marker) (first_same lies f g p q) ∙ sym (d no_facet)
marker_same lies facets on_hull m n (inl (f, p, e)) (inr (none, d)) = absurd (none (f, p.0))
marker_same lies facets on_hull m n (inr (none, e)) (inl (g, q, d)) = absurd (none (g, q.0))
marker_same lies facets on_hull m n (inr (none, e)) (inr (_, d)) = e ∙ sym d

pub row_items : (lies : Face → ℕ → Type 0) (facets : List Facet) (rows : List Tet) (all : Bool) → AreItems corners_of (IsFaceRowOf lies facets rows all)
row_items lies facets rows all = record {
  own = λ f r w. w.corners_are;
  one = λ f r s v w. ap (λ (g : Face). row g r.marker) (v.corners_are ∙ sym w.corners_are) ∙ ap (row (corners_of s)) (marker_same (lies f) facets _ r.marker s.marker v.marker_is w.marker_is);
}
  where
    row : Face → ℤ → FaceRow
    row g m = record { a = g.a; b = g.b; c = g.c; marker = m }

-- ---- by whatever it is known in which facets the face lies

marker_by : (lies lies' : ℕ → Type 0) → ((facet : ℕ) → lies facet ↔ lies' facet) → (facets : List Facet) (on_hull : Bool) (m : ℤ) → IsFaceMarker lies facets on_hull m → IsFaceMarker lies' facets on_hull m
marker_by lies lies' same facets on_hull m (inl (f, p, e)) = inl (f, ((same f).0 p.0, λ g l k. p.1 g l ((same g).1 k)), e)
marker_by lies lies' same facets on_hull m (inr (none, e)) = inr ((λ k. none (k.0, (same k.0).1 k.1)), e)

asked_by : (lies lies' : ℕ → Type 0) → ((facet : ℕ) → lies facet ↔ lies' facet) → (all on_hull : Bool) → IsAsked lies all on_hull → IsAsked lies' all on_hull
asked_by lies lies' same all on_hull (inl h) = inl h
asked_by lies lies' same all on_hull (inr (inl h)) = inr (inl h)
asked_by lies lies' same all on_hull (inr (inr (f, h))) = inr (inr (f, (same f).0 h))

row_by : (lies lies' : Face → ℕ → Type 0) (facets : List Facet) (rows : List Tet) (all : Bool) (f : Face) (r : FaceRow) → ((facet : ℕ) → lies f facet ↔ lies' f facet)
    → IsFaceRowOf lies facets rows all f r → IsFaceRowOf lies' facets rows all f r
row_by lies lies' facets rows all f r same w = record {
  corners_are = w.corners_are;
  marker_is = marker_by (lies f) (lies' f) same facets _ r.marker w.marker_is;
  asked = asked_by (lies f) (lies' f) same all _ w.asked;
}

-- the face is one of the facet's triangles
abbrev pub IsTriangleOf : List FacetTriangle → Face → ℕ → Type 0
IsTriangleOf ts f facet = Contains ts (as_triangle facet f)

abbrev pub IsListedRow : List FacetTriangle → Complex → List Tet → Bool → Face → FaceRow → Type 0
IsListedRow ts complex rows all f r = IsFaceRowOf (IsTriangleOf ts) complex.facets rows all f r

-- by the list of the triangles as faces
pub listed_row : (ts : List FacetTriangle) (faces : List FacetFace) → AreFacetFaces ts faces → (complex : Complex) (rows : List Tet) (all : Bool) (f : Face) (r : FaceRow)
    → IsFaceRowOf (IsTriangleIn faces) complex.facets rows all f r ↔ IsListedRow ts complex rows all f r
listed_row ts faces a complex rows all f r = (
  row_by (IsTriangleIn faces) (IsTriangleOf ts) complex.facets rows all f r (a.exactly f),
  row_by (IsTriangleOf ts) (IsTriangleIn faces) complex.facets rows all f r (λ facet. let s = a.exactly f facet in (s.1, s.0)),
)

-- without triangles no face lies in a facet
pub nothing_lies : (ps : List Point) (facet : ℕ) (f : Face) → ¬ LiesIn ps [] facet f
nothing_lies ps facet f lies = let on = lies (triangle_centroid (point ps f.a) (point ps f.b) (point ps f.c)) (omega (arith, ints)) (centroid_in ps f.a f.b f.c) in omega (arith, on.2)

-- a face of positive rows lies in a facet exactly where it is one of its triangles
lies_in : (ps : List Point) (ts : List FacetTriangle) (rows : List Tet) → AreTrianglesMetByFaces ps ts rows → (f : Face) → Contains (faces_of_rows rows) f → (facet : ℕ) → LiesIn ps ts facet f ↔ IsTriangleOf ts f facet
lies_in ps [] rows met f c facet = (λ h. absurd (nothing_lies ps facet f h), λ h. absurd (omega (arith, h.1)))
lies_in ps (s ∷ ts) rows met f c facet =
    law_face_in_facet ps (s ∷ ts) facet f (subst (λ g. Ascends (as_triangle facet g)) (sym u.1) (record { first = up.first; second = up.second }))
    (subst (λ g. SpansPlane (plane_through ps g.a g.b g.c)) (sym u.1) (face_spans ps t u.0 positive)) (λ k d l. (met k d l).ascending) (λ k d l. (met k d l).properly_met f c)
  where
    o : (k : ℕ) × (k < length rows) × (has_face f (get_or rows k no_row) ≡ true)
    o = row_of_face rows f c

    t : Tet
    t = get_or rows o.0 no_row

    positive : IsPositive (corners ps t)
    positive = (met 0 s (omega arith)).positive o.0 no_row o.1

    u : (v : Place) × (f ≡ face_at t v)
    u = face_place t f (in_row t f o.2)

    up : IsAscending (face_at t u.0)
    up = face_ascends t (distinct ps t positive) u.0

-- without triangles a face that is asked for has 1 where it is on the hull, else 0
pub without_facets : (ps : List Point) (rows : List Tet) (complex : Complex) (all : Bool) (r : FaceRow) → IsFaceRow ps rows complex [] all r
    → (f : Face) × Contains (faces_of_rows rows) f × (corners_of r ≡ f) × (r.marker ≡ (if is_on_hull rows f then pos 1 else pos 0)) × (IsTrue all ⊎ IsTrue (is_on_hull rows f))
without_facets ps rows complex all r (f, c, w) = (f, c, w.corners_are, by_marker w.marker_is, by_asked w.asked)
  where
    by_marker : IsFaceMarker (λ facet. LiesIn ps [] facet f) complex.facets (is_on_hull rows f) r.marker → r.marker ≡ (if is_on_hull rows f then pos 1 else pos 0)
    by_marker (inl (facet, p, e)) = absurd (nothing_lies ps facet f p.0)
    by_marker (inr (none, e)) = e

    by_asked : IsAsked (λ facet. LiesIn ps [] facet f) all (is_on_hull rows f) → IsTrue all ⊎ IsTrue (is_on_hull rows f)
    by_asked (inl h) = inl h
    by_asked (inr (inl h)) = inr h
    by_asked (inr (inr (facet, h))) = absurd (nothing_lies ps facet f h)

-- what is found after all uses
pub rows_found : (ps : List Point) (ts : List FacetTriangle) (rows : List Tet) (complex : Complex) (all : Bool) (uses : List Use) (at : ℕ) (found : List FaceRow) → AreTrianglesMetByFaces ps ts rows → AreAllUses rows uses
    → at ≡ length uses → AreFoundBefore corners_of (IsListedRow ts complex rows all) uses at found → AreFaceRowsOf ps rows complex ts all found
rows_found ps ts rows complex all uses at found met a end f = record {
  exactly = λ r.
      let o = found_all corners_of (IsListedRow ts complex rows all) rows uses at found a end f r in (
        λ h. let w = o.0 h in (w.0, w.1, row_by (IsTriangleOf ts) (λ g facet. LiesIn ps ts facet g) complex.facets rows all w.0 r (λ facet. let s = lies_in ps ts rows met w.0 w.1 facet in (s.1, s.0)) w.2),
        λ w. o.1 (w.0, w.1, row_by (λ g facet. LiesIn ps ts facet g) (IsTriangleOf ts) complex.facets rows all w.0 r (lies_in ps ts rows met w.0 w.1) w.2),
      );
  ascending = f.ascending;
}
