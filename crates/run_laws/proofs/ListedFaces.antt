-- Faces that are asked for are listed.
use Rattle.std.proofs.Common.{◌≡◌, inl, inr, ℕ, zero, suc, ◌<◌, ℤ, pos, ◌<ℤ◌, Bool, List, [], map, length, None, refl, ap, subst, arith}
use Rattle.std.specs.Prelude.{Contains, slice_index_or, if◌then◌else◌}
use Rattle.std.proofs.lemmas.Int.{ints}
use Rattle.std.proofs.lemmas.Bool.{cases_eq}
use Rattle.std.proofs.lemmas.List.{get_or_default}
use Rattle.sign_predicates.specs.Point.{Point, as_rational}
use Rattle.geo_laws.specs.Complex.{Complex}
use Rattle.geo_laws.specs.Delaunay.{point}
use Rattle.geo_laws.specs.Faces.{face_numbers, faces_of_rows}
use Rattle.geo_laws.specs.Facet.{LiesIn}
use Rattle.geo_laws.specs.declared.complex.Facet.{Facet}
use Rattle.geo_laws.specs.declared.complex.FacetTriangle.{FacetTriangle}
use Rattle.geo_laws.specs.declared.faces.Face.{Face}
use Rattle.geo_laws.specs.declared.tetrahedra.Tet.{Tet}
use Rattle.geo_laws.proofs.Members.{here, contains_of, member_of, in_map}
use Rattle.geo_laws.proofs.Simplices.{corner_in}
use Rattle.mesh_files.specs.FaceRows.{AreFaceRowsOf, AreFacetsThere, IsAsked, IsFaceMarker, is_on_hull, marker_or_1}
use Rattle.mesh_files.specs.declared.markers.FaceRow.{FaceRow}
use Rattle.mesh_check.specs.Corners.{face_listed, IsListed}
use Rattle.run_laws.proofs.Listings.{contains_or_not}
use Rattle.run_laws.proofs.FaceOrder.{of_rows_itself}

-- the facet in which a face lies is there
facet_there : (ps : List Point) (ts : List FacetTriangle) (complex : Complex) → AreFacetsThere ts complex → (f : Face) (facet : ℕ) → LiesIn ps ts facet f → facet < length complex.facets
facet_there ps ts complex there f facet lies =
    let one : pos 0 <ℤ pos 1 = omega (arith, ints) in
    let on = lies (as_rational (point ps f.a)) one (corner_in ps (face_numbers f) f.a here) in
    go on.0 on.1 on.2 on.3 on.4.0
  where
    go : (k : ℕ) (t : FacetTriangle) → k < length ts → slice_index_or ts k t ≡ t → t.facet ≡ facet → facet < length complex.facets
    go k t lt is same = subst (λ (n : ℕ). n < length complex.facets) same (subst (λ (u : FacetTriangle). u.facet < length complex.facets) is (there k t lt))

-- what is asked for is listed
pub listed_if_asked : (ps : List Point) (ts : List FacetTriangle) (complex : Complex) (rows : List Tet) (all : Bool) (faces : List FaceRow) → AreFacetsThere ts complex → AreFaceRowsOf ps rows complex ts all faces
    → (f : Face) → Contains (faces_of_rows rows) f → IsAsked (λ facet. LiesIn ps ts facet f) all (is_on_hull rows f) → IsListed faces f
listed_if_asked ps ts complex rows all faces there are f of_rows asked =
    elim (contains_or_not (map face_listed faces) f) [
      | inl c ↦ c
      | inr n ↦ absurd (n (plain (never n)))
    ]
  where
    row : ℤ → FaceRow
    row marker = record { a = f.a; b = f.b; c = f.c; marker = marker }

    found : (marker : ℤ) → IsFaceMarker (λ facet. LiesIn ps ts facet f) complex.facets (is_on_hull rows f) marker → IsAsked (λ facet. LiesIn ps ts facet f) all (is_on_hull rows f) → IsListed faces f
    found marker is wanted =
        let c = (are.exactly (row marker)).1 (f, of_rows, record { corners_are = refl; marker_is = is; asked = wanted }) in
        subst (IsListed faces) (of_rows_itself rows f of_rows) (contains_of (map face_listed faces) _ (in_map face_listed (row marker) faces (member_of faces (row marker) c)))

    -- with the marker of the first facet
    first : (facet : ℕ) → LiesIn ps ts facet f → ((g : ℕ) → g < facet → ¬ LiesIn ps ts g f) → IsListed faces f
    first facet at before =
        let none : Facet = record { first = 0; past = 0; holes = []; marker = None } in
        let lt = facet_there ps ts complex there f facet at in
        found (marker_or_1 (slice_index_or complex.facets facet none).marker)
        (inl (facet, (at, before), λ d. ap (λ (g : Facet). marker_or_1 g.marker) (get_or_default complex.facets facet none d lt))) (inr (inr (facet, at)))

    below : ¬ IsListed faces f → (n g : ℕ) → g < n → ¬ LiesIn ps ts g f
    below out zero g lt at = omega arith
    below out (suc n) g lt at =
        elim (cases_eq g n) [
          | inl e ↦ out (first n (subst (λ (k : ℕ). LiesIn ps ts k f) e at) (below out n))
          | inr ne ↦ below out n g (less g n lt ne) at
        ]
      where
        less : (g n : ℕ) → g < suc n → (g ≡ n → ⊥) → g < n
        less g n lt ne = grind arith

    never : ¬ IsListed faces f → (facet : ℕ) → ¬ LiesIn ps ts facet f
    never out facet = below out (suc facet) facet (omega arith)

    -- with the marker of no facet
    plain : ((facet : ℕ) → ¬ LiesIn ps ts facet f) → IsListed faces f
    plain none = found (if is_on_hull rows f then pos 1 else pos 0) (inr (λ at. none at.0 at.1, refl)) asked
