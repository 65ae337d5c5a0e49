-- A grown list is a whole mesh, and the facet triangles' corners are not on one line, since they are faces of its tetrahedra.
use Rattle.std.proofs.Common.{◌≡◌, ◌⊎◌, inl, inr, ℕ, ◌<◌, ℤ, pos, neg_ℤ, ◌<ℤ◌, true, List, length, refl, sym, subst, arith}
use Rattle.std.specs.Prelude.{Contains}
use Rattle.std.specs.List.{slice_index_or}
use Rattle.std.proofs.lemmas.Int.{ints}
use Rattle.sign_predicates.specs.Point.{Point}
use Rattle.sign_predicates.specs.Orientation.{side, SpansPlane, IsPositive}
use Rattle.geo_laws.specs.Delaunay.{point, corners}
use Rattle.geo_laws.specs.Faces.{row_faces}
use Rattle.geo_laws.specs.OrientedFace.{triangle, reversed}
use Rattle.geo_laws.specs.declared.tetrahedra.Tet.{Tet}
use Rattle.geo_laws.specs.declared.complex.FacetTriangle.{FacetTriangle}
use Rattle.geo_laws.proofs.Determinants.{side-flat}
use Rattle.geo_laws.proofs.Members.{IsMember, member_of, contains_of, flat_map_cases}
use Rattle.crossing_laws.proofs.Faces.{straight}
use Rattle.crossing_laws.proofs.Identities.{side-turned}
use Rattle.tangle_laws.specs.Tangle.{facet_face, lies_on}
use Rattle.tangle_laws.specs.Growth.{sorted_triangle, IsGrownList}
use Rattle.tangle_laws.proofs.Sides.{side_of_face}
use Rattle.tangle_laws.proofs.Sorted.{IsRowFace, row_face, sorted_same}
use Rattle.tangle_laws.proofs.Steps.{over_face}
use Rattle.path_laws.specs.Places.{IsKept}
use Rattle.path_laws.specs.KeptMesh.{IsWholeMesh}
use Rattle.constrained_laws.specs.Constrained.{AreTriangles, GrownAdmissibleLaw}
use Rattle.constrained_laws.proofs.Whole.{law_whole_admissible}

-- a tetrahedron that has a facet triangle as a face
record HasTriangle (ps : List Point) (rows : List Tet) (k : FacetTriangle) : Type 0 where
  row : Tet
  member : IsMember row rows
  listed : Contains rows row
  positive : IsPositive (corners ps row)
  of_row : IsMember (sorted_triangle k) (row_faces row)
  face : IsRowFace row (sorted_triangle k)

has_triangle : (ps : List Point) (ts : List FacetTriangle) (old rows : List Tet) → IsGrownList ps ts old rows → (k : ℕ) (d : FacetTriangle) → k < length ts → HasTriangle ps rows (slice_index_or ts k d)
has_triangle ps ts old rows grown k d l = go (flat_map_cases row_faces (sorted_triangle f) rows (member_of _ (sorted_triangle f) (grown.facets k d l)))
  where
    f : FacetTriangle
    f = slice_index_or ts k d

    go : (u : Tet) × IsMember u rows × IsMember (sorted_triangle (slice_index_or ts k d)) (row_faces u) → HasTriangle ps rows (slice_index_or ts k d)
    go (u, m, of_u) = record { row = u; member = m; listed = c; positive = p; of_row = of_u; face = row_face ps u p (sorted_triangle f) of_u }
      where
        c : Contains rows u
        c = contains_of rows u m

        p : IsPositive (corners ps u)
        p = subst (λ t. IsPositive (corners ps t)) c.2 (grown.positive c.0 u c.1).1

above_not_flat : (a v : ℤ) → a ≡ v → pos 0 <ℤ v → a ≡ pos 0 → ⊥
above_not_flat a v e p z = omega (arith, ints)

turned_not_flat : (a b v : ℤ) → b ≡ neg_ℤ a → b ≡ v → pos 0 <ℤ v → a ≡ pos 0 → ⊥
turned_not_flat a b v d e p z = omega (arith, ints)

-- a face of a positive tetrahedron spans a plane
spans_face : (ps : List Point) (rows : List Tet) (k : FacetTriangle) → HasTriangle ps rows k → SpansPlane (triangle ps (facet_face k))
spans_face ps rows k h flat = go (side_of_face (facet_face k) h.row h.face.has)
  where
    zero : (i : ℕ) → side (triangle ps (facet_face k)) (point ps i) ≡ pos 0
    zero i = side-flat (triangle ps (facet_face k)) (point ps i) flat.0 flat.1 flat.2

    go : (lies_on (facet_face k) h.row ≡ true) ⊎ (lies_on (reversed (facet_face k)) h.row ≡ true) → ⊥
    go (inl e) = let o = over_face ps (facet_face k) h.row e in above_not_flat _ _ o.at_apex h.positive (zero o.apex)
    go (inr e) = let o = over_face ps (reversed (facet_face k)) h.row e in turned_not_flat _ _ _ (side-turned (triangle ps (facet_face k)) (point ps o.apex)) o.at_apex h.positive (zero o.apex)

pub are_triangles : (ps : List Point) (ts : List FacetTriangle) (old rows : List Tet) → IsGrownList ps ts old rows → AreTriangles ps ts
are_triangles ps ts old rows grown k d l = spans_face ps rows (slice_index_or ts k d) (has_triangle ps ts old rows grown k d l)

pub whole_of_grown : (ps : List Point) (ts : List FacetTriangle) (old rows : List Tet) → IsGrownList ps ts old rows → IsWholeMesh ps ts rows
whole_of_grown ps ts old rows grown = record {
  filling = record {
    is_on = λ k d l. (grown.positive k d l).0;
    positive = λ k d l. (grown.positive k d l).1;
    covers = grown.triangulation.covers;
    properly_met = grown.triangulation.properly_met;
    facets_kept = λ k d l. kept (slice_index_or ts k d) (has_triangle ps ts old rows grown k d l);
  };
  arranged = λ k d l. (grown.positive k d l).2;
  locally_delaunay = grown.locally_delaunay;
}
  where
    kept : (f : FacetTriangle) → HasTriangle ps rows f → IsKept rows f
    kept f h = (
      h.listed.0,
      h.row,
      h.listed.1,
      h.listed.2,
      subst (Contains (row_faces h.row)) (sym (sorted_same (sorted_triangle f) (facet_face f) h.face.a_b h.face.b_c (inl (straight refl refl refl)))) (contains_of (row_faces h.row) (sorted_triangle f) h.of_row),
    )

pub law_grown_admissible : GrownAdmissibleLaw
law_grown_admissible ps ts old rows grown each = law_whole_admissible ps ts rows (are_triangles ps ts old rows grown) (whole_of_grown ps ts old rows grown) each
