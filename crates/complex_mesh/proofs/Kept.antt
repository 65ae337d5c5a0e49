-- The kept rows of a complex are its mesh.
use Rattle.std.proofs.Common.{◌≡◌, ℕ, ◌<◌, true, false, List, [], length, ap, sym, subst, ◌∙◌, arith}
use Rattle.std.specs.Prelude.{All, Contains}
use Rattle.std.specs.List.{slice_index_or}
use Rattle.sign_predicates.specs.Point.{Point}
use Rattle.geo_laws.specs.Complex.{Complex}
use Rattle.geo_laws.specs.Delaunay.{delaunay_rows}
use Rattle.geo_laws.specs.Faces.{row_faces, faces_of_rows}
use Rattle.geo_laws.specs.Facet.{Facet, corner_numbers}
use Rattle.geo_laws.specs.declared.complex.Facet.{Facet as StoredFacet}
use Rattle.geo_laws.specs.Path.{FromOutside}
use Rattle.geo_laws.specs.Mesh.{IsMesh, ends}
use Rattle.geo_laws.specs.Simplex.{ProperlyMet}
use Rattle.geo_laws.specs.declared.tetrahedra.Tet.{Tet}
use Rattle.geo_laws.specs.declared.complex.Piece.{Piece}
use Rattle.geo_laws.specs.declared.complex.FacetTriangle.{FacetTriangle}
use Rattle.geo_laws.proofs.DelaunayList.{law_delaunay_list}
use Rattle.geo_laws.proofs.Members.{member_of, contains_of, at_place, flat_map_cases}
use Rattle.path_laws.specs.Flood.{carving_of}
use Rattle.simplex_meets.specs.Crossing.{AreTrianglesMet}
use Rattle.segment_protect.proofs.Splits.{each_member}
use Rattle.complex_laws.specs.ComplexMesh.{HasNoCrossing, IsCarved}
use Rattle.complex_laws.proofs.ComplexMesh.{law_uncrossed, law_all_kept}
use Rattle.complex_laws.proofs.NoFacets.{law_no_facets}
use Rattle.path_laws.proofs.KeptMesh.{law_kept_mesh}
use Rattle.complex_laws.proofs.MetFaces.{law_faces_met}
use Rattle.recovery_laws.specs.Recovery.{IsRecovery}
use Rattle.recovery_laws.proofs.Chain.{law_piece_of_rest}
use Rattle.mesh_files.specs.FaceRows.{AreTrianglesMetByFaces, AreFacetsThere}
use Rattle.facet_laws.specs.Faces.{Ascends}
use Rattle.complex_mesh.specs.Protection.{IsMeshable, IsProtectedComplex, first_triangles, complex_triangles}
use Rattle.complex_mesh.specs.Steps.{IsRecovered, IsKeptMesh}
use Rattle.complex_mesh.specs.Meshing.{IsComplexMesh}
use Rattle.complex_mesh.specs.declared.mesh.MeshOptions.{MeshOptions}
use Rattle.complex_mesh.specs.declared.mesh.ComplexMesh.{ComplexMesh}
use Rattle.complex_mesh.proofs.Covered.{covered_at}
use Rattle.complex_mesh.proofs.Triangles.{triangles_ascend}
use Rattle.complex_mesh.proofs.Protected.{recovery, meshed_count}

module _ (o : MeshOptions) (ps : List Point) (c : Complex) (m : ComplexMesh) (segs : List Piece) (fs : List Facet) (rest : List Piece) (whole : List Tet) (given : IsMeshable o.halvings o.budget ps c)
    (protected : IsProtectedComplex o ps c segs fs m.points rest) (triangles : m.triangles ≡ complex_triangles m.points fs) (met : AreTrianglesMet m.points m.triangles rest)
    (recovered : IsRecovered m.points m.triangles whole) (kept : IsKeptMesh o c whole m) where
  has : IsRecovery o.halvings o.budget ps segs fs m.points rest m.triangles
  has = recovery o ps c segs fs m.points rest given protected m.triangles triangles met

  count : length fs ≡ length c.facets
  count = meshed_count o.keep_facets ps c segs fs protected.meshed

  is_mesh : IsMesh (carving_of o.keep_hull) m.points m.triangles c.holes m.tetrahedra
  is_mesh = law_kept_mesh (carving_of o.keep_hull) m.points m.triangles whole c.holes m.tetrahedra recovered.whole_mesh kept.carved.weights kept.carved.kept kept.carved.ascending

  uncrossed : HasNoCrossing m.points m.triangles → IsCarved (carving_of o.keep_hull) m.points m.triangles c.holes (delaunay_rows m.points) m.tetrahedra
  uncrossed none =
      subst (λ rows. IsCarved (carving_of o.keep_hull) m.points m.triangles c.holes rows m.tetrahedra)
      ((law_uncrossed m.points m.triangles whole none).0 (recovered.by_sides (λ t l tangle. none t l tangle.0 tangle.3))) kept.carved

  none_crossed : HasNoCrossing m.points m.triangles → whole ≡ delaunay_rows m.points
  none_crossed none = (law_uncrossed m.points m.triangles whole none).0 (recovered.by_sides (λ t l tangle. none t l tangle.0 tangle.3))

  all_kept : o.keep_hull ≡ true → c.holes ≡ [] → m.tetrahedra ≡ whole
  all_kept hull none =
      (law_all_kept m.points m.triangles whole m.tetrahedra recovered.whole_mesh.filling recovered.refilled.ascending).0
      (subst (λ b. IsCarved (carving_of b) m.points m.triangles [] whole m.tetrahedra) hull
      (subst (λ hs. IsCarved (carving_of o.keep_hull) m.points m.triangles hs whole m.tetrahedra) none kept.carved))

  no_facets : o.keep_hull ≡ false → c.facets ≡ [] → m.tetrahedra ≡ []
  no_facets all none =
      law_no_facets m.points c.holes (delaunay_rows m.points) m.tetrahedra (law_delaunay_list m.points)
      (subst (λ ts. IsCarved FromOutside m.points ts c.holes (delaunay_rows m.points) m.tetrahedra) no_triangles
      (subst (λ b. IsCarved (carving_of b) m.points m.triangles c.holes (delaunay_rows m.points) m.tetrahedra) all (uncrossed (subst (HasNoCrossing m.points) (sym no_triangles) nothing))))
    where
      no_triangles : m.triangles ≡ []
      no_triangles = triangles ∙ ap (first_triangles m.points fs) (count ∙ ap (λ (gs : List StoredFacet). length gs) none)

      nothing : HasNoCrossing m.points []
      nothing t l facet h = let k = h.2.1 in absurd (by k.0 k.2)
        where
          by : (i : ℕ) → i < 0 → ⊥
          by i h = omega arith

  pieces_met : (p : Piece) → Contains rest p → All (λ t. ProperlyMet m.points (corner_numbers t) (ends p)) m.triangles
  pieces_met p l k d h =
      each_member (λ q. ProperlyMet m.points (corner_numbers (slice_index_or m.triangles k d)) (ends q)) rest (met.triangles_meet_pieces k d h) p (member_of rest p l)

  faces_met : AreTrianglesMetByFaces m.points m.triangles m.tetrahedra
  faces_met k d l = record {
    ascending = subst (All Ascends) (sym triangles) (triangles_ascend m.points fs) k d l;
    positive = λ i e n. (is_mesh.positive i e n).1;
    properly_met = λ face f.
        let r = flat_map_cases row_faces face m.tetrahedra (member_of (faces_of_rows m.tetrahedra) face f) in
        law_faces_met m.points m.triangles whole m.tetrahedra recovered.whole_mesh.filling kept.carved.kept.of_whole r.0 face (slice_index_or m.triangles k d)
        (contains_of m.tetrahedra r.0 r.1) (contains_of (row_faces r.0) face r.2) (contains_of m.triangles (slice_index_or m.triangles k d) (at_place m.triangles k d l));
  }

  facets_there : AreFacetsThere m.triangles c
  facets_there k d l =
      let t = slice_index_or m.triangles k d in
      subst (λ n. t.facet < n) count ((has.has_triangles.exactly t).0 (contains_of m.triangles t (at_place m.triangles k d l))).0

  pub complex_mesh : IsComplexMesh o ps c m
  complex_mesh = record {
    segs = segs;
    fs = fs;
    rest = rest;
    protected = protected;
    triangles = triangles;
    met = met;
    mesh = is_mesh;
    whole = whole;
    refilled = recovered.refilled;
    admissible = recovered.admissible;
    carved = kept.carved;
    facets_covered = covered_at o ps c m segs fs rest given protected triangles;
    by_sides = recovered.by_sides;
    uncrossed = none_crossed;
    all_kept = all_kept;
    no_facets = no_facets;
    pieces_kept = λ untangled p l.
        law_piece_of_rest o.halvings o.budget ps segs fs m.points rest m.triangles has untangled (carving_of o.keep_hull) c.holes whole m.tetrahedra
        (recovered.by_sides untangled) kept.carved p l (pieces_met p l);
    faces_met = faces_met;
    facets_there = facets_there;
    marked = kept.marked;
    marks = kept.marks;
  }

-- the same, where the mesh has these points and triangles
pub complex_mesh_of : (o : MeshOptions) (ps : List Point) (c : Complex) (m : ComplexMesh) (segs : List Piece) (fs : List Facet) (qs : List Point) (ts : List FacetTriangle) (rest : List Piece) (whole : List Tet) → IsMeshable o.halvings o.budget ps c
    → IsProtectedComplex o ps c segs fs qs rest → ts ≡ complex_triangles qs fs → AreTrianglesMet qs ts rest → IsRecovered qs ts whole → m.points ≡ qs → m.triangles ≡ ts → IsKeptMesh o c whole m → IsComplexMesh o ps c m
complex_mesh_of o ps c m segs fs qs ts rest whole given protected triangles met recovered points_are triangles_are kept =
    complex_mesh o ps c m segs fs rest whole given (subst (λ us. IsProtectedComplex o ps c segs fs us rest) (sym points_are) protected) (triangles_are ∙ triangles ∙ ap (λ us. complex_triangles us fs) (sym points_are))
    (subst (λ us. AreTrianglesMet us m.triangles rest) (sym points_are) (subst (λ us. AreTrianglesMet qs us rest) (sym triangles_are) met))
    (subst (λ us. IsRecovered us m.triangles whole) (sym points_are) (subst (λ us. IsRecovered qs us whole) (sym triangles_are) recovered)) kept
