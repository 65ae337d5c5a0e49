-- The Delaunay list before and after its crossed rows are replaced.
use Rattle.std.proofs.Common.{◌≡◌, ℕ, ◌<◌, List, length, sym, subst, arith}
use Rattle.std.specs.Prelude.{All, Contains}
use Rattle.std.specs.List.{slice_index_or}
use Rattle.sign_predicates.specs.Point.{Point}
use Rattle.geo_laws.specs.Delaunay.{delaunay_rows, IsDelaunayList, AreCoplanar}
use Rattle.geo_laws.specs.declared.tetrahedra.Tet.{Tet}
use Rattle.geo_laws.specs.declared.complex.FacetTriangle.{FacetTriangle}
use Rattle.geo_laws.proofs.DelaunayList.{law_delaunay_list}
use Rattle.geo_laws.specs.Faces.{row_faces, face_of}
use Rattle.geo_laws.proofs.Members.{contains_of, member_of, flat_map_cases}
use Rattle.refill_laws.specs.Protected.{IsProtected}
use Rattle.tangle_laws.specs.Growth.{IsGrownList, sorted_triangle}
use Rattle.constrained_laws.specs.Constrained.{IsConstrainedList}
use Rattle.path_laws.specs.Places.{IsKept}
use Rattle.path_laws.specs.KeptMesh.{IsWholeMesh}
use Rattle.facet_recover.specs.Refilled.{AreUntangled, IsRefilledBySides}
use Rattle.box_tree.proofs.Lists.{any_of}
use Rattle.facet_recover.proofs.Tangles.{ascending_face}
use Rattle.complex_laws.proofs.SomeRow.{law_some_row}
use Rattle.complex_mesh.specs.Steps.{IsRecovered}

pub list_is : (qs : List Point) (rows : List Tet) → rows ≡ delaunay_rows qs → IsDelaunayList qs rows
list_is qs rows e = subst (IsDelaunayList qs) (sym e) (law_delaunay_list qs)

-- points that are not all in one plane have a Delaunay row
pub some_rows : (qs : List Point) (rows : List Tet) → rows ≡ delaunay_rows qs → ¬ AreCoplanar qs → 0 < length rows
some_rows qs rows e solid = let s = law_some_row qs solid in let c = ((list_is qs rows e).exactly s.0).1 s.1 in above c.0 (length rows) c.1
  where
    above : (k n : ℕ) → k < n → 0 < n
    above k n h = omega arith

-- a list filled again fills the hull and keeps the facets
pub whole_of : (qs : List Point) (ts : List FacetTriangle) (rows whole : List Tet) → IsProtected qs ts rows → IsGrownList qs ts rows whole → IsWholeMesh qs ts whole
whole_of qs ts rows whole complex r = record {
  filling = record {
    is_on = λ k d l. (r.positive k d l).0;
    positive = λ k d l. (r.positive k d l).1;
    covers = r.triangulation.covers;
    properly_met = r.triangulation.properly_met;
    facets_kept = facets_kept;
  };
  arranged = λ k d l. (r.positive k d l).2;
  locally_delaunay = r.locally_delaunay;
}
  where
    facets_kept : All (IsKept whole) ts
    facets_kept k d l =
        let t = slice_index_or ts k d in
        let u = flat_map_cases row_faces (sorted_triangle t) whole (member_of _ (sorted_triangle t) (r.facets k d l)) in
        any_of (λ q. Contains (row_faces q) (face_of t.a t.b t.c)) whole u.0 (contains_of whole u.0 u.1)
        (subst (Contains (row_faces u.0)) (sym (ascending_face t.a t.b t.c (complex.triangles k d l).first (complex.triangles k d l).second)) (contains_of (row_faces u.0) (sorted_triangle t) u.2))

pub recovered_is : (qs : List Point) (ts : List FacetTriangle) (rows whole : List Tet) → rows ≡ delaunay_rows qs → IsProtected qs ts rows → IsConstrainedList qs ts rows whole
    → (AreUntangled qs ts rows → IsRefilledBySides qs ts rows whole) → IsRecovered qs ts whole
recovered_is qs ts rows whole e complex refilled by_sides = record {
  refilled = subst (λ us. IsGrownList qs ts us whole) e refilled.grown;
  admissible = refilled.admissible;
  by_sides = λ untangled. (subst (λ us. AreUntangled qs ts us → IsRefilledBySides qs ts us whole) e by_sides untangled).refill;
  whole_mesh = whole_of qs ts rows whole complex refilled.grown;
}
