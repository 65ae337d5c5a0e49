-- What is written of a mesh has no defect.
use Rattle.std.proofs.Common.{◌≡◌, inl, inr, ℕ, ◌<◌, length, refl, ap, sym, subst, ◌∙◌, arith}
use Rattle.std.specs.Prelude.{Contains, slice_index_or}
use Rattle.std.proofs.lemmas.List.{get_or_default}
use Rattle.geo_laws.specs.Faces.{row_faces, faces_of_rows}
use Rattle.geo_laws.specs.Facet.{LiesInSome}
use Rattle.geo_laws.specs.declared.tetrahedra.Tet.{Tet}
use Rattle.geo_laws.proofs.Members.{contains_of, member_of, in_flat_map}
use Rattle.mesh_files.specs.declared.markers.FaceRow.{FaceRow}
use Rattle.mesh_files.proofs.OnHull.{of_one_row}
use Rattle.mesh_check.specs.Corners.{face_in, face_listed}
use Rattle.run_laws.specs.SoundMesh.{AreDelaunayAcross}
use Rattle.run_laws.proofs.Listings.{face_of_corner}
use Rattle.run_laws.proofs.Soundness.{none_of}
use Rattle.run_laws.specs.WrittenMesh.{written_mesh, WrittenMeshLaw}
use Rattle.run_laws.proofs.FaceOrder.{itself, of_rows_itself}
use Rattle.run_laws.proofs.ListedFaces.{listed_if_asked}
use Rattle.run_laws.proofs.Further.{further_outside}

pub written : WrittenMeshLaw
written ps ts complex rows all faces mesh facets are = none_of (written_mesh ps rows faces) (record {
  apart = mesh.apart;
  neighbors = refl;
  of_rows = λ k d lt. owned k d lt;
  hull_listed = λ f one. let on = (of_one_row rows mesh.ascending f).0 one in listed_if_asked ps ts complex rows all faces facets are f on.0 (inr (inl on.1));
  locally_delaunay = λ i j d lt mt. λ p q shared out. across i j d lt mt p q shared out;
})
  where
    owned : (k : ℕ) (d : FaceRow) → k < length faces → Contains (faces_of_rows rows) (face_listed (slice_index_or faces k d))
    owned k d lt =
        let r = slice_index_or faces k d in
        let w = (are.exactly r).0 (k, lt, get_or_default faces k r d lt) in
        let is : w.0 ≡ face_listed r = sym (of_rows_itself rows w.0 w.1) ∙ ap itself (sym w.2.corners_are) in
        subst (Contains (faces_of_rows rows)) is w.1

    across : (i j : ℕ) (d : Tet) → i < j → j < length rows → AreDelaunayAcross ps faces (slice_index_or rows i d) (slice_index_or rows j d)
    across i j d lt mt p q shared out =
        let s = slice_index_or rows i d in
        let t = slice_index_or rows j d in
        let before : i < length rows = omega arith in
        let f = face_in s p in
        let of_s = face_of_corner s p shared.corner in
        let of_t : Contains (row_faces t) f = subst (Contains (row_faces t)) (sym shared.same) (face_of_corner t q shared.other) in
        let row : Contains rows s = (i, before, get_or_default rows i s d before) in
        let of_rows = contains_of (faces_of_rows rows) f (in_flat_map row_faces s f rows (member_of rows s row) (member_of (row_faces s) f of_s)) in
        let free : ¬ LiesInSome ps ts f = λ lies. out (listed_if_asked ps ts complex rows all faces facets are f of_rows (inr (inr lies))) in
        further_outside ps s t p q (mesh.apart.positive i d before) (mesh.apart.apart i j d lt mt) shared (mesh.locally_delaunay i j d lt mt f of_s of_t free).0
