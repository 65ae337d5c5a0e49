use Rattle.std.proofs.Common.{length, ap, arith}
use Rattle.mesh_files.proofs.FacetFaces.{faces_are, facet_face_before}
use Rattle.mesh_files.proofs.facet_faces.facet_faces.Goals as goal

pub returns : goal.returns
returns c = record {
  exactly = λ face facet.
      let kept = c.keep_distinct.ensures.exactly (record { face = face; facet = facet }) in
      let all = faces_are c.args.triangles.now c.loop-triangle.faces c.loop-triangle.triangle-index c.loop-triangle.invariant (omega (arith, c.loop-triangle-test.false, ap length c.as_slice-triangle-items.ensures)) face facet in
      (λ h. all.0 (kept.0 h), λ h. kept.1 (all.1 h));
  ascending = λ i j d h k. facet_face_before _ _ (c.keep_distinct.ensures.ascending i j d h k);
}
