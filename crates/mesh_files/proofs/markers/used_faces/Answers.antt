use Rattle.std.proofs.Common.{◌+◌, ◌<◌, length, sym, subst, ◌∙◌, arith}
use Rattle.std.specs.Prelude.{◌↔◌}
use Rattle.geo_laws.specs.declared.faces.Face.{Face}
use Rattle.incidence.specs.HalfFaces.{used}
use Rattle.incidence.proofs.Halves.{used_length}
use Rattle.mesh_files.specs.FaceRows.{IsFaceRowOf, corners_of}
use Rattle.mesh_files.specs.FacetFaces.{IsTriangleIn}
use Rattle.mesh_files.specs.declared.markers.FaceRow.{FaceRow}
use Rattle.mesh_files.proofs.FacetFaces.{facets_there}
use Rattle.mesh_files.proofs.Found.{AreFoundBefore, found_first, found_again, found_none, found_pushed}
use Rattle.mesh_files.proofs.Marked.{IsListedRow, IsTriangleOf, listed_row, row_items, rows_found}
use Rattle.mesh_files.proofs.markers.used_faces.Goals.{then-is_first+in-Some+in_ok-push, then-is_first+in_default, else-is_first}
use Rattle.mesh_files.proofs.markers.used_faces.Goals as goal

pub loop-at-init : goal.loop-at-init
loop-at-init c =
    subst (AreFoundBefore corners_of (IsListedRow c.args.mesh.now.triangles.now c.args.mesh.now.complex.now c.args.mesh.now.list.now c.args.all) (used c.args.mesh.now.list.now c.args.uses.now) 0) (sym c.in_ok-found.ensures)
    (found_first corners_of (IsListedRow c.args.mesh.now.triangles.now c.args.mesh.now.complex.now c.args.mesh.now.list.now c.args.all) (used c.args.mesh.now.list.now c.args.uses.now))

pub row_at-requires-clause-facets : goal.row_at-requires-clause-facets
row_at-requires-clause-facets c = facets_there c.args.mesh.now.triangles.now c.in_ok-facets.facets c.args.mesh.now.complex.now c.in_ok-facets.ensures c.requires.facets

pub loop-at-preserved : goal.loop-at-preserved
loop-at-preserved c =
    let triangles = c.args.mesh.now.triangles.now in
    let complex = c.args.mesh.now.complex.now in
    let rows = c.args.mesh.now.list.now in
    let all = c.args.all in
    let uses = used rows c.args.uses.now in
    let there : c.loop-at.at < length uses = omega (arith, used_length rows c.args.uses.now) in
    let at = c.loop-at.at in
    let found = c.loop-at.found in
    let is = IsListedRow triangles complex rows all in
    let listed : (f : Face) (r : FaceRow) → IsFaceRowOf (IsTriangleIn c.in_ok-facets.facets) complex.facets rows all f r ↔ is f r = listed_row triangles c.in_ok-facets.facets c.in_ok-facets.ensures complex rows all in
    elim c.if-is_first.branch [
      | then-is_first+in-Some+in_ok-push w ↦
          subst (AreFoundBefore corners_of is uses (at + 1)) (sym (w.found-is ∙ w.in_ok-push.ensures.ok))
          (found_pushed corners_of is (row_items (IsTriangleOf triangles) complex.facets rows all) uses at found w.in-Some.row c.requires.uses.uses.ascending there (c.is_first.ensures.first w.if-is_first.true)
          (λ d. (listed _ w.in-Some.row).0 (w.in-Some.ensures.row d)) c.loop-at.invariant)
      | then-is_first+in_default w ↦
          subst (AreFoundBefore corners_of is uses (at + 1)) (sym w.found-is) (found_none corners_of is uses at found (λ d r k. w.in_default.ensures.row d r ((listed _ r).1 k)) c.loop-at.invariant)
      | else-is_first w ↦
          subst (AreFoundBefore corners_of is uses (at + 1)) (sym w.found-is) (found_again corners_of is uses at found (c.is_first.ensures.later w.if-is_first.false) c.loop-at.invariant)
    ]

pub returns : goal.returns
returns c =
    rows_found c.args.mesh.now.points.now c.args.mesh.now.triangles.now c.args.mesh.now.list.now c.args.mesh.now.complex.now c.args.all (used c.args.mesh.now.list.now c.args.uses.now) c.loop-at.at c.loop-at.found c.requires.met c.requires.uses.uses (omega (arith, used_length c.args.mesh.now.list.now c.args.uses.now)) c.loop-at.invariant
