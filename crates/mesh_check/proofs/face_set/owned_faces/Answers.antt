use Rattle.std.proofs.Common.{◌≡◌, List, subst, sym, ap, take, arith}
use Rattle.std.proofs.lemmas.List.{take_all}
use Rattle.geo_laws.specs.Faces.{face_of, faces_of_rows}
use Rattle.geo_laws.specs.declared.faces.Face.{Face}
use Rattle.geo_laws.specs.declared.tetrahedra.Tet.{Tet}
use Rattle.mesh_check.specs.FaceSets.{HasExactly}
use Rattle.mesh_check.proofs.Faces.{HasMore, exactly_none, exactly_four}
use Rattle.mesh_check.proofs.Rows.{faces_more}
use Rattle.mesh_check.proofs.face_set.owned_faces.Goals as goal

pub loop-i-init : goal.loop-i-init
loop-i-init c = exactly_none c.in_ok-set.set c.in_ok-set.ensures.empty

pub loop-i-preserved : goal.loop-i-preserved
loop-i-preserved c =
    let t = c.at-a.result in
    let p1 = subst (λ (g : Face). HasMore c.loop-i.set c.put.new.set g) c.face_of.ensures c.in_ok-put.ensures in
    let p2 = subst (λ (g : Face). HasMore c.put.new.set c.put-in-loop-i.new.set g) c.face_of-in-loop-i.ensures c.in_ok-put-2.ensures in
    let p3 = subst (λ (g : Face). HasMore c.put-in-loop-i.new.set c.put-in-loop-i-2.new.set g) c.face_of-in-loop-i-2.ensures c.in_ok-put-3.ensures in
    let p4 = subst (λ (g : Face). HasMore c.put-in-loop-i-2.new.set c.put-in-loop-i-3.new.set g) c.face_of-in-loop-i-3.ensures c.in_ok-put-4.ensures in
    subst (λ (gs : List Face). HasExactly c.put-in-loop-i-3.new.set gs) (faces_more c.args.list.now c.loop-i.i t (omega arith) c.at-a.ensures)
    (exactly_four c.loop-i.set c.put.new.set c.put-in-loop-i.new.set c.put-in-loop-i-2.new.set c.put-in-loop-i-3.new.set (faces_of_rows (take c.loop-i.i c.args.list.now)) (face_of t.b t.c t.d) (face_of t.a t.c t.d) (face_of t.a t.b t.d) (face_of t.a t.b t.c)
    c.loop-i.invariant p1 p2 p3 p4)

pub returns : goal.returns
returns c = subst (λ (rows : List Tet). HasExactly c.loop-i.set (faces_of_rows rows)) (take_all c.loop-i.i c.args.list.now (omega arith)) c.loop-i.invariant
