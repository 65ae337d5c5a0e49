use Rattle.std.proofs.Common.{◌≡◌, ◌++◌, ◌∷◌, [], List, subst, sym, ap, take, map, arith}
use Rattle.std.proofs.lemmas.List.{take_all}
use Rattle.geo_laws.specs.declared.faces.Face.{Face}
use Rattle.mesh_files.specs.declared.markers.FaceRow.{FaceRow}
use Rattle.mesh_check.specs.Corners.{face_listed}
use Rattle.mesh_check.specs.FaceSets.{HasExactly}
use Rattle.mesh_check.proofs.Faces.{HasMore, exactly_none, exactly_more}
use Rattle.mesh_check.proofs.Rows.{listed_more}
use Rattle.mesh_check.proofs.face_set.listed_faces.Goals as goal

pub loop-i-init : goal.loop-i-init
loop-i-init c = exactly_none c.in_ok-set.set c.in_ok-set.ensures.empty

pub loop-i-preserved : goal.loop-i-preserved
loop-i-preserved c =
    let fs = map face_listed (take c.loop-i.i c.args.faces.now) in
    let put = subst (λ (g : Face). HasMore c.loop-i.set c.put.new.set g) c.face_listed.ensures c.in_ok-put.ensures in
    subst (λ (gs : List Face). HasExactly c.put.new.set gs) (listed_more c.args.faces.now c.loop-i.i c.at.result (omega arith) c.at.ensures)
    (exactly_more c.loop-i.set c.put.new.set fs (face_listed c.at.result) c.loop-i.invariant put)

pub returns : goal.returns
returns c = subst (λ (fs : List FaceRow). HasExactly c.loop-i.set (map face_listed fs)) (take_all c.loop-i.i c.args.faces.now (omega arith)) c.loop-i.invariant
