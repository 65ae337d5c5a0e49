use Rattle.std.proofs.Common.{◌+◌, sym, subst, ◌∙◌}
use Rattle.cavity_insert.specs.Hull.{AreFacesBelow}
use Rattle.cavity_insert.proofs.HullFaces.{faces_none, faces_pass, faces_more}
use Rattle.cavity_insert.proofs.hull.ghost_faces.Goals.{in-Some+in_ok-push, in_default}
use Rattle.cavity_insert.proofs.hull.ghost_faces.Goals as goal

pub loop-i-init : goal.loop-i-init
loop-i-init c = subst (λ fs. AreFacesBelow c.args.arena.now.slots c.args.points.now fs 0) (sym c.new-faces.ensures) (faces_none c.args.arena.now.slots c.args.points.now)

pub loop-i-preserved : goal.loop-i-preserved
loop-i-preserved c =
    let slots = c.args.arena.now.slots in
    let ps = c.args.points.now in
    let n = c.loop-i.i in
    let faces = c.loop-i.faces in
    elim c.match-face_at.branch [
      | in-Some+in_ok-push w ↦ subst (λ fs. AreFacesBelow slots ps fs (n + 1)) (sym w.in_ok-push.ensures.ok ∙ sym w.faces-is) (faces_more slots ps faces n w.in-Some.face w.in-Some.ensures c.loop-i.invariant)
      | in_default w ↦ subst (λ fs. AreFacesBelow slots ps fs (n + 1)) (sym w.faces-is) (faces_pass slots ps faces n w.in_default.ensures c.loop-i.invariant)
    ]
