use Rattle.std.proofs.Common.{◌<◌, length, ◌+◌, sym, subst, ◌∙◌, arith}
use Rattle.incidence.specs.HalfFaces.{used}
use Rattle.incidence.proofs.Halves.{used_length}
use Rattle.mesh_files.proofs.Found.{AreFacesBefore, faces_first, faces_again, faces_pushed, faces_last}
use Rattle.mesh_files.proofs.faces.first_faces.Goals.{then-is_first+in_ok-push, else-is_first}
use Rattle.mesh_files.proofs.faces.first_faces.Goals as goal

pub loop-at-init : goal.loop-at-init
loop-at-init c = subst (AreFacesBefore (used c.args.list.now c.args.uses.now) 0) (sym c.in_ok-faces.ensures) (faces_first (used c.args.list.now c.args.uses.now))

pub loop-at-preserved : goal.loop-at-preserved
loop-at-preserved c =
    let rows = c.args.list.now in
    let uses = used rows c.args.uses.now in
    let there : c.loop-at.at < length uses = omega (arith, used_length rows c.args.uses.now) in
    let at = c.loop-at.at in
    let faces = c.loop-at.faces in
    elim c.if-is_first.branch [
      | then-is_first+in_ok-push w ↦
          subst (AreFacesBefore uses (at + 1)) (sym (w.faces-is ∙ w.in_ok-push.ensures.ok))
          (faces_pushed uses at faces w.use_at.result c.requires.uses.ascending there (c.is_first.ensures.first w.if-is_first.true) w.use_at.ensures.same c.loop-at.invariant)
      | else-is_first w ↦
          subst (AreFacesBefore uses (at + 1)) (sym w.faces-is) (faces_again uses at faces (c.is_first.ensures.later w.if-is_first.false) c.loop-at.invariant)
    ]

pub returns : goal.returns
returns c = faces_last c.args.list.now (used c.args.list.now c.args.uses.now) c.loop-at.at c.loop-at.faces c.requires.uses (omega (arith, used_length c.args.list.now c.args.uses.now)) c.loop-at.invariant
