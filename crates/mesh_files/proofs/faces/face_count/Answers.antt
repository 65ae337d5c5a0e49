use Rattle.std.proofs.Common.{◌<◌, length, ◌++◌, ◌∷◌, [], refl, ◌∙◌, arith}
use Rattle.std.specs.Prelude.{slice_index_or}
use Rattle.std.proofs.lemmas.List.{length-append, get_or_default}
use Rattle.incidence.specs.declared.uses.Use.{Use}
use Rattle.incidence.specs.HalfFaces.{used}
use Rattle.incidence.proofs.Halves.{used_length}
use Rattle.mesh_files.proofs.Found.{no_use, faces_first, faces_again, faces_pushed, faces_last}
use Rattle.mesh_files.proofs.faces.face_count.Goals.{then-is_first, else-is_first}
use Rattle.mesh_files.proofs.faces.face_count.Goals as goal

pub loop-at-init : goal.loop-at-init
loop-at-init c = record { within = omega arith; counted = ([], faces_first (used c.args.list.now c.args.uses.now), refl) }

pub loop-at-preserved : goal.loop-at-preserved
loop-at-preserved c =
    let rows = c.args.list.now in
    let uses = used rows c.args.uses.now in
    let there : c.loop-at.at < length uses = omega (arith, used_length rows c.args.uses.now) in
    let at = c.loop-at.at in
    let o = c.loop-at.invariant.counted in
    let u : Use = slice_index_or uses at no_use in
    elim c.if-is_first.branch [
      | then-is_first w ↦ record {
        within = omega (arith, w.count-is, c.loop-at.invariant.within);
        counted = (
          o.0 ++ u.face ∷ [],
          faces_pushed uses at o.0 u c.requires.uses.ascending there (c.is_first.ensures.first w.if-is_first.true) (λ d. get_or_default uses at d no_use there) o.1,
          omega (arith, w.count-is, o.2, length-append o.0 (u.face ∷ [])),
        );
      }
      | else-is_first w ↦ record {
        within = omega (arith, w.count-is, c.loop-at.invariant.within);
        counted = (o.0, faces_again uses at o.0 (c.is_first.ensures.later w.if-is_first.false) o.1, w.count-is ∙ o.2);
      }
    ]

pub returns : goal.returns
returns c =
    let o = c.loop-at.invariant.counted in
    (o.0, faces_last c.args.list.now (used c.args.list.now c.args.uses.now) c.loop-at.at o.0 c.requires.uses (omega (arith, used_length c.args.list.now c.args.uses.now)) o.1, o.2)
