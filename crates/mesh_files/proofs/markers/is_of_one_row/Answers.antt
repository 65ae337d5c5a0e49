use Rattle.std.proofs.Common.{◌+◌, sym, arith}
use Rattle.std.proofs.lemmas.Bool.{eq-eqb}
use Rattle.incidence.specs.HalfFaces.{used}
use Rattle.incidence.proofs.Halves.{used_length, next_follows, next_starts, follows_unmarked}
use Rattle.mesh_files.proofs.Found.{is_of_one, is_of_two, one_or_more}
use Rattle.mesh_files.proofs.markers.is_of_one_row.Goals as goal

pub returns-then-at-count : goal.returns-then-at-count
returns-then-at-count c d =
    let rows = c.args.list.now in
    let halves = c.args.uses.now in
    let uses = used rows halves in
    let at = c.args.at in
    let next = c.at.result in
    let long = used_length rows halves in
    one_or_more next.first _
    (λ t. is_of_one rows uses at d c.requires.uses.uses c.requires.run (omega (arith, long)) (λ h. next_starts rows halves at next c.requires.uses (omega arith) c.at.ensures t d))
    (λ f. is_of_two rows uses at d c.requires.uses.uses (omega (arith, long)) (next_follows uses at (follows_unmarked rows halves (at + 1) next c.requires.uses (omega arith) c.at.ensures f) d))

pub returns : goal.returns
returns c d =
    let long = used_length c.args.list.now c.args.uses.now in
    sym (eq-eqb _ 1 (is_of_one c.args.list.now (used c.args.list.now c.args.uses.now) c.args.at d c.requires.uses.uses c.requires.run (omega (arith, long)) (λ h. absurd (omega (arith, long)))))
