use Rattle.std.proofs.Common.{◌∙◌}
use Rattle.exact_algebra.proofs.Size.{read}
use Rattle.sign_predicates.specs.Orientation.{dot, cross}
use Rattle.sign_predicates.specs.Turns.{turn}
use mir.Syntax.{w128}
use Rattle.sign_predicates.proofs.meeting.turn.Goals as goal

pub returns : goal.returns
unfolding turn
returns c =
    read w128 c.dot_normals.result c.dot_normals.type_inv ∙ c.dot_normals.ensures
    ∙ (λ t. dot c.args.n ((c.cross.ensures ∙ (λ u. cross (c.from_to.ensures u) (c.from_to-2.ensures u))) t))
