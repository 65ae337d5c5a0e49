use Rattle.refining.proofs.Rounds.{refined_behind}
use Rattle.refining.proofs.refining.refined_by.Goals as goal

pub returns-clause-behind : goal.returns-clause-behind
returns-clause-behind c =
    refined_behind c.args.options.now c.args.bound c.args.last.taken c.in_ok-mesh.mesh c.args.last.rounds c.requires.taken c.in_ok-mesh.ensures.mesh
