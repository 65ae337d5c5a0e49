use Rattle.refining.proofs.Rounds.{taken_on}
use Rattle.refining.proofs.refining.show.Goals as goal

pub round_of-round-requires-clause-on : goal.round_of-round-requires-clause-on
round_of-round-requires-clause-on g c = taken_on c.args.task.options.now c.args.task.bound.now c.args.taken.now c.requires.taken
