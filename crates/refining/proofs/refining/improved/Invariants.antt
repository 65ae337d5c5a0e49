use Rattle.refining.specs.Refining.{IsTakenMesh}
use Rattle.refining.specs.Rounds.{AreShown}
use Rattle.refining.proofs.refining.improved.Given as goal

abbrev pub invariant-loop : goal.invariant-loop
invariant-loop g l = record {
  best : IsTakenMesh l.task.options.now l.task.bound.now l.best;
  shown : AreShown g.W.Watch.shown l.task.bounds.now.shapes.now l.task.options.now l.task.bound.now l.fn.watch l.watch;
}
