use Rattle.refining.specs.Refining.{IsTakenMesh}
use Rattle.refining.specs.Rounds.{AreShown}
use Rattle.refining.proofs.refining.taken_last.Given as goal

abbrev pub invariant-loop-rounds : goal.invariant-loop-rounds
invariant-loop-rounds g l = record {
  taken : IsTakenMesh l.task.options.now l.task.bound.now l.taken;
  shown : AreShown g.W.Watch.shown l.task.bounds.now.shapes.now l.task.options.now l.task.bound.now l.fn.watch l.watch;
}
