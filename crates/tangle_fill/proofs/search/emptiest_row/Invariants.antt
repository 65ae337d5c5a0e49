use Rattle.std.specs.Prelude.{IfSome}
use Rattle.tangle_fill.specs.Fill.{IsRowOfFace}
use Rattle.tangle_fill.proofs.search.emptiest_row.Given as goal

abbrev pub invariant-loop-j : goal.invariant-loop-j
invariant-loop-j l = IfSome l.trial.best (IsRowOfFace l.complex.points.now l.f)
