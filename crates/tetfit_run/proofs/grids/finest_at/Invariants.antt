use Rattle.std.proofs.Common.{◌≡◌, drop}
use Rattle.std.specs.Prelude.{max}
use Rattle.tetfit_run.specs.Hints.{finest_at}
use Rattle.tetfit_run.proofs.grids.finest_at.Given as goal

abbrev pub invariant-loop-p : goal.invariant-loop-p
invariant-loop-p l = max l.most (finest_at l.origin l.decimals (drop l.p-index l.points)) ≡ finest_at l.origin l.decimals l.points
