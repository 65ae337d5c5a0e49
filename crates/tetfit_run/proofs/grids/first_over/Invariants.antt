use Rattle.std.proofs.Common.{◌≡◌, drop}
use Rattle.std.specs.Prelude.{find}
use Rattle.tetfit_run.specs.Hints.{is_off_at}
use Rattle.tetfit_run.proofs.grids.first_over.Given as goal

abbrev pub invariant-loop-p : goal.invariant-loop-p
invariant-loop-p l =
    find (is_off_at l.wide l.finest l.origin l.decimals) (drop l.p-index l.points) ≡ find (is_off_at l.wide l.finest l.origin l.decimals) l.points
