use Rattle.std.proofs.Common.{◌<◌, ◌≤◌, ℕ}
use Rattle.tetfit_run.specs.Measured.{IsTried, first_tried}
use Rattle.tetfit_run.specs.Trying.{IsRefusedByGrid}
use Rattle.tetfit_run.proofs.fitting.fit_input.Given as goal

-- each greater number of decimals is refused
abbrev pub invariant-loop-outputs : goal.invariant-loop-outputs
invariant-loop-outputs l = record {
  within : IsTried l.options l.input l.decimals;
  finer : (n : ℕ) → l.decimals < n → n ≤ first_tried l.options l.input → IsRefusedByGrid l.fn.limits l.options l.input n;
}

abbrev pub decreases-loop-outputs : goal.decreases-loop-outputs
decreases-loop-outputs l = l.decimals
