use Rattle.std.proofs.Common.{◌≡◌, ◌≤◌, ℕ}
use Rattle.geo_laws.specs.declared.complex.Piece.{Piece}
use Rattle.tetfit_run.specs.Hints.{IsHalvedAfter, IsHalvedPartOf}
use Rattle.tetfit_run.proofs.wholes.whole_of.Given as goal

-- what this subsegment is a part of, the first one is too; and it is missing where no more points are added
abbrev pub invariant-loop-left : goal.invariant-loop-left
invariant-loop-left l = record {
  part : (w : Piece) → IsHalvedPartOf l.trial.limits l.trial.options l.trial.input l.count l.whole.halvings l.whole w
      → IsHalvedPartOf l.trial.limits l.trial.options l.trial.input l.count l.fn.piece.halvings l.fn.piece w;
  missing : (n : ℕ) × (n ≤ 100000) × IsHalvedAfter l.trial.limits l.trial.options l.trial.input n l.whole;
  left : l.left ≡ l.whole.halvings;
}

abbrev pub decreases-loop-left : goal.decreases-loop-left
decreases-loop-left l = l.left
