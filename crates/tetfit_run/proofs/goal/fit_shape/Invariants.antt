use Rattle.std.proofs.Common.{◌≡◌, None, drop}
use Rattle.std.specs.Prelude.{IfSome}
use Rattle.refining.specs.Goals.{IsFineShape}
use Rattle.tetfit_run.specs.Words.{last_shape}
use Rattle.tetfit_run.proofs.goal.fit_shape.Given as goal

-- the words that are left have the last shape of all
abbrev pub invariant-loop-word : goal.invariant-loop-word
invariant-loop-word l =
    record { value : last_shape l.last (drop l.word-index l.word-items) ≡ last_shape None l.words; fine : IfSome l.last IsFineShape }
