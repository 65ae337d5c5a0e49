use Rattle.std.proofs.Common.{◌≡◌, ◌≤◌, None, drop}
use Rattle.std.specs.Prelude.{IfSome}
use Rattle.tet_text.specs.Decimals.{Scaled}
use Rattle.tetfit_run.specs.Words.{last_volume}
use Rattle.tetfit_run.proofs.goal.fit_volume.Given as goal

-- the words that are left have the last volume of all
abbrev pub invariant-loop-word : goal.invariant-loop-word
invariant-loop-word l =
    record { value : last_volume l.last (drop l.word-index l.word-items) ≡ last_volume None l.words; fine : IfSome l.last (λ (v : Scaled). v.scale ≤ 36) }
