use Rattle.std.proofs.Common.{◌≡◌, ◌+◌, drop}
use Rattle.tetfit_run.specs.Words.{first_elsewhere}
use Rattle.tetfit_run.proofs.request.first_elsewhere.Given as goal

-- the words that are left have the first of all
abbrev pub invariant-loop-i : goal.invariant-loop-i
invariant-loop-i l = first_elsewhere (l.i + 1) (drop l.i l.words) ≡ first_elsewhere 1 l.words
