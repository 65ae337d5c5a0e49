use Rattle.std.proofs.Common.{◌≡◌, ◌+◌, false, drop}
use Rattle.tetfit_run.specs.Checks.{check_fault_from}
use Rattle.tetfit_run.proofs.check_words.check_fault.Given as goal

-- the words that are left have the first fault of all
abbrev pub invariant-loop-i : goal.invariant-loop-i
invariant-loop-i l = check_fault_from (l.i + 1) l.named (drop l.i l.words) ≡ check_fault_from 1 false l.words
