use Rattle.std.proofs.Common.{◌≡◌, ◌++◌, drop, map}
use Rattle.tetfit_run.specs.Words.{in_small}
use Rattle.tetfit_run.proofs.names.all_in_small.Given as goal

-- those made, and those of the words that are left
abbrev pub invariant-loop-word : goal.invariant-loop-word
invariant-loop-word l = l.made ++ map in_small (drop l.word-index l.word-items) ≡ map in_small l.words
