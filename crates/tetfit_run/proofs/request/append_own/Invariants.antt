use Rattle.std.proofs.Common.{◌≡◌, ◌++◌, drop}
use Rattle.std.specs.Prelude.{filter}
use Rattle.tetfit_run.specs.Words.{is_own}
use Rattle.tetfit_run.proofs.request.append_own.Given as goal

-- those kept, and those of the words that are left
abbrev pub invariant-loop-word : goal.invariant-loop-word
invariant-loop-word l = l.kept ++ filter is_own (drop l.word-index l.word-items) ≡ l.fn.kept ++ filter is_own l.words
