use Rattle.std.proofs.Common.{◌≡◌, ◌++◌, drop}
use Rattle.tetfit_run.specs.Words.{plain_words}
use Rattle.tetfit_run.proofs.request.plain_words.Given as goal

-- those kept, and those of the words that are left
abbrev pub invariant-loop-word : goal.invariant-loop-word
invariant-loop-word l = l.kept ++ plain_words (drop l.word-index l.word-items) ≡ plain_words l.words
