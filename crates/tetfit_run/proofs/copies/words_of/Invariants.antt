use Rattle.std.proofs.Common.{◌≡◌, take}
use Rattle.tetfit_run.proofs.copies.words_of.Given as goal

abbrev pub invariant-loop-word : goal.invariant-loop-word
invariant-loop-word l = l.made ≡ take l.word-index l.word-items
