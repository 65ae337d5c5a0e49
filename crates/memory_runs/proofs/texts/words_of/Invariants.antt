use Rattle.std.proofs.Common.{◌≡◌, map, take}
use Rattle.memory_runs.specs.Texts.{bytes_of}
use Rattle.memory_runs.proofs.texts.words_of.Given as goal

abbrev pub invariant-loop-word : goal.invariant-loop-word
invariant-loop-word l = l.made ≡ map bytes_of (take l.word-index l.words)
