use Rattle.std.proofs.Common.{◌≡◌, drop}
use Rattle.std.specs.Prelude.{find}
use Rattle.command_words.specs.Words.{is_name}
use Rattle.tetfit_run.proofs.check_words.name_of.Given as goal

-- no word that was passed is a name
abbrev pub invariant-loop-word : goal.invariant-loop-word
invariant-loop-word l = find is_name (drop l.word-index l.word-items) ≡ find is_name l.words
