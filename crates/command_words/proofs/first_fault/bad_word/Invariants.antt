use Rattle.std.proofs.Common.{◌≡◌, ◌+◌, false, drop}
use Rattle.command_words.specs.Grammar.{bad_word_from}
use Rattle.command_words.proofs.first_fault.bad_word.Given as goal

-- the words that are left have the first bad one of all
abbrev pub invariant-loop-i : goal.invariant-loop-i
invariant-loop-i l = bad_word_from l.halvings (l.i + 1) l.named (drop l.i l.words) ≡ bad_word_from l.halvings 1 false l.words
