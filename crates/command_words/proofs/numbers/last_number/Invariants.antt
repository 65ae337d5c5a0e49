use Rattle.std.proofs.Common.{◌≡◌, ◌≤◌, drop}
use Rattle.std.specs.Prelude.{IfSome}
use Rattle.command_words.specs.Words.{last_number, last_from, number_in}
use Rattle.command_words.proofs.numbers.last_number.Given as goal

-- the words that are left have the last number of all
abbrev pub invariant-loop-word : goal.invariant-loop-word
invariant-loop-word l = record {
  left : last_from (number_in l.front l.most) l.last (drop l.word-index l.word-items) ≡ last_number l.front l.most l.words;
  bound : IfSome l.last (λ n. n ≤ l.most);
}
