use Rattle.std.proofs.Common.{◌≡◌, ◌≤◌, drop}
use Rattle.std.specs.Prelude.{IfSome}
use Rattle.command_words.specs.Words.{last_from}
use Rattle.command_words.specs.Meaning.{budget_in, last_budget}
use Rattle.command_words.proofs.budget.last_budget.Given as goal

-- the words that are left have the last number of all
abbrev pub invariant-loop-word : goal.invariant-loop-word
invariant-loop-word l = record {
  left : last_from budget_in l.last (drop l.word-index l.word-items) ≡ last_budget l.words;
  bound : IfSome l.last (λ n. n ≤ 100000);
}
