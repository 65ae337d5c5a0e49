use Rattle.std.proofs.Common.{◌≡◌, ◌≤◌, None, drop}
use Rattle.std.specs.Prelude.{IfSome}
use Rattle.command_words.specs.Meaning.{budget_from}
use Rattle.command_words.proofs.budget.last_budget_of.Given as goal

-- the bytes that are left have the last number of all
abbrev pub invariant-loop-i : goal.invariant-loop-i
invariant-loop-i l = record {
  left : budget_from l.last (drop l.i l.switches) ≡ budget_from None l.switches;
  bound : IfSome l.last (λ n. n ≤ 100000);
}
