use Rattle.std.proofs.Common.{◌≡◌, ◌+◌, false, drop}
use Rattle.command_words.specs.Grammar.{switches_fault}
use Rattle.command_words.proofs.first_fault.switches_fault.Given as goal

-- the bytes that are left have the first fault of all
abbrev pub invariant-loop-i : goal.invariant-loop-i
invariant-loop-i l = switches_fault l.numbered (l.i + 2) (drop l.i l.switches) ≡ switches_fault false 2 l.switches
