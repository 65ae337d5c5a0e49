use Rattle.std.proofs.Common.{◌≡◌, ◌*◌, ◌^◌}
use Rattle.node_files.proofs.grid.raised.Given as goal

abbrev pub invariant-loop : goal.invariant-loop
invariant-loop l = l.product ≡ l.number * l.base ^ l.counter
