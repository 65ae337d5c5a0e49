use Rattle.std.proofs.Common.{◌≡◌, ◌*◌, ◌^◌}
use Rattle.grid_coords.proofs.units.raised.Given as goal

abbrev pub invariant-loop : goal.invariant-loop
invariant-loop l = l.product ≡ l.number * l.base ^ l.counter
