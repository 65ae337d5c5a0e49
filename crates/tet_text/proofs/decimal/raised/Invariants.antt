use Rattle.std.proofs.Common.{◌≡◌, ◌<◌, ◌*◌, ◌^◌}
use Rattle.tet_text.proofs.decimal.raised.Given as goal

abbrev pub invariant-loop : goal.invariant-loop
invariant-loop l = (l.product ≡ l.number * 10 ^ l.counter) × (l.product < 10 ^ 36)
