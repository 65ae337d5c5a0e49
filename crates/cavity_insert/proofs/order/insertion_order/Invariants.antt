use Rattle.std.proofs.Common.{◌≡◌}
use Rattle.geo_laws.specs.Delaunay.{numbers_below}
use Rattle.cavity_insert.specs.Order.{turn_numbers}
use Rattle.cavity_insert.proofs.order.insertion_order.Given as goal

abbrev pub invariant-loop-i : goal.invariant-loop-i
invariant-loop-i l = turn_numbers l.turns.items ≡ numbers_below l.i
