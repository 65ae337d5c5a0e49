use Rattle.std.proofs.Common.{◌+◌, ◌*◌, ◌^◌}
use Rattle.tet_shapes.specs.Volume.{IsMixed}
use Rattle.tet_shapes.proofs.volume.raised.Given as goal

-- the product of the steps made
abbrev pub invariant-loop : goal.invariant-loop
invariant-loop l = IsMixed l.under ((l.fn.m.whole * l.under + l.fn.m.rest) * l.base ^ l.counter) l.product
