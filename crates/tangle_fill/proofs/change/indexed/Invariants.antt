use Rattle.std.specs.Prelude.{◌≡◌, take}
use Rattle.tangle_fill.specs.Indexed.{IsIndexed}
use Rattle.tangle_fill.proofs.change.indexed.Given as goal

abbrev pub invariant-loop-i : goal.invariant-loop-i
invariant-loop-i l = (l.growth.rows ≡ take l.i l.rows) × IsIndexed l.growth
