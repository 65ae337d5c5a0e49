use Rattle.std.specs.Prelude.{All}
use Rattle.geo_laws.specs.Delaunay.{IsArranged}
use Rattle.tangle_fill.proofs.Changes.{IsNearBelow}
use Rattle.tangle_fill.proofs.change.near_of.Given as goal

abbrev pub invariant-loop-i : goal.invariant-loop-i
invariant-loop-i l = IsNearBelow l.marks l.rows l.near l.i × All IsArranged l.near.rows
