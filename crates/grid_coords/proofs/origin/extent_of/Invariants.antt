use Rattle.std.proofs.Common.{◌≡◌, drop}
use Rattle.grid_coords.specs.Origins.{low_corner, high_corner, IsSmallPoint}
use Rattle.grid_coords.proofs.origin.extent_of.Given as goal

abbrev pub invariant-loop-p : goal.invariant-loop-p
invariant-loop-p l = record {
  lows : low_corner l.low (drop l.p-index l.points) ≡ low_corner l.fn.first l.points;
  highs : high_corner l.high (drop l.p-index l.points) ≡ high_corner l.fn.first l.points;
  low_small : IsSmallPoint l.low;
  high_small : IsSmallPoint l.high;
}
