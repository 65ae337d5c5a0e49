use Rattle.facet_plane.specs.Blocks.{HoldsBox, HoldsBetween}
use Rattle.facet_plane.proofs.blocks.extent_between.Given as goal

abbrev pub invariant-loop-i : goal.invariant-loop-i
invariant-loop-i l = HoldsBetween (HoldsBox l.boxes) l.first l.i l.extent
