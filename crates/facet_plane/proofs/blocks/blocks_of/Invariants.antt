use Rattle.std.proofs.Common.{length}
use Rattle.facet_plane.specs.Blocks.{HoldsBox, AreBlocksTo}
use Rattle.facet_plane.proofs.blocks.blocks_of.Given as goal

abbrev pub invariant-loop-i : goal.invariant-loop-i
invariant-loop-i l = AreBlocksTo (HoldsBox l.boxes) (length l.boxes) l.i l.blocks
