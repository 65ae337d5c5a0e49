use Rattle.std.proofs.Common.{◌≡◌, take}
use Rattle.std.specs.Prelude.{map, slice_index}
use Rattle.plc_files.proofs.folding.folded_corners.Given as goal

abbrev pub invariant-loop-corner : goal.invariant-loop-corner
invariant-loop-corner l = l.places ≡ map (slice_index l.folded) (take l.corner-index l.corners)
