use Rattle.std.proofs.Common.{◌≡◌, drop}
use Rattle.plc_files.specs.Appending.{plus_holes}
use Rattle.plc_files.proofs.folding.copy_holes.Given as goal

abbrev pub invariant-loop-i : goal.invariant-loop-i
invariant-loop-i l = plus_holes (drop l.i l.holes) l.made ≡ plus_holes l.holes l.fn.made
