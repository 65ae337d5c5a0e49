use Rattle.std.proofs.Common.{◌≡◌, drop, length}
use Rattle.plc_files.specs.Appending.{plus_regions}
use Rattle.tetfit_run.proofs.holes.copy_regions.Given as goal

abbrev pub invariant-loop-i : goal.invariant-loop-i
invariant-loop-i l = record {
  made : plus_regions (drop l.i l.complex.regions) l.made ≡ plus_regions l.complex.regions l.fn.made;
  count : length l.made.regions ≡ l.i;
}
