use Rattle.std.proofs.Common.{◌≡◌, drop, length}
use Rattle.plc_files.specs.Appending.{plus_facet_holes}
use Rattle.tetfit_run.proofs.holes.copy_facet_holes.Given as goal

abbrev pub invariant-loop-i : goal.invariant-loop-i
invariant-loop-i l = record {
  made : plus_facet_holes (drop l.i l.holes) l.made ≡ plus_facet_holes l.holes l.fn.made;
  facets : length l.made.facets ≡ length l.fn.made.facets;
}
