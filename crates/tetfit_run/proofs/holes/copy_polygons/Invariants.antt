use Rattle.std.proofs.Common.{◌≡◌, length}
use Rattle.std.specs.Prelude.{map}
use Rattle.plc_files.specs.Appending.{plus_polygons}
use Rattle.plc_files.specs.Folding.{polygons_between}
use Rattle.tetfit_run.proofs.holes.copy_polygons.Given as goal

abbrev pub invariant-loop-i : goal.invariant-loop-i
invariant-loop-i l = record {
  made : plus_polygons (map (λ p. p) (polygons_between l.i l.facet.past l.complex.polygons)) l.made ≡ plus_polygons (map (λ p. p) (polygons_between l.facet.first l.facet.past l.complex.polygons)) l.fn.made;
  count : length l.made.polygons ≡ l.i;
  facets : length l.made.facets ≡ length l.fn.made.facets;
}
