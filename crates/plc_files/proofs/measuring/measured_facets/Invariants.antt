use Rattle.std.proofs.Common.{◌≡◌, ◌++◌, map}
use Rattle.plc_files.specs.Measuring.{measured_facet}
use Rattle.plc_files.proofs.measuring.measured_facets.Given as goal

abbrev pub invariant-loop-facet : goal.invariant-loop-facet
invariant-loop-facet l =
    l.made.items ++ map (measured_facet l.fn.w l.fn.decimals) l.facet-iterator.rest.items ≡ map (measured_facet l.fn.w l.fn.decimals) l.fn.facets.items
