use Rattle.std.specs.Prelude.{take}
use Rattle.merged_facets.specs.MergedComplex.{HasParts, with_holes}
use Rattle.merged_facets.proofs.complex.add_holes.Given as goal

-- the hole points so far
abbrev pub invariant-loop-i : goal.invariant-loop-i
invariant-loop-i l = HasParts l.complex.polygons l.initial.made (with_holes (take l.i l.facet.holes)) l.made
