use Rattle.std.proofs.Common.{All, take}
use Rattle.array_meshes.specs.Complexes.{IsFacetThere}
use Rattle.array_meshes.proofs.complexes.has_parts.Given as goal

abbrev pub invariant-loop-facet : goal.invariant-loop-facet
invariant-loop-facet l = All (IsFacetThere l.complex) (take l.facet-index l.complex.facets.now)
