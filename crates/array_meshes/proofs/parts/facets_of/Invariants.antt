use Rattle.std.proofs.Common.{◌≡◌, take}
use Rattle.std.specs.List.{fold}
use Rattle.geo_laws.specs.Complex.{empty_complex}
use Rattle.array_meshes.specs.Complexes.{with_drawn_facet}
use Rattle.array_meshes.proofs.parts.facets_of.Given as goal

abbrev pub invariant-loop-facet : goal.invariant-loop-facet
invariant-loop-facet l = l.made ≡ fold (with_drawn_facet l.table l.complex) empty_complex (take l.facet-index l.complex.facets.now)
