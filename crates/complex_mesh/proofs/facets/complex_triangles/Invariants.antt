use Rattle.std.proofs.Common.{◌≡◌}
use Rattle.geo_laws.specs.Complex.{facets}
use Rattle.complex_mesh.specs.Protection.{first_triangles}
use Rattle.complex_mesh.proofs.facets.complex_triangles.Given as goal

-- the triangles of the facets so far
abbrev pub invariant-loop-facet : goal.invariant-loop-facet
invariant-loop-facet l = l.triangles ≡ first_triangles l.points (facets l.complex) l.facet
