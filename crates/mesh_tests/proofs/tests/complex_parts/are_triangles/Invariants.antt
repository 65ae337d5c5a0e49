use Rattle.std.proofs.Common.{ℕ, ◌<◌, get_or}
use Rattle.geo_laws.specs.declared.complex.FacetTriangle.{FacetTriangle}
use Rattle.simplex_meets.specs.Proper.{IsTriangle, triangle_face}
use Rattle.mesh_tests.proofs.tests.complex_parts.are_triangles.Given as goal

abbrev pub invariant-loop-i : goal.invariant-loop-i
invariant-loop-i l = (k : ℕ) (d : FacetTriangle) → k < l.i → IsTriangle l.points (triangle_face (get_or l.triangles k d))
