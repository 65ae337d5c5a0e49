use Rattle.std.specs.List.{AllWithin}
use Rattle.tangle_fill.specs.Sample.{IsPlaneTriangle}
use Rattle.mesh_tests.proofs.tests.tangles.are_facet_triangles.Given as goal

abbrev pub invariant-loop-i : goal.invariant-loop-i
invariant-loop-i l = AllWithin (IsPlaneTriangle l.points) l.triangles 0 l.i
