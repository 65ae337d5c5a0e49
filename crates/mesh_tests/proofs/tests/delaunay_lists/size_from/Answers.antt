use Rattle.mesh_laws.proofs.Placed.{law_placed}
use Rattle.mesh_tests.proofs.tests.delaunay_lists.size_from.Goals as goal

pub test_slot-requires-clause-corners : goal.test_slot-requires-clause-corners
test_slot-requires-clause-corners g c = law_placed.corners _ c.args.points.now _ c.tet.ensures.mesh c.requires.mesh

pub grow_cavity-requires-clause-corners : goal.grow_cavity-requires-clause-corners
grow_cavity-requires-clause-corners g c = law_placed.corners _ c.args.points.now _ c.tet.ensures.mesh c.requires.mesh
