use Rattle.hole_carve.proofs.Begun.{AreBegun}
use Rattle.hole_carve.proofs.carving.seeds_of.Given as goal

abbrev pub invariant-loop-at : goal.invariant-loop-at
invariant-loop-at l = AreBegun l.keep_hull l.mesh.points.now l.mesh.closed l.mesh.list.now l.holes l.at l.seeds.items
