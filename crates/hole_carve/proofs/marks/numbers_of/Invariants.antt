use Rattle.hole_carve.proofs.Marked.{IsNumberedBy}
use Rattle.hole_carve.proofs.marks.numbers_of.Given as goal

abbrev pub invariant-loop-k : goal.invariant-loop-k
invariant-loop-k l = IsNumberedBy l.mesh.points.now l.mesh.closed l.mesh.list.now l.ways l.complex.regions l.k l.seeds.items l.flood l.marks.items
