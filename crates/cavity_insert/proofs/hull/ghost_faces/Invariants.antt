use Rattle.cavity_insert.specs.Hull.{AreFacesBelow}
use Rattle.cavity_insert.proofs.hull.ghost_faces.Given as goal

abbrev pub invariant-loop-i : goal.invariant-loop-i
invariant-loop-i l = AreFacesBelow l.arena.slots l.points l.faces l.i
