use Rattle.mesh_check.specs.Searches.{IsLeastOf}
use Rattle.mesh_check.specs.Sides.{MeetsLater}
use Rattle.mesh_check.proofs.same_side.first_met.Given as goal

abbrev pub invariant-loop-corner : goal.invariant-loop-corner
invariant-loop-corner l = IsLeastOf (MeetsLater l.points l.list l.from l.row l.corner) l.least
