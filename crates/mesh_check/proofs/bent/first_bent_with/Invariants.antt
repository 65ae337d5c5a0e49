use Rattle.mesh_check.specs.Searches.{IsLeastOf}
use Rattle.mesh_check.specs.Bending.{MeetsBent}
use Rattle.mesh_check.proofs.bent.first_bent_with.Given as goal

abbrev pub invariant-loop-corner : goal.invariant-loop-corner
invariant-loop-corner l = IsLeastOf (MeetsBent l.mesh.points.now l.mesh.listed.now l.mesh.list.now l.place l.across l.corner) l.least
