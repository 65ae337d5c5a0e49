use Rattle.refining.specs.Corners.{AreCorners}
use Rattle.refining.proofs.corners.have_corners.Given as goal

abbrev pub invariant-loop-j : goal.invariant-loop-j
invariant-loop-j l = AreCorners l.own l.j l.rows
