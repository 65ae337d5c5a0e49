use Rattle.std.proofs.Common.{◌≤◌, ◌-◌, length}
use Rattle.tetfit_run.proofs.SideBoxes.{AreMissed}
use Rattle.tetfit_run.proofs.sides.is_covered.Given as goal

-- no side whose box is one of the nodes so far covers it
abbrev pub invariant-loop-i : goal.invariant-loop-i
invariant-loop-i l = record { there : l.i ≤ length l.tree; missed : AreMissed l.points l.sides l.s l.tree l.i }

abbrev pub decreases-loop-i : goal.decreases-loop-i
decreases-loop-i l = length l.tree - l.i
