use Rattle.std.proofs.Common.{◌≤◌, ◌-◌, length}
use Rattle.simplex_meets.proofs.Firsts.{IsFirstTo}
use Rattle.simplex_meets.proofs.pairing.first_among.Given as goal

abbrev pub invariant-loop-at : goal.invariant-loop-at
invariant-loop-at l = record { there : l.at ≤ length l.tree; first : IsFirstTo l.compared l.points l.parts l.i l.tree l.at l.found }

abbrev pub decreases-loop-at : goal.decreases-loop-at
decreases-loop-at l = length l.tree - l.at
