use Rattle.std.proofs.Common.{ℕ, ◌<◌, length}
use Rattle.simplex_meets.specs.Pairs.{AreMetAt}
use Rattle.simplex_meets.proofs.pairing.first_pair.Given as goal

-- the parts so far are properly met with all later ones
abbrev pub invariant-loop-i : goal.invariant-loop-i
invariant-loop-i l = (k j : ℕ) → k < l.i → k < j → j < length l.parts → AreMetAt l.compared l.points l.parts k j
