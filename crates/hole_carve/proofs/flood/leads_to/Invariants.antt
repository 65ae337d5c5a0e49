use Rattle.std.proofs.Common.{◌≡◌, ℕ, ◌<◌, Some}
use Rattle.hole_carve.specs.Flooding.{way}
use Rattle.hole_carve.proofs.flood.leads_to.Given as goal

abbrev pub invariant-loop-corner : goal.invariant-loop-corner
invariant-loop-corner l = (k : ℕ) → k < l.corner → ¬ (way l.across k ≡ Some l.place)
