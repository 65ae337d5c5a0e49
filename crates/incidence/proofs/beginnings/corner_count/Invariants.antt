use Rattle.std.proofs.Common.{ℕ, ◌<◌}
use Rattle.incidence.specs.Chains.{face_at}
use Rattle.incidence.proofs.beginnings.corner_count.Given as goal

abbrev pub invariant-loop-at : goal.invariant-loop-at
invariant-loop-at l = (k : ℕ) → k < l.at → (face_at l.faces k).a < l.count
