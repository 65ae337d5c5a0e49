use Rattle.std.proofs.Common.{ℕ, ◌<◌}
use Rattle.incidence.specs.Chains.{face_at, chain_of}
use Rattle.incidence.proofs.chains.chain_count.Given as goal

abbrev pub invariant-loop-at : goal.invariant-loop-at
invariant-loop-at l = (k : ℕ) → k < l.at → chain_of (face_at l.faces k) < l.count
