use Rattle.std.proofs.Common.{◌≡◌, ◌-◌, ◌<◌, ◌≤◌, length}
use Rattle.incidence.specs.Chains.{face_at, chain_of}
use Rattle.incidence.proofs.Chained.{IsNotBefore}
use Rattle.incidence.proofs.table.FaceTable.has.Given as goal

abbrev pub invariant-loop-at : goal.invariant-loop-at
invariant-loop-at l = record {
  within : l.at ≤ length l.self;
  like : l.at < length l.self → chain_of (face_at l.self l.at) ≡ chain_of l.face;
  before : IsNotBefore l.self l.face l.at;
}

abbrev pub decreases-loop-at : goal.decreases-loop-at
decreases-loop-at l = length l.self - l.at
