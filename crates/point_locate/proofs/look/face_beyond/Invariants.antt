use Rattle.std.proofs.Common.{◌≢◌, ℕ, ◌<◌, ◌≤ℤ◌, pos}
use Rattle.sign_predicates.specs.Orientation.{side, opposite_face}
use Rattle.point_locate.proofs.look.face_beyond.Given as goal

abbrev pub invariant-loop-k : goal.invariant-loop-k
invariant-loop-k l = (m : ℕ) → m < l.k → m ≢ l.entry → pos 0 ≤ℤ side (opposite_face l.t m) l.p
