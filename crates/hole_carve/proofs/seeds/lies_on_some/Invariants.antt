use Rattle.std.proofs.Common.{◌≡◌, ℕ, ◌<◌, pos}
use Rattle.std.specs.Prelude.{Contains}
use Rattle.sign_predicates.specs.Orientation.{side_rational, opposite_face}
use Rattle.hole_carve.specs.Ways.{face_opposite}
use Rattle.hole_carve.proofs.seeds.lies_on_some.Given as goal

abbrev pub invariant-loop-corner : goal.invariant-loop-corner
invariant-loop-corner l = (k : ℕ) → k < l.corner → ¬ ((side_rational (opposite_face l.t k) l.x ≡ pos 0) × Contains l.closed (face_opposite l.row k))
