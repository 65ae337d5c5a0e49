use Rattle.std.proofs.Common.{◌≡◌, ℕ, ◌<◌, None}
use Rattle.mesh_check.specs.Corners.{entry_in, face_in}
use Rattle.mesh_check.specs.FaceSets.{HasFace}
use Rattle.mesh_check.proofs.unlisted.unlisted_corner.Given as goal

abbrev pub invariant-loop-corner : goal.invariant-loop-corner
invariant-loop-corner l = (k : ℕ) → k < l.corner → ¬ ((k < 4) × (entry_in l.across k ≡ None) × ¬ HasFace l.listed (face_in l.row k))
