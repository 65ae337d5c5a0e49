use Rattle.std.proofs.Common.{◌≢◌, ℕ, ◌<◌, ◌≤ℤ◌, pos}
use Rattle.std.specs.Prelude.{slice_index_or}
use Rattle.sign_predicates.specs.Orientation.{side, opposite_face}
use Rattle.geo_laws.specs.Delaunay.{numbers}
use Rattle.cavity_insert.proofs.sides.face_towards.Given as goal

abbrev pub invariant-loop-k : goal.invariant-loop-k
invariant-loop-k l = (m : ℕ) → m < l.k → slice_index_or (numbers l.fn.row) m l.a ≢ l.a → pos 0 ≤ℤ side (opposite_face l.at m) l.p
