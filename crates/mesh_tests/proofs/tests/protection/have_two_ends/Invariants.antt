use Rattle.std.proofs.Common.{ℕ, ◌<◌, get_or}
use Rattle.geo_laws.specs.declared.complex.Piece.{Piece}
use Rattle.segment_protect.specs.Spots.{HasTwoEnds}
use Rattle.mesh_tests.proofs.tests.protection.have_two_ends.Given as goal

abbrev pub invariant-loop-i : goal.invariant-loop-i
invariant-loop-i l = (k : ℕ) (d : Piece) → k < l.i → HasTwoEnds l.n (get_or l.segments k d)
