use Rattle.std.proofs.Common.{ℕ, ◌<◌, get_or}
use Rattle.geo_laws.specs.declared.complex.Piece.{Piece}
use Rattle.simplex_meets.specs.Proper.{IsSegment}
use Rattle.simplex_meets.specs.Parts.{piece_side}
use Rattle.mesh_tests.proofs.tests.complex_parts.are_segments.Given as goal

abbrev pub invariant-loop-i : goal.invariant-loop-i
invariant-loop-i l = (k : ℕ) (d : Piece) → k < l.i → IsSegment l.points (piece_side (get_or l.pieces k d))
