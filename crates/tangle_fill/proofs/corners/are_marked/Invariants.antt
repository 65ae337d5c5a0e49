use Rattle.std.specs.Prelude.{ℕ, ◌<◌, IsTrue}
use Rattle.geo_laws.specs.Marks.{is_marked}
use Rattle.tangle_fill.proofs.corners.are_marked.Given as goal

abbrev pub invariant-loop-i : goal.invariant-loop-i
invariant-loop-i l = (k : ℕ) → k < l.i → IsTrue (is_marked l.marks k)
