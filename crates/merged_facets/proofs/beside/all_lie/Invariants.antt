use Rattle.std.proofs.Common.{ℕ, ◌<◌, get_or}
use Rattle.merged_facets.specs.Beside.{Lies}
use Rattle.merged_facets.proofs.beside.all_lie.Given as goal

-- the corners so far do
abbrev pub invariant-loop-k : goal.invariant-loop-k
invariant-loop-k l = (k d : ℕ) → k < l.k → Lies l.lie l.points l.s l.i (get_or l.corners k d)
