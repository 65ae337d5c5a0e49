use Rattle.std.proofs.Common.{◌≡◌, ◌<◌, true, ℕ}
use Rattle.geo_laws.specs.Delaunay.{point}
use Rattle.refining.specs.Addable.{is_multiple}
use Rattle.refining.proofs.multiples.first_coarse.Given as goal

abbrev pub invariant-loop-i : goal.invariant-loop-i
invariant-loop-i l = (k : ℕ) → k < l.i → is_multiple l.unit (point l.points k) ≡ true
