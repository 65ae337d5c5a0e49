use Rattle.std.proofs.Common.{◌≡◌, ℕ, ◌<◌, false, get_or}
use Rattle.geo_laws.specs.Complex.{Polygon}
use Rattle.tetfit_run.specs.Hints.{has_both}
use Rattle.tetfit_run.proofs.facets.first_polygon.Given as goal

abbrev pub invariant-loop-i : goal.invariant-loop-i
invariant-loop-i l = (k : ℕ) → k < l.i → (d : Polygon) → has_both l.piece (get_or l.complex.polygons k d).corners ≡ false
