use Rattle.std.proofs.Common.{◌≡◌, ℕ, ◌<◌, false, get_or}
use Rattle.geo_laws.specs.declared.complex.Facet.{Facet}
use Rattle.tetfit_run.specs.Hints.{has_polygon}
use Rattle.tetfit_run.proofs.facets.facet_of.Given as goal

abbrev pub invariant-loop-k : goal.invariant-loop-k
invariant-loop-k l = (k : ℕ) → k < l.k → (d : Facet) → has_polygon l.polygon (get_or l.complex.facets k d) ≡ false
