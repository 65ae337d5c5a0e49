use Rattle.std.proofs.Common.{◌≡◌, ℕ, false, [], None, get_or, sym, ap, ◌∙◌, arith, below_more}
use Rattle.geo_laws.specs.declared.complex.Facet.{Facet}
use Rattle.tetfit_run.specs.Hints.{has_polygon}
use Rattle.tetfit_run.proofs.Firsts.{first_at, none_at}
use Rattle.tetfit_run.proofs.facets.facet_of.Goals as goal

pub returns-then-has_polygon : goal.returns-then-has_polygon
returns-then-has_polygon c =
    let d : Facet = record { first = 0; past = 0; holes = []; marker = None } in
    first_at (has_polygon c.args.polygon) c.args.complex.now.facets c.loop-k.k d (omega arith) (λ k lt. c.loop-k.invariant k lt d)
    (ap (has_polygon c.args.polygon) (c.facet.ensures.value d) ∙ sym c.has_polygon.ensures ∙ c.if-has_polygon.true)

pub loop-k-preserved : goal.loop-k-preserved
loop-k-preserved c =
    below_more (λ (k : ℕ). (d : Facet) → has_polygon c.args.polygon (get_or c.args.complex.now.facets k d) ≡ false) c.loop-k.k c.loop-k.invariant
    (λ d. ap (has_polygon c.args.polygon) (c.facet.ensures.value d) ∙ sym c.has_polygon.ensures ∙ c.if-has_polygon.false)

pub returns : goal.returns
returns c =
    let d : Facet = record { first = 0; past = 0; holes = []; marker = None } in
    none_at (has_polygon c.args.polygon) c.args.complex.now.facets c.loop-k.k d (omega arith) (λ k lt. c.loop-k.invariant k lt d)
