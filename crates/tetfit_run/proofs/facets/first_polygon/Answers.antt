use Rattle.std.proofs.Common.{◌≡◌, ℕ, false, [], get_or, sym, ap, ◌∙◌, arith, below_more}
use Rattle.geo_laws.specs.Complex.{Polygon}
use Rattle.tetfit_run.specs.Hints.{has_both}
use Rattle.tetfit_run.proofs.Firsts.{first_at, none_at}
use Rattle.tetfit_run.proofs.facets.first_polygon.Goals as goal

pub returns-then-has_both : goal.returns-then-has_both
returns-then-has_both c =
    let d : Polygon = record { corners = []; line = 0 } in
    first_at (λ (g : Polygon). has_both c.args.piece g.corners) c.args.complex.now.polygons c.loop-i.i d (omega arith) (λ k lt. c.loop-i.invariant k lt d)
    (ap (has_both c.args.piece) (c.corners.ensures d) ∙ sym c.has_both.ensures ∙ c.if-has_both.true)

pub loop-i-preserved : goal.loop-i-preserved
loop-i-preserved c =
    below_more (λ (k : ℕ). (d : Polygon) → has_both c.args.piece (get_or c.args.complex.now.polygons k d).corners ≡ false) c.loop-i.i c.loop-i.invariant
    (λ d. ap (has_both c.args.piece) (c.corners.ensures d) ∙ sym c.has_both.ensures ∙ c.if-has_both.false)

pub returns : goal.returns
returns c =
    let d : Polygon = record { corners = []; line = 0 } in
    none_at (λ (g : Polygon). has_both c.args.piece g.corners) c.args.complex.now.polygons c.loop-i.i d (omega arith) (λ k lt. c.loop-i.invariant k lt d)
