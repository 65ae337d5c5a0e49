use Rattle.std.proofs.Common.{arith, ap, ◌∙◌}
use Rattle.tetfit_run.specs.Sides.{first_sides}
use Rattle.tetfit_run.proofs.FacetSides.{first_more}
use Rattle.tetfit_run.proofs.sides.all_sides.Goals as goal

pub loop-facet-preserved : goal.loop-facet-preserved
loop-facet-preserved c =
    first_more c.args.complex.now c.loop-facet.facet c.in_ok-sides.sides c.as_slice.result.now c.loop-facet.list c.append_sides.new.list (omega (arith, c.loop-facet-test.true, c.facet_count-facet-end.ensures.count)) c.loop-facet.invariant
    c.in_ok-sides.ensures c.as_slice.ensures c.in_ok-append_sides.ensures

pub returns : goal.returns
returns c = c.loop-facet.invariant ∙ ap (first_sides c.args.complex.now) (omega (arith, c.loop-facet-test.false, c.facet_count-facet-end.ensures.count))
