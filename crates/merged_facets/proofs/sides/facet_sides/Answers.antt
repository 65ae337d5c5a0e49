use Rattle.std.proofs.Common.{◌++◌, map, ap, ◌∙◌, arith}
use Rattle.geo_laws.specs.Segment.{sides}
use Rattle.merged_facets.specs.FacetSides.{facet_side}
use Rattle.merged_facets.proofs.FacetSides.{sides_more}
use Rattle.merged_facets.proofs.sides.facet_sides.Goals as goal

pub loop-facet-preserved : goal.loop-facet-preserved
loop-facet-preserved c =
    sides_more c.args.complex.now c.loop-facet.facet c.loop-facet.list c.add_sides.new.list (omega (arith, c.facet_count-facet-end.ensures.count, c.loop-facet-test.true)) c.loop-facet.invariant
    (c.in_ok-add_sides.ensures ∙ ap (λ ps. c.loop-facet.list ++ map (facet_side c.loop-facet.facet) (sides ps)) c.only_polygon.ensures)
