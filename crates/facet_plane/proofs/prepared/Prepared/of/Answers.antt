use Rattle.std.proofs.Common.{refl, sym, ap, ◌∙◌}
use Rattle.sign_predicates.specs.Point.{origin}
use Rattle.geo_laws.specs.Complex.{flat_facet}
use Rattle.facet_plane.specs.Axes.{axis_is}
use Rattle.facet_plane.proofs.Whole.{prepared_is}
use Rattle.facet_plane.proofs.prepared.Prepared.of.Goals as goal

pub returns : goal.returns
returns c =
    prepared_is c.args.points.now (flat_facet c.args.complex.now.polygons c.args.facet.now) _ c.args.span.0 c.args.span.1 c.args.span.2
    c.at-from.result c.at-second.result c.at-third.result (sym c.requires.plane)
    (c.at-from.ensures origin) (c.at-second.ensures origin) (c.at-third.ensures origin)
    refl c.normal-normal.ensures (ap axis_is c.in_ok-outlines.ensures.axis ∙ c.axis.ensures) c.in_ok-outlines.ensures.outlines c.in_ok-holes.ensures
