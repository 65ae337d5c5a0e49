use Rattle.box_tree.proofs.Lists.{if_ok}
use Rattle.geo_laws.specs.Complex.{flat_facet}
use Rattle.facet_plane.proofs.NearPoints.{near_of}
use Rattle.facet_plane.proofs.near.numbers_near.Goals as goal

pub returns : goal.returns
returns c =
    if_ok c.plane_numbers.result
    (λ ns h. near_of c.args.points.now (flat_facet c.args.complex.now.polygons c.args.facet.now) c.args.span c.facet_bounds-bounds.result ns
    c.requires.plane c.requires.flat c.requires.a_is_there c.requires.b_is_there c.requires.c_is_there c.facet_bounds-bounds.ensures h)
    c.plane_numbers.ensures
