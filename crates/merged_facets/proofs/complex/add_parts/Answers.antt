use Rattle.merged_facets.proofs.Parts.{facet_parts}
use Rattle.merged_facets.proofs.complex.add_parts.Goals as goal

pub returns : goal.returns
returns c =
    facet_parts c.args.complex.now.polygons c.args.facet.now c.args.made.now c.add_polygons.new.made c.add_holes.new.made c.in_ok-add_polygons.ensures c.in_ok-add_holes.ensures
