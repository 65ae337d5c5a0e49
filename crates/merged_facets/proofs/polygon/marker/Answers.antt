use Rattle.merged_facets.proofs.Joins.{marker_is}
use Rattle.merged_facets.proofs.polygon.marker.Goals as goal

pub returns : goal.returns
returns c = marker_is c.args.complex.now c.args.facet c.facet.result.now c.requires c.facet.ensures.value
