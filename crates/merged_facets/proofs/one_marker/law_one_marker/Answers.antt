use Rattle.merged_facets.proofs.Markers.{one_marker}
use Rattle.merged_facets.proofs.one_marker.law_one_marker.Goals as goal

pub returns : goal.returns
returns c = one_marker
