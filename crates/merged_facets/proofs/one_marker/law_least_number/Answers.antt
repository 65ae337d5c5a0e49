use Rattle.merged_facets.proofs.Markers.{least_number}
use Rattle.merged_facets.proofs.one_marker.law_least_number.Goals as goal

pub returns : goal.returns
returns c = least_number
