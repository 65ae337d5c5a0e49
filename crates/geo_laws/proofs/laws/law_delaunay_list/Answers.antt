use Rattle.geo_laws.proofs.DelaunayList.{law_delaunay_list}
use Rattle.geo_laws.proofs.laws.law_delaunay_list.Goals as goal

pub returns : goal.returns
returns c = law_delaunay_list
