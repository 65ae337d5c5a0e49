-- The sides of Delaunay tetrahedra at a corner: the law of the lowest ones, at the squared lengths.
use Rattle.geo_laws.specs.Height.{lifted}
use Rattle.geo_laws.proofs.Lift.{lowest_of}
use Rattle.insert_laws.proofs.LowestCone as lowest
use Rattle.insert_laws.specs.Cone.{ConeLaw}

pub law_cone : ConeLaw
law_cone ps ms within s r t d e = lowest.law_cone (lifted ps) ps ms within s r t (lowest_of ps ms within s d) (lowest_of ps ms within r e)
