-- The star in place of a cavity makes the Delaunay mesh with the new point.
use Rattle.std.proofs.Common.{◌∷◌}
use Rattle.geo_laws.specs.Height.{lifted}
use Rattle.geo_laws.proofs.Lift.{lowest_of}
use Rattle.mesh_laws.proofs.LowestReplacedMesh as lowest
use Rattle.mesh_laws.specs.Replaced.{ReplacedLaw}
use Rattle.mesh_laws.proofs.Bridge.{mesh_of, mesh_from, grown_of, taken_from}

pub law_replaced : ReplacedLaw
law_replaced old new ps ms p start cavity rim s mesh_old mesh_new now is_new some is grown all replaces =
    mesh_from new ps (p ∷ ms) (lowest.law_replaced (lifted ps) old new ps ms p start cavity rim s mesh_old mesh_new (mesh_of old ps ms now) is_new some (lowest_of ps ms now.within some is)
    (grown_of old ps ms p now is_new start cavity rim grown) (λ u takes. all u (taken_from old ps ms p now is_new u takes)) replaces)
