-- The rim of a cavity that was grown is a closed surface.
use Rattle.geo_laws.specs.Height.{lifted}
use Rattle.mesh_laws.proofs.LowestPaired as lowest
use Rattle.mesh_laws.specs.RimLaws.{PairedLaw}
use Rattle.mesh_laws.proofs.Bridge.{mesh_of, grown_of, whole_of}

pub law_paired : PairedLaw
law_paired slots ps ms p start cavity rim mesh now new grown whole =
    lowest.law_paired (lifted ps) slots ps ms p start cavity rim mesh (mesh_of slots ps ms now) new (grown_of slots ps ms p now new start cavity rim grown) (whole_of slots ps ms p now new start whole)
