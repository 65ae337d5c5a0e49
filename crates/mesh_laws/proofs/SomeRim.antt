-- The rim of a cavity that was grown is not empty.
use Rattle.geo_laws.specs.Height.{lifted}
use Rattle.mesh_laws.proofs.LowestSomeRim as lowest
use Rattle.mesh_laws.specs.RimLaws.{SomeRimLaw}
use Rattle.mesh_laws.proofs.Bridge.{mesh_of, grown_of, whole_of}

pub law_some_rim : SomeRimLaw
law_some_rim slots ps ms p start cavity rim mesh now new apart grown whole =
    lowest.law_some_rim (lifted ps) slots ps ms p start cavity rim mesh (mesh_of slots ps ms now) new (grown_of slots ps ms p now new start cavity rim grown) (whole_of slots ps ms p now new start whole)
