-- What point location asks of a Delaunay mesh.
use Rattle.geo_laws.specs.Height.{lifted}
use Rattle.mesh_laws.proofs.LowestPlaced as lowest
use Rattle.mesh_laws.specs.RimLaws.{PlacedLaw}
use Rattle.mesh_laws.proofs.Bridge.{mesh_of}

pub law_placed : PlacedLaw
law_placed = record {
  corners = λ slots ps ms mesh now. lowest.law_placed.corners (lifted ps) slots ps ms mesh (mesh_of slots ps ms now);
  somewhere = λ slots ps ms p start mesh now. lowest.law_placed.somewhere (lifted ps) slots ps ms p start mesh (mesh_of slots ps ms now);
}
