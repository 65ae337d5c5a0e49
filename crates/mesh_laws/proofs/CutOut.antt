-- A cavity that was grown, and its rim, as surgery takes them.
use Rattle.geo_laws.specs.Height.{lifted}
use Rattle.mesh_laws.proofs.LowestCutOut as lowest
use Rattle.mesh_laws.specs.Laws.{CutOutLaw}
use Rattle.mesh_laws.proofs.Bridge.{mesh_of, grown_of}

pub law_cut_out : CutOutLaw
law_cut_out slots ps ms p start cavity rim mesh now new grown = lowest.law_cut_out (lifted ps) slots ps ms p start cavity rim mesh (mesh_of slots ps ms now) new (grown_of slots ps ms p now new start cavity rim grown)
