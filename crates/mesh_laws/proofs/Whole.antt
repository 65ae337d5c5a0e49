-- Where a point lies, as point location tells it, is where the search finds all that the point takes: a row that holds a point apart from its corners is
-- taken, and so is the ghost of a hull face that the point is strictly beyond.
use Rattle.geo_laws.specs.Delaunay.{point}
use Rattle.geo_laws.specs.Height.{lifted}
use Rattle.geo_laws.proofs.Lift.{delaunay_of}
use Rattle.insert_laws.proofs.Bridge.{outside}
use Rattle.insert_laws.proofs.Start.{law_start}
use Rattle.point_locate.specs.Place.{IsPlace}
use Rattle.point_locate.specs.declared.walk.Place.{Place}
use Rattle.point_locate.specs.declared.walk.Place.TheVariants.{Inside, Beyond}
use Rattle.mesh_laws.specs.LowestRule.{IsLowestTaken}
use Rattle.mesh_laws.specs.LowestLiving.{IsLowestMesh}
use Rattle.mesh_laws.proofs.LowestRows.{taken_row}
use Rattle.mesh_laws.proofs.LowestWhole as lowest
use Rattle.mesh_laws.specs.Laws.{slot_of, CavityLaw}
use Rattle.mesh_laws.proofs.Bridge.{mesh_of, whole_from}

pub law_cavity : CavityLaw
law_cavity slots ps ms p mesh now new apart place here = whole_from slots ps ms p now new (slot_of place) (lowest.law_cavity (lifted ps) slots ps ms p mesh low new place here (taken place here))
  where
    low : IsLowestMesh (lifted ps) slots ps ms
    low = mesh_of slots ps ms now

    taken : (place : Place) → IsPlace slots ps (point ps p) place → IsLowestTaken (lifted ps) slots ps p (slot_of place)
    taken (Inside s) inside =
        let round = lowest.row_round (lifted ps) slots ps ms p mesh low new s.index inside in
        let row = delaunay_of ps ms now.within round.1.row round.1.is_row in
        (taken_row (lifted ps) slots ps ms p new s.index round.0 round.1).1 (λ a. law_start ps ms p new apart round.1.row row round.2 (outside ps ms p new round.1.row row a))
    taken (Beyond s) beyond = (lowest.whole_beyond (lifted ps) slots ps ms p mesh low new s.index beyond).takes_start
