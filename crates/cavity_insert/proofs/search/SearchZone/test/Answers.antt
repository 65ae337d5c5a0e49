use Rattle.cavity_insert.proofs.LiftedRows.{same_zone}
use Rattle.cavity_insert.proofs.search.SearchZone.test.Goals as goal

pub returns : goal.returns
returns g c = same_zone g.H.Lift.heights g.H.Lift.points _ _ c.self.view_is c.is_taken.result c.args.s.index c.is_taken.ensures
