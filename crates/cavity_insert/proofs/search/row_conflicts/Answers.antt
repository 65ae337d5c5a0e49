use Rattle.cavity_insert.proofs.LiftedRows.{test_row}
use Rattle.cavity_insert.proofs.search.row_conflicts.Goals as goal

pub returns : goal.returns
returns g c = test_row (g.H.Lift.heights c.args.lift.now) (g.H.Lift.points c.args.lift.now) c.args.row c.args.number c.is_outside.result c.is_outside.ensures
