use Rattle.std.proofs.Common.{Some, ap, ◌∙◌}
use Rattle.mesh_laws.proofs.LowestTaken.{taken_ghost}
use Rattle.cavity_insert.proofs.LiftedRows.{row_for, test_slot}
use Rattle.cavity_insert.proofs.search.ghost_conflicts.Goals as goal

pub row_conflicts-requires : goal.row_conflicts-requires
row_conflicts-requires g c =
    row_for (g.H.Lift.heights c.args.lift.now) c.args.arena.now.slots (g.H.Lift.points c.args.lift.now) c.requires.ready.0 c.args.number c.requires.ready.1 c.args.s.index c.in-Row.row
    (c.tet.ensures.corners ∙ ap Some c.in-Row.ensures)

pub returns-in-Row : goal.returns-in-Row
returns-in-Row g c = test_slot (g.H.Lift.heights c.args.lift.now) c.args.arena.now.slots (g.H.Lift.points c.args.lift.now) c.args.number c.args.s.index c.in-Row.row c.row_conflicts.result
    (c.tet.ensures.corners ∙ ap Some c.in-Row.ensures) c.row_conflicts.ensures

pub returns-in-Ghost : goal.returns-in-Ghost
returns-in-Ghost g c = taken_ghost (g.H.Lift.heights c.args.lift.now) c.args.arena.now.slots (g.H.Lift.points c.args.lift.now) c.args.number c.args.s.index c.tet.result c.in-Ghost.place c.is_seen.result
    c.tet.ensures.mesh c.tet.ensures.corners c.in-Ghost.ensures.0 c.in-Ghost.ensures.1 c.is_seen.ensures
