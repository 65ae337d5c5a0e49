use Rattle.std.proofs.Common.{subst}
use Rattle.point_locate.specs.Place.{AreOn}
use Rattle.mesh_laws.proofs.Taken.{taken_ghost}
use Rattle.cavity_insert.proofs.rule.slot_conflicts.Goals as goal

pub row_conflicts-requires : goal.row_conflicts-requires
row_conflicts-requires c = subst (AreOn c.args.points.now) c.in-Row.ensures (c.requires.corners _ _ c.tet-t.ensures.corners)

pub returns-in-Ghost : goal.returns-in-Ghost
returns-in-Ghost c = taken_ghost c.args.arena.now.slots c.args.points.now c.args.p c.args.number c.args.s.index c.tet-t.result c.in-Ghost.place c.is_seen.result c.tet-t.ensures.mesh c.tet-t.ensures.corners c.in-Ghost.ensures.0 c.in-Ghost.ensures.1 c.is_seen.ensures
