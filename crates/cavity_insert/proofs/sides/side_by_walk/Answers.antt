use Rattle.cavity_insert.proofs.Cones.{slot_on, slot_answers}
use Rattle.cavity_insert.proofs.sides.side_by_walk.Goals as goal

pub step_at-requires-clause-corners : goal.step_at-requires-clause-corners
step_at-requires-clause-corners c = slot_on c.args.arena.now.slots c.args.points.now c.requires.mesh c.loop.at.index c.tet.result c.tet.ensures.mesh c.tet.ensures.corners

pub returns-in-Answer : goal.returns-in-Answer
returns-in-Answer c =
    let told = c.in-Answer.ensures in
    slot_answers c.args.arena.now.slots c.args.points.now c.requires.mesh c.loop.at.index _ c.args.a c.args.b c.in-Answer.answer c.requires.differ c.tet.ensures.corners told.0 told.1
