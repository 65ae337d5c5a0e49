use Rattle.point_locate.proofs.walk.locate.Goals as goal

pub look_at-requires-clause-corners : goal.look_at-requires-clause-corners
look_at-requires-clause-corners c = c.requires.corners _ _ c.tet.ensures.corners
