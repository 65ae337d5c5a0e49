use Rattle.cavity_insert.proofs.rule.inner_conflicts.Goals as goal

pub corners_conflict-requires : goal.corners_conflict-requires
corners_conflict-requires c = c.requires.corners _ _ c.tet.ensures.corners
