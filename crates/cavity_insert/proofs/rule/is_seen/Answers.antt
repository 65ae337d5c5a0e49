use Rattle.cavity_insert.proofs.rule.is_seen.Goals as goal

pub placed-at-requires : goal.placed-at-requires
placed-at-requires c = c.requires.corners _ _ c.tet.ensures.corners
