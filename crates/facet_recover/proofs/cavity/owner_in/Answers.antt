use Rattle.facet_recover.proofs.Stars.{clear_row}
use Rattle.facet_recover.proofs.cavity.owner_in.Goals as goal

pub returns-then-star : goal.returns-then-star
returns-then-star c =
    clear_row c.args.points.now c.args.triangles.now c.args.tet c.args.tree.now c.args.star.bounds c.requires.positive c.requires.tree c.requires.holds (c.requires.clear c.if-star.true)
