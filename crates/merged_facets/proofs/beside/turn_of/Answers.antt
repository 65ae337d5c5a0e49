use Rattle.sign_predicates.specs.Point.{origin}
use Rattle.merged_facets.proofs.BesideOf.{turn_at}
use Rattle.merged_facets.proofs.beside.turn_of.Goals as goal

pub returns : goal.returns
returns c =
    turn_at c.args.points.now c.args.s c.args.i c.args.j c.at-a.result c.at-b.result c.at.result c.at-2.result c.turn_sign.result
    (c.at-a.ensures origin) (c.at-b.ensures origin) (c.at.ensures origin) (c.at-2.ensures origin) c.turn_sign.ensures
