use Rattle.sign_predicates.specs.Point.{origin}
use Rattle.merged_facets.proofs.BesideOf.{off_at}
use Rattle.tetfit_run.proofs.sides.is_off.Goals as goal

pub returns : goal.returns
returns c =
    off_at c.args.points.now c.args.p c.args.i c.at.result c.at-2.result c.at-3.result c.spans_plane.result (c.at.ensures origin) (c.at-2.ensures origin) (c.at-3.ensures origin)
    c.spans_plane.ensures
