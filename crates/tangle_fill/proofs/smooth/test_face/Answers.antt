use Rattle.tangle_fill.proofs.Smoothed.{smooth_pair}
use Rattle.tangle_fill.proofs.smooth.test_face.Goals as goal

pub returns : goal.returns
returns c on =
    smooth_pair c.args.points.now c.args.triangles.now c.args.growth.now c.args.face c.args.row c.in-Some.other c.requires.whole (c.requires.row, on) (c.in-Some.ensures {u = tt}) c.in_ok-test_pair.ensures
