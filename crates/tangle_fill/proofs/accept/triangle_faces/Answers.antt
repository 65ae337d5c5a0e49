use Rattle.std.proofs.Common.{◌<◌, length, sym, subst, arith}
use Rattle.tangle_fill.specs.Accept.{AreTriangleFaces}
use Rattle.tangle_fill.proofs.Candidates.{more_faces}
use Rattle.tangle_fill.proofs.accept.triangle_faces.Goals as goal

pub loop-i-preserved : goal.loop-i-preserved
loop-i-preserved c =
    let ts = c.args.triangles.now in
    let l : c.loop-i.i < length ts = omega arith in
    subst (AreTriangleFaces ts) (sym c.in_ok-push.ensures.ok) (more_faces ts c.loop-i.faces c.at-a.result c.loop-i.i l c.at-a.ensures c.loop-i.invariant)

pub returns : goal.returns
returns c face m = c.loop-i.invariant face ((c.keep_distinct.ensures.exactly face).0 m)
