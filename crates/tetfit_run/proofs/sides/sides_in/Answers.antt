use Rattle.std.proofs.Common.{arith}
use Rattle.tetfit_run.proofs.FacetSides.{sides_more, sides_whole}
use Rattle.tetfit_run.proofs.sides.sides_in.Goals as goal

pub loop-polygon-preserved : goal.loop-polygon-preserved
loop-polygon-preserved c =
    let f = c.args.span.now in
    let low = c.loop-polygon.invariant.low in
    record {
      low = omega (arith, low);
      found = sides_more c.args.complex.now f.first f.past c.loop-polygon.polygon c.corners.result.now c.loop-polygon.set c.put_sides.new.set low c.loop-polygon-test.true c.requires.there c.corners.ensures c.loop-polygon.invariant.found c.in_ok-put_sides.ensures;
    }

pub returns : goal.returns
returns c =
    let f = c.args.span.now in
    sides_whole c.args.complex.now f.first f.past c.loop-polygon.polygon c.loop-polygon.set c.pieces.result c.requires.order (omega (arith, c.loop-polygon-test.false)) c.requires.there c.loop-polygon.invariant.found c.pieces.ensures
