use Rattle.std.proofs.Common.{◌∙◌, sym, arith}
use Rattle.grid_coords.proofs.Origins.{low_more, low_all, high_more, high_all}
use Rattle.grid_coords.proofs.origin.extent_of.Goals as goal

pub loop-p-preserved : goal.loop-p-preserved
loop-p-preserved c =
    let l = c.loop-p in
    let ps = c.args.points.now in
    record {
      lows = rw (c.lower-low.ensures.value, c.whole_point-place.ensures.value) (low_more l.low ps l.p-index c.p-item.result c.loop-p-test.true c.p-item.is ∙ l.invariant.lows);
      highs = rw (c.higher-high.ensures.value, c.whole_point-place.ensures.value) (high_more l.high ps l.p-index c.p-item.result c.loop-p-test.true c.p-item.is ∙ l.invariant.highs);
      low_small = c.lower-low.ensures.small;
      high_small = c.higher-high.ensures.small;
    }

pub returns-clause-low : goal.returns-clause-low
returns-clause-low c = sym (low_all c.loop-p.low c.args.points.now c.loop-p.p-index (omega arith)) ∙ c.loop-p.invariant.lows

pub returns-clause-high : goal.returns-clause-high
returns-clause-high c = sym (high_all c.loop-p.high c.args.points.now c.loop-p.p-index (omega arith)) ∙ c.loop-p.invariant.highs
