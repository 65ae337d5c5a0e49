use Rattle.facet_recover.proofs.Refilling.{refill_is}
use Rattle.facet_recover.proofs.recover.fill_parted.Goals as goal

pub returns : goal.returns
returns c =
    refill_is c.args.points.now c.args.triangles.now c.args.list.now c.fill_all.new.refilled c.keep_distinct.new.self c.in_ok-fill_all.ensures c.keep_distinct.ensures.exactly
    c.keep_distinct.ensures.ascending
