use Rattle.std.proofs.Common.{◌≡◌, true, length, arith}
use Rattle.hole_carve.specs.Flooding.{IsWay}
use Rattle.hole_carve.proofs.Flooding.{way_inside, below_next}
use Rattle.hole_carve.proofs.Floods.{goes_on_more}
use Rattle.hole_carve.proofs.flood.Flood.reach_from_beyond.Goals as goal
use Rattle.geo_laws.specs.Marks.{is_marked}

pub loop-row-preserved : goal.loop-row-preserved
loop-row-preserved c =
    let e = c.in_ok-reach_back.ensures in
    record {
      goes_on = goes_on_more c.args.ways.now c.args.seeds.now _ _ _ c.loop-row.invariant.goes_on e.goes_on;
      closed = λ j l w. below_next (λ i. IsWay c.args.ways.now i (length c.args.ways.now) → is_marked c.reach_back.new.self.marks.items i ≡ true) c.loop-row.row
          (λ i h v. e.goes_on.grown.marked i (c.loop-row.invariant.closed i h v)) e.reached j l w;
    }

pub returns-clause-closed : goal.returns-clause-closed
returns-clause-closed c j w = let h = way_inside c.args.ways.now j _ w in c.loop-row.invariant.closed j (omega arith) w
