use Rattle.std.proofs.Common.{arith}
use Rattle.hole_carve.specs.Seeds.{RowHolds}
use Rattle.hole_carve.proofs.Seeding.{gathered_more}
use Rattle.hole_carve.proofs.seeds.holders_of.Goals as goal

pub loop-at-preserved : goal.loop-at-preserved
loop-at-preserved c =
    gathered_more (RowHolds c.args.points.now c.args.list.now c.args.x) c.loop-at.holders.items c.add_holder.new.holders.items c.loop-at.at c.loop-at.invariant c.in_ok-add_holder.ensures

pub returns : goal.returns
returns c i = (λ h. ((c.loop-at.invariant i).0 h).1, λ h. (c.loop-at.invariant i).1 (omega (arith, h.0, c.loop-at-test.false), h))
