use Rattle.std.proofs.Common.{sym, ◌∙◌, arith}
use Rattle.facet_plane.specs.Axes.{axis_is}
use Rattle.facet_plane.specs.Outline.{side_meets}
use Rattle.facet_plane.proofs.Around.{ahead, any_hit, any_miss, any_past, any_apart}
use Rattle.facet_plane.proofs.outline.Outline.meets.Goals as goal

pub loop-i-smaller-then-is_apart : goal.loop-i-smaller-then-is_apart
loop-i-smaller-then-is_apart c =
    let k = ahead c.args.self.now c.loop-i.i c.at-block.result c.requires (omega arith) c.at-block.ensures in
    let l = k.0 in
    let m = k.1 in
    omega arith

pub loop-i-preserved-then-is_apart : goal.loop-i-preserved-then-is_apart
loop-i-preserved-then-is_apart c =
    sym (any_apart c.args.reach (axis_is c.args.axis) c.args.x c.args.self.now c.loop-i.i c.at-block.result c.requires (omega arith) c.at-block.ensures (c.is_apart.ensures c.if-is_apart.true))
    ∙ c.loop-i.invariant

pub returns-then-is_met : goal.returns-then-is_met
returns-then-is_met c =
    sym (any_hit (side_meets c.args.reach (axis_is c.args.axis) c.args.x) c.args.self.now.sides c.loop-i.i c.at.result (omega arith) c.at.ensures (sym c.is_met.ensures ∙ c.if-is_met.true))
    ∙ c.loop-i.invariant

pub loop-i-preserved : goal.loop-i-preserved
loop-i-preserved c =
    sym (any_miss (side_meets c.args.reach (axis_is c.args.axis) c.args.x) c.args.self.now.sides c.loop-i.i c.at.result (omega arith) c.at.ensures (sym c.is_met.ensures ∙ c.if-is_met.false))
    ∙ c.loop-i.invariant

pub returns : goal.returns
returns c = sym (any_past (side_meets c.args.reach (axis_is c.args.axis) c.args.x) c.args.self.now.sides c.loop-i.i (omega arith)) ∙ c.loop-i.invariant
