use Rattle.std.proofs.Common.{◌+◌, drop, ap, ◌∙◌, arith}
use Rattle.geo_laws.specs.Facet.{crosses_ray}
use Rattle.facet_plane.specs.Axes.{axis_is}
use Rattle.facet_plane.specs.Outline.{side_crosses}
use Rattle.facet_plane.specs.Walk.{is_odd}
use Rattle.facet_plane.proofs.Around.{ahead, odd_next, odd_past, odd_never, odd_block}
use Rattle.facet_plane.proofs.Walks.{unlike}
use Rattle.facet_plane.proofs.outline.Outline.is_round.Goals as goal
use Rattle.facet_laws.specs.Parity.{xor}

pub loop-i-smaller-in-Never : goal.loop-i-smaller-in-Never
loop-i-smaller-in-Never c =
    let k = ahead c.args.self.now c.loop-i.i c.at-block.result c.requires (omega arith) c.at-block.ensures in
    let l = k.0 in
    let m = k.1 in
    omega arith

pub loop-i-preserved-in-Never : goal.loop-i-preserved-in-Never
loop-i-preserved-in-Never c =
    ap (xor c.loop-i.odd) (odd_never (axis_is c.args.axis) c.args.x c.args.self.now c.loop-i.i c.at-block.result c.requires (omega arith) c.at-block.ensures c.in-Never.ensures)
    ∙ c.loop-i.invariant

pub overflow_sub-block : goal.overflow_sub-block
overflow_sub-block c =
    let k = (ahead c.args.self.now c.loop-i.i c.at-block.result c.requires (omega arith) c.at-block.ensures).0 in
    omega arith

pub at-last-requires : goal.at-last-requires
at-last-requires c =
    let k = ahead c.args.self.now c.loop-i.i c.at-block.result c.requires (omega arith) c.at-block.ensures in
    let l = k.0 in
    let m = k.1 in
    omega arith

pub loop-i-smaller-in-Between : goal.loop-i-smaller-in-Between
loop-i-smaller-in-Between c =
    let k = ahead c.args.self.now c.loop-i.i c.at-block.result c.requires (omega arith) c.at-block.ensures in
    let l = k.0 in
    let m = k.1 in
    omega arith

pub loop-i-preserved-in-Between : goal.loop-i-preserved-in-Between
loop-i-preserved-in-Between c =
    ap (λ o. xor o (is_odd (side_crosses (axis_is c.args.axis) c.args.x) (drop c.at-block.result.past c.args.self.now.sides))) (unlike c.loop-i.odd c.is_between-odd.result)
    ∙ odd_block (axis_is c.args.axis) c.args.x c.args.self.now c.loop-i.i c.at-block.result c.at-side.result c.at-last.result c.loop-i.odd c.is_between-odd.result c.requires (omega arith) c.at-block.ensures c.at-side.ensures c.at-last.ensures c.in-Between.ensures c.is_between-odd.ensures
    ∙ c.loop-i.invariant

pub loop-i-preserved : goal.loop-i-preserved
loop-i-preserved c =
    ap (λ o. xor o (is_odd (side_crosses (axis_is c.args.axis) c.args.x) (drop (c.loop-i.i + 1) c.args.self.now.sides))) (unlike c.loop-i.odd c.crosses_ray-odd.result)
    ∙ odd_next (side_crosses (axis_is c.args.axis) c.args.x) c.args.self.now.sides c.loop-i.i c.at-side.result c.loop-i.odd c.crosses_ray-odd.result (omega arith) c.at-side.ensures
    (c.crosses_ray-odd.ensures ∙ (λ j. crosses_ray (axis_is c.args.axis) (c.toward.ensures j) (c.toward-in-Unknown.ensures j)))
    ∙ c.loop-i.invariant

pub returns : goal.returns
returns c = odd_past (side_crosses (axis_is c.args.axis) c.args.x) c.args.self.now.sides c.loop-i.i c.loop-i.odd (omega arith) ∙ c.loop-i.invariant
