use Rattle.std.specs.Prelude.{None, Some}
use Rattle.simplex_meets.proofs.Firsts.{boxes_of, first_of_whole, met_more, first_pair_is}
use Rattle.simplex_meets.proofs.pairing.first_pair.Goals as goal

pub first_among-requires-clause-tree : goal.first_among-requires-clause-tree
first_among-requires-clause-tree c = boxes_of c.args.points.now c.args.parts.now c.in_ok-tree.tree c.in_ok-tree.ensures

pub returns-in-Some : goal.returns-in-Some
returns-in-Some c =
    let a = c.args in
    let first = first_of_whole a.compared a.points.now a.parts.now c.loop-i.i c.in_ok-tree.tree (Some c.in-Some.j) c.in_ok-tree.ensures c.in-Some.ensures in
    first_pair_is a.compared a.points.now a.parts.now c.loop-i.i c.in-Some.j c.loop-i.invariant first

pub loop-i-preserved : goal.loop-i-preserved
loop-i-preserved c =
    let a = c.args in
    let first = first_of_whole a.compared a.points.now a.parts.now c.loop-i.i c.in_ok-tree.tree None c.in_ok-tree.ensures c.in_default.ensures in
    met_more a.compared a.points.now a.parts.now c.loop-i.i c.loop-i.invariant first
