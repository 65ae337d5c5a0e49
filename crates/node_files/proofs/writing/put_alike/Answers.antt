use Rattle.std.proofs.Common.{arith, ◌++◌, ◌+◌}
use Rattle.sign_predicates.specs.Point.{origin}
use Rattle.node_files.specs.Writing.{like_lines}
use Rattle.node_files.proofs.Written.{alike_more, alike_all}
use Rattle.node_files.proofs.writing.put_alike.Goals as goal

pub loop-i-preserved : goal.loop-i-preserved
loop-i-preserved c =
    let attributes = c.args.attributes.now in
    let markers = c.args.markers.now in
    let ps = c.args.points.now in
    alike_more c.loop-i.out c.put_point.new.out (c.args.out.now ++ like_lines c.args.frame.now.origin c.args.frame.now.grid c.args.first ps attributes markers) c.args.frame.now.origin c.args.frame.now.grid c.args.first c.loop-i.i ps c.at.result attributes markers
    (omega arith) (c.at.ensures origin) c.in_ok-put_point.ensures c.loop-i.invariant

pub returns : goal.returns
returns c = alike_all c.loop-i.out (c.args.out.now ++ like_lines c.args.frame.now.origin c.args.frame.now.grid c.args.first c.args.points.now c.args.attributes.now c.args.markers.now) c.args.frame.now.origin c.args.frame.now.grid (c.args.first + c.loop-i.i) c.loop-i.i c.args.points.now c.args.attributes.now c.args.markers.now (omega arith) c.loop-i.invariant
