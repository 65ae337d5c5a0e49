use Rattle.std.proofs.Common.{arith}
use Rattle.merged_facets.proofs.Parts.{no_parts, holes_more, holes_all}
use Rattle.merged_facets.proofs.complex.add_holes.Goals as goal

pub loop-i-init : goal.loop-i-init
loop-i-init c = no_parts c.args.complex.now.polygons c.args.made.now c.requires.making

pub loop-i-preserved : goal.loop-i-preserved
loop-i-preserved c =
    holes_more c.args.complex.now.polygons c.args.facet.now.holes c.loop-i.i c.args.made.now c.loop-i.made c.add_facet_hole.new.self c.at.result (omega (arith, c.loop-i-test.true, c.len-i-end.ensures.count)) c.at.ensures c.loop-i.invariant
    c.in_ok-add_facet_hole.ensures.ok

pub returns : goal.returns
returns c =
    holes_all c.args.complex.now.polygons c.args.facet.now.holes c.loop-i.i c.args.made.now c.loop-i.made (omega (arith, c.loop-i-test.false, c.len-i-end.ensures.count)) c.loop-i.invariant
