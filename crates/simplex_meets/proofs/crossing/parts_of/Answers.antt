use Rattle.std.proofs.Common.{map, arith}
use Rattle.simplex_meets.specs.declared.complex_parts.Part.TheVariants.{Triangle}
use Rattle.simplex_meets.proofs.Lists.{triangles_more, pieces_more}
use Rattle.simplex_meets.proofs.crossing.parts_of.Goals as goal

pub loop-i-preserved : goal.loop-i-preserved
loop-i-preserved c = triangles_more c.args.triangles.now c.loop-i.i c.loop-i.parts.items c.push.new.self.items c.at.result c.in_ok-push.ensures.items c.at.ensures (omega arith) c.loop-i.invariant

pub loop-i-2-preserved : goal.loop-i-2-preserved
loop-i-2-preserved c =
    pieces_more (map Triangle c.args.triangles.now) c.args.pieces.now c.loop-i-2.i c.loop-i-2.parts.items c.push-in-loop-i-2.new.self.items c.at-in-loop-i-2.result c.in_ok-push-2.ensures.items c.at-in-loop-i-2.ensures (omega arith) c.loop-i-2.invariant
