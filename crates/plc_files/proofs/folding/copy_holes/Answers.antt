use Rattle.std.proofs.Common.{arith, sym}
use Rattle.plc_files.specs.Appending.{plus_holes}
use Rattle.plc_files.proofs.Folded.{holes_more, holes_all}
use Rattle.plc_files.proofs.folding.copy_holes.Goals as goal

pub loop-i-preserved : goal.loop-i-preserved
loop-i-preserved c =
    holes_more c.args.holes.now c.loop-i.i c.at.result c.loop-i.made c.add_hole.new.self (plus_holes c.args.holes.now c.args.made.now) (omega arith) (sym (c.at.ensures c.at.result)) c.in_ok-add_hole.ensures.ok c.loop-i.invariant

pub returns : goal.returns
returns c = holes_all c.args.holes.now c.loop-i.i c.loop-i.made (plus_holes c.args.holes.now c.args.made.now) (omega arith) c.loop-i.invariant
