use Rattle.std.proofs.Common.{arith}
use Rattle.row_cells.specs.Parts.{part_of}
use Rattle.row_cells.proofs.Searched.{one_more, all_made}
use Rattle.row_cells.proofs.parts.parts_of.Goals as goal

pub loop-s-preserved : goal.loop-s-preserved
loop-s-preserved c =
    one_more (λ s. part_of c.args.axis c.args.cut s c.args.boxes.now) c.loop-s.s _ c.loop-s.parts _ c.loop-s.invariant (c.in_ok-part.ensures) c.in_ok-push.ensures.ok

pub returns : goal.returns
returns c = all_made (λ s. part_of c.args.axis c.args.cut s c.args.boxes.now) c.loop-s.s c.loop-s.parts c.loop-s.invariant (omega arith)
