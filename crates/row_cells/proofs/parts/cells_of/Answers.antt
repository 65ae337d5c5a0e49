use Rattle.std.proofs.Common.{ap, ◌∙◌, List, arith}
use Rattle.row_cells.specs.declared.boxes.RowBox.{RowBox}
use Rattle.row_cells.specs.declared.parts.Axis.TheVariants.{X}
use Rattle.row_cells.specs.Parts.{part_of, strips_of}
use Rattle.row_cells.proofs.Searched.{one_more, all_made}
use Rattle.row_cells.proofs.parts.cells_of.Goals as goal

pub loop-s-preserved : goal.loop-s-preserved
loop-s-preserved c =
    one_more (λ s. strips_of c.args.cuts.y c.args.cuts.z (part_of X c.args.cuts.x s c.args.boxes.now)) c.loop-s.s _ c.loop-s.cells _ c.loop-s.invariant (c.in_ok-strips.ensures ∙ ap (λ (b : List RowBox). strips_of c.args.cuts.y c.args.cuts.z b) c.in_ok-slab.ensures) c.in_ok-push.ensures.ok

pub returns : goal.returns
returns c = all_made (λ s. strips_of c.args.cuts.y c.args.cuts.z (part_of X c.args.cuts.x s c.args.boxes.now)) c.loop-s.s c.loop-s.cells c.loop-s.invariant (omega arith)
