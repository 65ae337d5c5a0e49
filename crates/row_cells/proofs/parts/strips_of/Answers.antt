use Rattle.std.proofs.Common.{ap, ◌∙◌, List, arith}
use Rattle.row_cells.specs.declared.boxes.RowBox.{RowBox}
use Rattle.row_cells.specs.declared.parts.Axis.TheVariants.{Y, Z}
use Rattle.row_cells.specs.Parts.{part_of, cut_parts}
use Rattle.row_cells.proofs.Searched.{one_more, all_made}
use Rattle.row_cells.proofs.parts.strips_of.Goals as goal

pub loop-s-preserved : goal.loop-s-preserved
loop-s-preserved c =
    one_more (λ s. cut_parts Z c.args.z (part_of Y c.args.y s c.args.boxes.now)) c.loop-s.s _ c.loop-s.strips _ c.loop-s.invariant (c.in_ok-parts.ensures ∙ ap (λ (b : List RowBox). cut_parts Z c.args.z b) c.in_ok-strip.ensures) c.in_ok-push.ensures.ok

pub returns : goal.returns
returns c = all_made (λ s. cut_parts Z c.args.z (part_of Y c.args.y s c.args.boxes.now)) c.loop-s.s c.loop-s.strips c.loop-s.invariant (omega arith)
