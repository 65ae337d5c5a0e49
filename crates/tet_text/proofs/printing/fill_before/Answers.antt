use Rattle.std.proofs.Common.{◌-◌, ◌+◌, ◌%◌, ◌∙◌, arith, length-set}
use Rattle.tet_text.proofs.Texts.{digit_before, digits_left}
use Rattle.tet_text.proofs.printing.fill_before.Goals as goal

pub loop-left-preserved : goal.loop-left-preserved
loop-left-preserved c =
    let left = digits_left c.loop-left.left c.loop-left.at (omega arith) c.loop-left.invariant.1 in (
      digit_before c.loop-left.buffer c.loop-left.left c.loop-left.at (omega arith) left.0 (omega arith) ∙ c.loop-left.invariant.0,
      left.1,
      omega arith,
      length-set c.loop-left.buffer (c.loop-left.at - 1) (48 + c.loop-left.left % 10) ∙ c.loop-left.invariant.3,
    )
