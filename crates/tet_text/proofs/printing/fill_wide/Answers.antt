use Rattle.std.proofs.Common.{ℕ, List, ◌++◌, ◌-◌, ◌+◌, ◌%◌, ap, ◌∙◌, arith, length-set}
use Rattle.std.proofs.lemmas.List.{append-nil}
use Rattle.std.proofs.Math.ListN.{drop_of_length-le}
use Rattle.tet_text.specs.Printing.{glyphs}
use Rattle.tet_text.proofs.Texts.{digit_before, digits_left}
use Rattle.tet_text.proofs.printing.fill_wide.Goals as goal

pub loop-left-init : goal.loop-left-init
loop-left-init c =
    let nothing = drop_of_length-le c.args.buffer.now {i = 36} (omega arith) in (
      ap (λ (t : List ℕ). glyphs c.args.number ++ t) nothing ∙ append-nil (glyphs c.args.number),
      c.requires,
      omega arith,
      c.told-buffer,
    )

pub loop-left-preserved : goal.loop-left-preserved
loop-left-preserved c =
    let left = digits_left c.loop-left.left c.loop-left.at (omega arith) c.loop-left.invariant.1 in (
      digit_before c.loop-left.buffer c.loop-left.left c.loop-left.at (omega arith) left.0 (omega arith) ∙ c.loop-left.invariant.0,
      left.1,
      omega arith,
      length-set c.loop-left.buffer (c.loop-left.at - 1) (48 + c.loop-left.left % 10) ∙ c.loop-left.invariant.3,
    )
