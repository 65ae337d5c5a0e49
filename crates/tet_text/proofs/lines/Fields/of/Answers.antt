use Rattle.std.proofs.Common.{ap, List, ℕ}
use Rattle.tet_text.specs.Lines.{ContentLine}
use Rattle.tet_text.proofs.Cutting.{fields_of-without_blanks, without_blanks_twice}
use Rattle.tet_text.proofs.lines.Fields.of.Goals as goal

pub invariant_of-result : goal.invariant_of-result
invariant_of-result c = rw c.skip_blanks.ensures (without_blanks_twice c.args.content.now)

pub returns : goal.returns
returns c =
    let made : List (List ℕ) → ContentLine = λ fields. record { line = c.args.number; fields = fields } in
    rw c.skip_blanks.ensures (ap made (fields_of-without_blanks c.args.content.now))
