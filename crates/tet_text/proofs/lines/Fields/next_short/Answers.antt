use Rattle.tet_text.proofs.Cutting.{without_blanks_twice}
use Rattle.tet_text.proofs.PlainFields.{decimal_read}
use Rattle.tet_text.proofs.lines.Fields.next_short.Goals as goal

pub invariant_of-self : goal.invariant_of-self
invariant_of-self c = rw c.skip_blanks-self-inside.ensures (without_blanks_twice c.in_ok-negative.rest.now)

pub returns-clause-next : goal.returns-clause-next
returns-clause-next c =
    let read = decimal_read c.self.inside.line c.self.inside.rest.now c.in_ok-negative.rest.now c.in_ok-negative.negative
    c.in_ok-negative.number c.in_ok-negative.decimals c.self.invariant c.in_ok-negative.ensures in
    rw (← c.self.view_is, c.skip_blanks-self-inside.ensures) read.0

pub returns-clause-passed : goal.returns-clause-passed
returns-clause-passed c =
    let read = decimal_read c.self.inside.line c.self.inside.rest.now c.in_ok-negative.rest.now c.in_ok-negative.negative
    c.in_ok-negative.number c.in_ok-negative.decimals c.self.invariant c.in_ok-negative.ensures in
    rw (← c.self.view_is, c.skip_blanks-self-inside.ensures) read.1
