use Rattle.std.proofs.Common.{sym, ◌∙◌}
use Rattle.tet_text.proofs.Cutting.{no_fields, next_fields_are, without_blanks_twice}
use Rattle.tet_text.proofs.lines.Fields.next.Goals as goal

pub returns-then-is_empty-clause-next : goal.returns-then-is_empty-clause-next
returns-then-is_empty-clause-next c =
    let e = no_fields c.self.inside.rest.now (sym c.is_empty.ensures ∙ c.if-is_empty.true) in
    rw (← c.self.view_is) (e, e)

pub invariant_of-self : goal.invariant_of-self
invariant_of-self c = rw c.skip_blanks-self-inside.ensures (without_blanks_twice c.cut_field.result.1.now)

pub returns-clause-next : goal.returns-clause-next
returns-clause-next c =
    let e = next_fields_are c.self.inside.rest.now (sym c.is_empty.ensures ∙ c.if-is_empty.false) c.self.invariant in
    rw (← c.self.view_is, c.skip_blanks-self-inside.ensures, c.cut_field.ensures.before, c.cut_field.ensures.after) e
