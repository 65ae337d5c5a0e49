use Rattle.tangle_fill.proofs.accept.is_bare_side.Goals as goal

pub returns-in-Some-row_on : goal.returns-in-Some-row_on
returns-in-Some-row_on c h =
    let m = c.in-Some-row_on.ensures in
    let old = c.requires.within c.in-Some-row_on.field-0 m.0 in
    record { none = c.in_default.ensures; behind = (old.0, c.in-Some-row_on.field-0, old.1, old.2, m.1) }

pub returns : goal.returns
returns c h =
    let old = c.holds_row.ensures h in
    record { none = c.in_default.ensures; behind = (old.0, c.args.row, old.1, old.2, c.requires.row) }
