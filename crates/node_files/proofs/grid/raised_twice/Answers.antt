use Rattle.std.proofs.Common.{sym, ◌∙◌}
use Rattle.node_files.proofs.Raising.{twice_none, twice_some}
use Rattle.node_files.proofs.grid.raised_twice.Goals as goal

pub returns-in_err-fives : goal.returns-in_err-fives
returns-in_err-fives c = rw c.from_residual.ensures (sym (twice_none c.args.number c.args.by_five c.args.by_two (sym c.raised.ensures ∙ c.in_err-fives.was)))

pub returns : goal.returns
returns c =
    c.raised-2.ensures ∙ twice_some c.args.number c.args.by_five c.args.by_two c.in_ok-fives.fives c.from.result (sym c.raised.ensures ∙ c.in_ok-fives.was) c.from.ensures
