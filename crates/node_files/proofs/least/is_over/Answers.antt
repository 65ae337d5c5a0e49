use Rattle.std.proofs.Common.{sym, ◌∙◌}
use Rattle.node_files.specs.LeastGrid.{size_on}
use Rattle.node_files.proofs.Greatest.{over_is, small_is}
use Rattle.node_files.proofs.least.is_over.Goals as goal

pub returns-in-Some : goal.returns-in-Some
returns-in-Some c = sym (small_is c.args.wide (size_on c.args.grid.now c.args.p.now) _ (sym c.size_on.ensures ∙ c.in-Some.is))

pub returns-in-None : goal.returns-in-None
returns-in-None c = sym (over_is c.args.wide (size_on c.args.grid.now c.args.p.now) c.requires (sym c.size_on.ensures ∙ c.in-None.is))
