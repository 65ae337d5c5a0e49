use Rattle.std.proofs.Common.{◌≡◌}
use Rattle.node_files.specs.Terms.{divided_out}
use Rattle.node_files.proofs.terms.divided_out.Given as goal

abbrev pub invariant-loop-left : goal.invariant-loop-left
invariant-loop-left l = divided_out l.base l.value l.left ≡ divided_out l.base l.number l.steps

abbrev pub decreases-loop-left : goal.decreases-loop-left
decreases-loop-left l = l.left
