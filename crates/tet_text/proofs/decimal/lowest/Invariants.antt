use Rattle.std.proofs.Common.{◌≡◌, ◌≤◌}
use Rattle.tet_text.specs.Decimals.{lowest}
use Rattle.tet_text.proofs.decimal.lowest.Given as goal

abbrev pub invariant-loop-left : goal.invariant-loop-left
invariant-loop-left l = record { same : lowest l.value l.left ≡ lowest l.number l.scale; shorter : l.left ≤ l.scale }

abbrev pub decreases-loop-left : goal.decreases-loop-left
decreases-loop-left l = l.left
