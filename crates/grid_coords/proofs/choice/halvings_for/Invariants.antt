use Rattle.std.proofs.Common.{◌≡◌, ◌≤◌}
use Rattle.grid_coords.specs.Choice.{halvings_for}
use Rattle.grid_coords.proofs.choice.halvings_for.Given as goal

abbrev pub invariant-loop-halvings : goal.invariant-loop-halvings
invariant-loop-halvings l = (halvings_for l.wide l.halvings l.size ≡ halvings_for l.wide l.most l.size) × (l.halvings ≤ 18)

abbrev pub decreases-loop-halvings : goal.decreases-loop-halvings
decreases-loop-halvings l = l.halvings
