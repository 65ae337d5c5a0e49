use Rattle.std.proofs.Common.{◌≡◌, ◌≤◌, drop}
use Rattle.std.specs.Prelude.{max}
use Rattle.grid_coords.specs.Choice.{greatest_size, first_over}
use Rattle.grid_coords.proofs.choice.greatest_size.Given as goal

abbrev pub invariant-loop-p : goal.invariant-loop-p
invariant-loop-p l = record {
  greatest : max l.greatest (greatest_size l.decimals (drop l.p-index l.points)) ≡ greatest_size l.decimals l.points;
  first : first_over l.wide l.decimals (drop l.p-index l.points) ≡ first_over l.wide l.decimals l.points;
  small : l.greatest ≤ l.wide;
}
