use Rattle.std.proofs.Common.{◌≡◌, drop}
use Rattle.row_cells.specs.Where.{first_in}
use Rattle.row_cells.proofs.cells.first_in.Given as goal

abbrev pub invariant-loop-near : goal.invariant-loop-near
invariant-loop-near l = first_in l.points l.list l.at l.x (drop l.near-index l.cell) ≡ first_in l.points l.list l.at l.x l.cell
