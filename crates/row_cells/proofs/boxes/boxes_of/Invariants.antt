use Rattle.std.proofs.Common.{◌≡◌, ◌<◌, ℕ, map}
use Rattle.geo_laws.specs.Delaunay.{corners, numbers_below}
use Rattle.row_cells.specs.Boxes.{row, box_of, AreOnGrid}
use Rattle.row_cells.proofs.boxes.boxes_of.Given as goal

abbrev pub invariant-loop-i : goal.invariant-loop-i
invariant-loop-i l = record {
  boxes : l.boxes ≡ map (λ i. box_of i (corners l.points (row l.list i))) (numbers_below l.i);
  grid : (k : ℕ) → k < l.i → AreOnGrid (corners l.points (row l.list k));
}
