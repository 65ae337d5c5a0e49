use Rattle.std.proofs.Common.{ap, ◌∙◌, List}
use Rattle.row_cells.specs.declared.boxes.RowBox.{RowBox}
use Rattle.row_cells.specs.Parts.{cells_of}
use Rattle.row_cells.proofs.cells.RowCells.new.Goals as goal

pub returns : goal.returns
returns c = record {
  cells = c.in_ok-cells.ensures ∙ ap (λ (boxes : List RowBox). cells_of c.cuts_of-cuts.result boxes) c.in_ok-boxes.ensures.boxes;
  wide = c.cuts_of-cuts.ensures;
  grid = c.in_ok-boxes.ensures.grid;
}
