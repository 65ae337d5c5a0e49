use Rattle.std.proofs.Common.{ap, sym, subst, ◌∙◌, ◌<◌, [], List, length, arith}
use Rattle.std.specs.Prelude.{All}
use Rattle.row_cells.specs.declared.boxes.Cell.{Cell}
use Rattle.row_cells.specs.declared.boxes.RowBox.{RowBox}
use Rattle.row_cells.specs.Boxes.{boxes_of}
use Rattle.row_cells.specs.Where.{first_in}
use Rattle.row_cells.proofs.Near.{IsCellAt}
use Rattle.row_cells.proofs.Searched.{Way, strips_count, parts_count, cell_there, cell_list, cell_rows, in_cell}
use Rattle.row_cells.proofs.cells.RowCells.find.Goals as goal

pub get-parts-requires : goal.get-parts-requires
get-parts-requires c =
    let cells = c.args.self.now in
    let boxes = boxes_of c.args.points.now c.args.list.now in
    let count = strips_count cells.cuts boxes c.part_at.result cells.cells c.get-strips.result.now c.requires.cells.cells c.part_at.ensures.there (c.get-strips.ensures []) in
    let there = c.part_at-2.ensures.there in
    omega arith

pub get-requires : goal.get-requires
get-requires c =
    let cells = c.args.self.now in
    let boxes = boxes_of c.args.points.now c.args.list.now in
    let way : Way cells.cuts boxes c.part_at.result c.part_at-2.result cells.cells c.get-strips.result.now c.get-parts.result.now =
    record { cells_are = c.requires.cells.cells; s_there = c.part_at.ensures.there; strip_found = c.get-strips.ensures []; t_there = c.part_at-2.ensures.there; parts_found = c.get-parts.ensures [] } in
    let count = parts_count cells.cuts boxes c.part_at.result c.part_at-2.result cells.cells c.get-strips.result.now c.get-parts.result.now way in
    let there = c.part_at-3.ensures.there in
    omega arith

pub first_in-requires-clause-rows : goal.first_in-requires-clause-rows
first_in-requires-clause-rows c = λ k d lt. (c.requires.rows k d lt).0

pub first_in-requires-clause-places : goal.first_in-requires-clause-places
first_in-requires-clause-places c =
    let ps = c.args.points.now in
    let rows = c.args.list.now in
    let cells = c.args.self.now in
    let way : Way cells.cuts (boxes_of ps rows) c.part_at.result c.part_at-2.result cells.cells c.get-strips.result.now c.get-parts.result.now =
    record { cells_are = c.requires.cells.cells; s_there = c.part_at.ensures.there; strip_found = c.get-strips.ensures []; t_there = c.part_at-2.ensures.there; parts_found = c.get-parts.ensures [] } in
    let cell = c.as_slice-cell.ensures ∙ cell_there cells.cuts (boxes_of ps rows) c.part_at.result c.part_at-2.result c.part_at-3.result cells.cells c.get-strips.result.now c.get-parts.result.now c.get.result.now way c.part_at-3.ensures.there (c.get.ensures []) in
    subst (λ (bs : List RowBox). All (λ b. b.row < length rows) bs) (sym cell) (cell_rows ps rows cells.cuts c.part_at.result c.part_at-2.result c.part_at-3.result)

pub returns : goal.returns
returns c =
    let ps = c.args.points.now in
    let rows = c.args.list.now in
    let x = c.args.x in
    let cells = c.args.self.now in
    let s = c.part_at.result in
    let t = c.part_at-2.result in
    let u = c.part_at-3.result in
    let way : Way cells.cuts (boxes_of ps rows) s t cells.cells c.get-strips.result.now c.get-parts.result.now =
    record { cells_are = c.requires.cells.cells; s_there = c.part_at.ensures.there; strip_found = c.get-strips.ensures []; t_there = c.part_at-2.ensures.there; parts_found = c.get-parts.ensures [] } in
    let cell = c.as_slice-cell.ensures ∙ cell_there cells.cuts (boxes_of ps rows) s t u cells.cells c.get-strips.result.now c.get-parts.result.now c.get.result.now way c.part_at-3.ensures.there (c.get.ensures []) in
    let at = c.cell_of-at.result in
    let place = c.cell_of-at.ensures.value in
    let parts : IsCellAt cells.cuts s t u at = record {
      x = record { there = c.part_at.ensures.there; left = c.part_at.ensures.left; right = c.part_at.ensures.right };
      y = record { there = c.part_at-2.ensures.there; left = c.part_at-2.ensures.left; right = c.part_at-2.ensures.right };
      z = record { there = c.part_at-3.ensures.there; left = c.part_at-3.ensures.left; right = c.part_at-3.ensures.right };
    } in
    c.first_in.ensures ∙ ap (first_in ps rows at x) cell ∙ ap (λ (k : Cell). first_in ps rows k x (cell_list cells.cuts s t u (boxes_of ps rows))) place
    ∙ in_cell ps rows x cells.cuts s t u c.cell_of-at.ensures.unit c.requires.rows c.requires.cells.grid (subst (λ (k : Cell). IsCellAt cells.cuts s t u k) place parts)
