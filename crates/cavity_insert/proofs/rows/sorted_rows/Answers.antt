use Rattle.cavity_insert.specs.Rows.{IsListOf, AreSortedRowsOf}
use Rattle.cavity_insert.specs.RowKeys.{rows_in}
use Rattle.cavity_insert.proofs.Insertion.{if_ok}
use Rattle.cavity_insert.proofs.rows.sorted_rows.Goals as goal

pub returns : goal.returns
returns c =
    let found = c.in_ok-slot_rows.field-0 in
    if_ok (IsListOf (rows_in found)) (AreSortedRowsOf c.args.arena.now.slots)
    (λ rows listed. record { rows = rows_in found; below = c.in_ok-slot_rows.ensures; listed = listed }) c.into_list.result c.into_list.ensures
