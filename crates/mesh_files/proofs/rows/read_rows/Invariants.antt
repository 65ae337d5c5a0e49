use Rattle.std.proofs.Common.{◌≡◌, ◌-◌, ◌+◌}
use Rattle.std.specs.Prelude.{All}
use Rattle.tet_text.specs.Views.{content_left, line_total}
use Rattle.mesh_files.specs.Repeated.{next_row}
use Rattle.mesh_files.proofs.rows.read_rows.Given as goal
use Rattle.tet_text.specs.Repeated.{so_many, onto}

abbrev pub invariant-loop-i : goal.invariant-loop-i
invariant-loop-i g l =
    (onto l.rows (so_many (next_row (g.R.Row.row_of l.listed l.head.flag) (line_total l.fn.lines)) (l.head.count - l.i) (l.listed.first + l.i, content_left l.lines)) ≡ so_many (next_row (g.R.Row.row_of l.listed l.head.flag) (line_total l.fn.lines)) l.head.count (l.listed.first, content_left l.fn.lines))
    × (line_total l.lines ≡ line_total l.fn.lines)
    × All (g.R.Row.is_below l.listed.points) l.rows
