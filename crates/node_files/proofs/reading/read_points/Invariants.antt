use Rattle.std.proofs.Common.{◌≡◌, ◌-◌}
use Rattle.tet_text.specs.Views.{content_left, line_total}
use Rattle.node_files.specs.Node.{points_of, points_table}
use Rattle.node_files.proofs.Points.{joined}
use Rattle.node_files.proofs.reading.read_points.Given as goal

abbrev pub invariant-loop : goal.invariant-loop
invariant-loop l =
    (joined l.before l.text (points_of l.header.attribute_count l.header.flag l.before (l.header.count - l.counter) (line_total l.lines) (content_left l.lines)) ≡ points_table l.header (line_total l.fn.lines) (content_left l.fn.lines))
    × (line_total l.lines ≡ line_total l.fn.lines)
