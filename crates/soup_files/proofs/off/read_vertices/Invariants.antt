use Rattle.std.proofs.Common.{◌≡◌, ◌-◌}
use Rattle.tet_text.specs.Views.{content_left, line_total}
use Rattle.soup_files.specs.Off.{vertex_line}
use Rattle.soup_files.proofs.off.read_vertices.Given as goal
use Rattle.tet_text.specs.Repeated.{so_many, onto}

abbrev pub invariant-loop : goal.invariant-loop
invariant-loop l =
    (onto l.points (so_many (vertex_line l.grammar (line_total l.fn.lines)) (l.count - l.counter) (content_left l.lines)) ≡ so_many (vertex_line l.grammar (line_total l.fn.lines)) l.count (content_left l.fn.lines))
    × (line_total l.lines ≡ line_total l.fn.lines)
