use Rattle.std.proofs.Common.{arith}
use Rattle.tet_text.specs.Views.{content_left, line_total}
use Rattle.tet_text.proofs.ContentLines.{content_left_few}
use Rattle.soup_files.specs.Off.{vertex_line}
use Rattle.soup_files.proofs.Spent.{many_few, off_vertex_takes}
use Rattle.soup_files.proofs.off.read_lines.Goals as goal

pub nodes_at-requires : goal.nodes_at-requires
nodes_at-requires c =
    let lines = c.read_head.new.lines in
    let read = many_few (vertex_line c.args.grammar (line_total lines)) (off_vertex_takes c.args.grammar (line_total lines)) c.in_ok-points.points (content_left lines) (c.in_ok-points-2.points, content_left c.read_vertices.new.lines) c.in_ok-points-2.ensures.value in
    omega (arith, read, content_left_few lines, c.in_ok-points.ensures.count, c.requires)
