use Rattle.std.proofs.Common.{length, map, arith}
use Rattle.tet_text.specs.Views.{content_left, line_total}
use Rattle.tet_text.proofs.ContentLines.{content_left_few}
use Rattle.soup_files.specs.Triangles.{triangle_polygon}
use Rattle.soup_files.proofs.Whole.{few_points}
use Rattle.soup_files.proofs.stl.read_lines.Goals as goal

pub surface-requires : goal.surface-requires
surface-requires c =
    let lines = c.pass_solid.new.lines in
    let few = few_points (length (content_left lines)) (line_total lines) (content_left lines) ((c.read_facets.new.points, map triangle_polygon c.in_ok-triangles.triangles), content_left c.read_facets.new.lines) c.in_ok-triangles.ensures.value in
    omega (arith, few, content_left_few lines, c.in_ok-pass_solid.ensures.count, c.requires)
