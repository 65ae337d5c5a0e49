use Rattle.std.proofs.Common.{length, map, arith}
use Rattle.tet_text.specs.Views.{content_left, line_total}
use Rattle.tet_text.proofs.ContentLines.{content_left_few}
use Rattle.soup_files.specs.Solids.{solid_polygon}
use Rattle.soup_files.proofs.ManySolids.{few_solid_points}
use Rattle.soup_files.proofs.solids.read_lines.Goals as goal

pub solids_surface-requires : goal.solids_surface-requires
solids_surface-requires c =
    let lines = c.pass_solid.new.lines in
    let few = few_solid_points (length (content_left lines)) 1 (line_total lines) (content_left lines) ((c.read_solids.new.points, map solid_polygon c.in_ok-triangles.triangles), c.in_ok-triangles.count) c.in_ok-triangles.ensures in
    omega (arith, few, content_left_few lines, c.in_ok-pass_solid.ensures.count, c.requires)
