use Rattle.std.proofs.Common.{length, map, ap, arith, length-drop}
use Rattle.soup_files.specs.Triangles.{triangle_polygon}
use Rattle.soup_files.proofs.BinaryWhole.{few_settled}
use Rattle.soup_files.proofs.binary_stl.read_bytes.Goals as goal

pub surface-requires : goal.surface-requires
surface-requires c =
    let few = few_settled c.in_ok-count.count 1 c.behind.result.now (c.read_facets.new.points, map triangle_polygon c.in_ok-triangles.triangles) c.in_ok-triangles.ensures in
    omega (arith, few, ap length c.behind.ensures, length-drop 84 c.args.bytes.now, c.requires)
