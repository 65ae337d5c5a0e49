use Rattle.std.proofs.Common.{◌≡◌, map, take, Some}
use Rattle.plc_files.specs.Text.{plc_with}
use Rattle.soup_files.specs.Surface.{plus_faces, nodes_at}
use Rattle.soup_files.specs.Triangles.{triangle_polygon}
use Rattle.soup_files.proofs.stl.surface.Given as goal

abbrev pub invariant-loop-triangle : goal.invariant-loop-triangle
invariant-loop-triangle l = l.text ≡ plus_faces (map triangle_polygon (take l.triangle-index l.triangles)) (plc_with (Some (nodes_at l.points)))
