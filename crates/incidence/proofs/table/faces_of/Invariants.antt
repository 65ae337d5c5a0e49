use Rattle.std.proofs.Common.{◌≡◌}
use Rattle.std.specs.Prelude.{map, take}
use Rattle.incidence.specs.Chains.{face_of_triangle}
use Rattle.incidence.proofs.table.faces_of.Given as goal

abbrev pub invariant-loop-triangle : goal.invariant-loop-triangle
invariant-loop-triangle l = l.faces.items ≡ map face_of_triangle (take l.triangle-index l.triangles)
