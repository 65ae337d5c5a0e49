use Rattle.std.proofs.Common.{◌≡◌}
use Rattle.std.specs.Prelude.{map, take}
use Rattle.mesh_files.specs.FaceRows.{hull_row}
use Rattle.mesh_files.proofs.hull.hull_rows.Given as goal

abbrev pub invariant-loop-face : goal.invariant-loop-face
invariant-loop-face l = l.found ≡ map hull_row (take l.face-index l.hull)
