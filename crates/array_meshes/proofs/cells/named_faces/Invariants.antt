use Rattle.std.proofs.Common.{◌≡◌, map, take}
use Rattle.array_meshes.specs.Meshes.{named_face}
use Rattle.array_meshes.proofs.cells.named_faces.Given as goal

abbrev pub invariant-loop-face : goal.invariant-loop-face
invariant-loop-face l = l.made.items ≡ map (named_face l.names) (take l.face-index l.faces)
