use Rattle.std.proofs.Common.{◌≡◌, ◌++◌, drop}
use Rattle.mesh_files.specs.Texts.{face_lines, face_text}
use Rattle.mesh_files.proofs.face.write_face.Given as goal

-- the text so far, and the lines of the faces that are left, make up the whole
abbrev pub invariant-loop-i : goal.invariant-loop-i
invariant-loop-i l = l.out ++ face_lines l.names l.first l.i (drop l.i l.rows) ≡ face_text l.names l.first l.rows
