use Rattle.std.proofs.Common.{◌≡◌, true, List, [], ◌∷◌, ◌++◌, length, take}
use Rattle.std.specs.Prelude.{pos, count_by}
use Rattle.incidence.specs.HalfFaces.{used}
use Rattle.incidence.specs.declared.half_faces.HalfFace.{HalfFace}
use Rattle.mesh_files.specs.FaceRows.{corners_of}
use Rattle.mesh_files.specs.Texts.{text_line, face_lines}
use Rattle.mesh_files.specs.declared.markers.FaceRow.{FaceRow}
use Rattle.mesh_files.proofs.Found.{AreFoundBefore}
use Rattle.mesh_files.proofs.Marked.{IsListedRow}
use Rattle.mesh_files.proofs.face_lines.write_all_faces.Given as goal

-- so many uses so far are the first ones of their faces, and the lines so far are those of as many faces, which are those of the uses so far
abbrev pub invariant-loop-at : goal.invariant-loop-at
invariant-loop-at l = record {
  counted : l.place ≡ count_by (λ (h : HalfFace). h.first) (take l.at l.uses);
  written : (found : List FaceRow) × AreFoundBefore corners_of (IsListedRow l.mesh.triangles.now l.complex l.list true) (used l.list l.uses) l.at found × (l.place ≡ length found) × (l.out ≡ text_line l.count (pos 1 ∷ []) ++ face_lines l.names l.first 0 found);
}
