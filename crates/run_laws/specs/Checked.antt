-- The check of the files that are written of a mesh.
use Rattle.std.specs.Prelude.{◌⊎◌, ℕ, ◌<◌, ◌≤◌, List, ◌++◌, length, codes, Option, None, Ok}
use Rattle.sign_predicates.specs.Point.{Point}
use Rattle.geo_laws.specs.declared.complex.Region.{Region}
use Rattle.geo_laws.specs.declared.tetrahedra.Tet.{Tet}
use Rattle.tet_ports.specs.Files.{IsAbsent}
use Rattle.incidence.specs.Pairs.{pairs_of}
use Rattle.mesh_files.specs.Texts.{ele_text_of, face_text, neigh_text}
use Rattle.mesh_files.specs.declared.markers.FaceRow.{FaceRow}
use Rattle.node_files.specs.Writing.{node_text}
use Rattle.node_files.specs.declared.table.NodeTable.{NodeTable}
use Rattle.mesh_check.specs.Defects.{IsVerdict}
use Rattle.mesh_check.specs.declared.defect.Verdict.TheVariants.{Sound}
use Rattle.mesh_check.specs.Checking.{checked_grid, CheckAnswer, most_points}
use Rattle.mesh_check.specs.Reading.{IsRead}
use Rattle.tet_ports.specs.Seen.{FolderSeen}
use Rattle.run_laws.specs.WrittenMesh.{written_mesh}
use Rattle.run_laws.specs.ReadBack.{IsReadable}

-- The folder has the files of a mesh under a base, each with its text of at most 2^26 bytes, where it tells what it has: its points, its
-- rows, its faces, and its neighbors, or no file of neighbors
pub record AreThere (seen : FolderSeen) (base : List ℕ) (table : NodeTable) (added : List Point) (names : List ℕ) (first : ℕ)
    (marks : Option (List (Option ℕ))) (regions : List Region) (rows : List Tet) (faces : List FaceRow) : Type 0 where
  pub node : IsRead seen.files_before (base ++ codes ".node") (node_text table added first)
  pub ele : IsRead seen.files_before (base ++ codes ".ele") (ele_text_of marks regions names first rows)
  pub face : IsRead seen.files_before (base ++ codes ".face") (face_text names first faces)
  pub neigh : IsRead seen.files_before (base ++ codes ".neigh") (neigh_text first (pairs_of rows))
      ⊎ IsAbsent seen.files_before (base ++ codes ".neigh") seen.misses_before seen.misses_now

-- The check of the files of a mesh without a defect, with 1 to 120,000 points, answers that it is sound, and how many tetrahedra it has
abbrev pub CheckedBackLaw : Type 0
CheckedBackLaw = (seen : FolderSeen) (base : List ℕ) (table : NodeTable) (added : List Point) (names : List ℕ) (first : ℕ)
    (ps : List Point) (marks : Option (List (Option ℕ))) (regions : List Region) (rows : List Tet) (faces : List FaceRow)
    → IsReadable checked_grid table added names first ps marks regions rows faces → IsVerdict (written_mesh ps rows faces) Sound
    → 0 < length (table.listed ++ added) → length (table.listed ++ added) ≤ most_points
    → AreThere seen base table added names first marks regions rows faces → CheckAnswer seen base None (Ok (length rows))
