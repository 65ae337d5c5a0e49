-- The check of the files that are written of a mesh.
use Rattle.std.proofs.Common.{◌≡◌, ◌⊎◌, inl, inr, ℕ, ◌<◌, ◌≤◌, List, ◌++◌, length, map, Option, Some, None, Ok, refl, ap, sym, subst, ◌∙◌, arith}
use Rattle.std.specs.Prelude.{codes}
use Rattle.sign_predicates.specs.Point.{Point}
use Rattle.geo_laws.specs.declared.complex.Region.{Region}
use Rattle.geo_laws.specs.declared.tetrahedra.Tet.{Tet}
use Rattle.tet_ports.specs.Files.{IsAbsent}
use Rattle.tet_text.specs.Lines.{content_lines, line_count_of}
use Rattle.incidence.specs.Pairs.{pairs_of}
use Rattle.incidence.specs.declared.pairs.Across.{Across}
use Rattle.mesh_files.specs.Texts.{ele_text_of, face_text, neigh_text}
use Rattle.mesh_files.specs.declared.markers.FaceRow.{FaceRow}
use Rattle.mesh_files.specs.ReadRows.{ele_of, face_list_of, neigh_of}
use Rattle.node_files.specs.Writing.{node_text}
use Rattle.node_files.specs.declared.table.NodeTable.{NodeTable}
use Rattle.node_files.specs.LeastGrid.{coarsest, point_on}
use Rattle.mesh_check.specs.Defects.{IsVerdict, neighbors_or}
use Rattle.mesh_check.specs.declared.defect.Verdict.TheVariants.{Sound}
use Rattle.run_laws.proofs.Soundness.{sound_of}
use Rattle.mesh_check.specs.Checking.{checked_grid, CheckAnswer, most_points}
use Rattle.mesh_check.specs.Reading.{IsRead, MeshAnswer, NeighborsAnswer}
use Rattle.tet_ports.specs.Seen.{FolderSeen}
use Rattle.mesh_check.specs.declared.reading.MeshText.{MeshText}
use Rattle.run_laws.specs.ReadBack.{AreReadSound}
use Rattle.run_laws.specs.Checked.{AreThere, CheckedBackLaw}
use Rattle.run_laws.proofs.ReadBack.{read_back}

module _ (seen : FolderSeen) (base : List ℕ) (table : NodeTable) (added : List Point) (names : List ℕ) (first : ℕ) (marks : Option (List (Option ℕ))) (regions : List Region) (rows : List Tet) (faces : List FaceRow)
    (is : AreReadSound checked_grid table added names first marks regions rows faces) (there : AreThere seen base table added names first marks regions rows faces)
    (some : 0 < length (table.listed ++ added)) (few : length (table.listed ++ added) ≤ most_points) where
  numbered : is.points.first ≡ first
  numbered = is.numbered some

  -- what the files spell, with these neighbors or none
  abbrev spelt : Option (List Across) → MeshText
  spelt neighbors = record { nodes = is.points; rows = is.tetrahedra; faces = is.listed; neighbors = neighbors }

  rows_here : ele_of is.points.first (length is.points.decimals) (line_count_of (ele_text_of marks regions names first rows)) (content_lines (ele_text_of marks regions names first rows)) ≡ Ok is.tetrahedra
  rows_here = ap (λ (n : ℕ). ele_of n (length is.points.decimals) (line_count_of (ele_text_of marks regions names first rows)) (content_lines (ele_text_of marks regions names first rows))) numbered ∙ is.ele_read _

  faces_here : face_list_of is.points.first (length is.points.decimals) (line_count_of (face_text names first faces)) (content_lines (face_text names first faces)) ≡ Ok is.listed
  faces_here = ap (λ (n : ℕ). face_list_of n (length is.points.decimals) (line_count_of (face_text names first faces)) (content_lines (face_text names first faces))) numbered ∙ is.face_read _

  neighbors_here : neigh_of is.points.first (line_count_of (neigh_text first (pairs_of rows))) (content_lines (neigh_text first (pairs_of rows))) ≡ Ok is.neighbors
  neighbors_here = ap (λ (n : ℕ). neigh_of n (line_count_of (neigh_text first (pairs_of rows))) (content_lines (neigh_text first (pairs_of rows)))) numbered ∙ is.neigh_read _

  files_spell : (neighbors : Option (List Across)) → NeighborsAnswer seen base is.points (Ok neighbors) → MeshAnswer seen base (Ok (spelt neighbors))
  files_spell neighbors told = (
    is.points,
    (node_text table added first, there.node, is.node_read _),
    (
      is.tetrahedra,
      (ele_text_of marks regions names first rows, there.ele, rows_here),
      (
        is.listed,
        (face_text names first faces, there.face, faces_here),
        (neighbors, told, refl),
      ),
    ),
  )

  abbrev IsSoundWith : List Across → Type 0
  IsSoundWith neighbors = IsVerdict (record { points = map (point_on (coarsest is.points.decimals)) is.points.decimals; rows = is.tetrahedra; faces = is.listed; neighbors = neighbors }) Sound

  checked : (neighbors : Option (List Across)) → NeighborsAnswer seen base is.points (Ok neighbors) → IsSoundWith (neighbors_or is.tetrahedra neighbors) → CheckAnswer seen base None (Ok (length rows))
  checked neighbors told sound =
      let long = is.points_long in (
        spelt neighbors,
        files_spell neighbors told,
        (
          map (point_on (coarsest is.points.decimals)) is.points.decimals,
          record { few = omega arith; grid = coarsest is.points.decimals; on = is.fits; is = refl },
          (sym is.rows_long, sound),
        ),
      )

  pub check_of : CheckAnswer seen base None (Ok (length rows))
  check_of = go there.neigh
    where
      go : IsRead seen.files_before (base ++ codes ".neigh") (neigh_text first (pairs_of rows)) ⊎ IsAbsent seen.files_before (base ++ codes ".neigh") seen.misses_before seen.misses_now
          → CheckAnswer seen base None (Ok (length rows))
      go (inl read) = checked (Some is.neighbors) (neigh_text first (pairs_of rows), read, neighbors_here) is.sound
      go (inr absent) = checked None absent (subst IsSoundWith (sound_of (record { points = map (point_on (coarsest is.points.decimals)) is.points.decimals; rows = is.tetrahedra; faces = is.listed; neighbors = is.neighbors }) is.sound).neighbors is.sound)

pub checked_back : CheckedBackLaw
checked_back seen base table added names first ps marks regions rows faces readable sound some few there =
    check_of seen base table added names first marks regions rows faces (read_back checked_grid table added names first ps marks regions rows faces readable sound) there some few
