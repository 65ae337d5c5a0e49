-- The texts of a mesh without a defect, read back.
use Rattle.std.specs.Prelude.{◌≡◌, ℕ, ◌+◌, ◌≤◌, ◌<◌, unsigned_abs, List, ◌++◌, length, map, All, Option, Ok}
use Rattle.sign_predicates.specs.Point.{Point}
use Rattle.geo_laws.specs.Delaunay.{IsOn}
use Rattle.geo_laws.specs.declared.complex.Region.{Region}
use Rattle.geo_laws.specs.declared.tetrahedra.Tet.{Tet}
use Rattle.tet_text.specs.Lines.{content_lines}
use Rattle.incidence.specs.Pairs.{pairs_of}
use Rattle.incidence.specs.declared.pairs.Across.{Across}
use Rattle.mesh_files.specs.Texts.{ele_text_of, face_text, neigh_text}
use Rattle.mesh_files.specs.declared.markers.FaceRow.{FaceRow}
use Rattle.mesh_files.specs.ReadRows.{ele_of, face_list_of, neigh_of}
use Rattle.grid_coords.specs.Units.{limit}
use Rattle.node_files.specs.Node.{node_of}
use Rattle.node_files.specs.Writing.{node_text}
use Rattle.node_files.specs.declared.node_text.NodeText.{NodeText}
use Rattle.node_files.specs.declared.table.NodeTable.{NodeTable}
use Rattle.node_files.specs.LeastGrid.{least_grid_of, coarsest, point_on}
use Rattle.mesh_check.specs.Defects.{IsVerdict}
use Rattle.mesh_check.specs.declared.defect.Verdict.TheVariants.{Sound}
use Rattle.run_laws.specs.Renamed.{AreNamesIn}
use Rattle.run_laws.specs.WrittenMesh.{written_mesh}
use Rattle.run_laws.specs.NodeRead.{IsPlainTable, IsLegiblePoint}
use Rattle.run_laws.specs.Reread.{IsShortNumber, AreLegibleMarks}

-- A mesh whose texts can be read: points with the attributes and markers of a list that was read, each coordinate at most so large and with
-- at most 35 decimals; names of its points in the list of points that is written; rows with the attributes of regions or without them; and
-- numbers and markers of at most 18 digits
pub record IsReadable (wide : ℕ) (table : NodeTable) (added : List Point) (names : List ℕ) (first : ℕ) (ps : List Point)
    (marks : Option (List (Option ℕ))) (regions : List Region) (rows : List Tet) (faces : List FaceRow) : Type 0 where
  pub on_grid : wide ≤ limit
  pub plain : IsPlainTable table
  pub attributed : AreLegibleMarks regions marks
  pub legible : All (IsLegiblePoint wide table.grid) (table.listed ++ added)
  pub one : first ≤ 1
  pub named : AreNamesIn names ps (table.listed ++ added)
  pub within : All (λ n. n < length (table.listed ++ added)) names
  pub on : All (IsOn ps) rows
  pub points_short : IsShortNumber (first + length (table.listed ++ added))
  pub rows_short : IsShortNumber (first + length rows)
  pub faces_short : IsShortNumber (first + length faces)
  pub markers_short : All (λ f. IsShortNumber (unsigned_abs f.marker)) faces

-- what the texts of a mesh are read as: points with coordinates at most so large on their least grid, and rows, faces and neighbors among
-- which there is no defect
pub record AreReadSound (wide : ℕ) (table : NodeTable) (added : List Point) (names : List ℕ) (first : ℕ)
    (marks : Option (List (Option ℕ))) (regions : List Region) (rows : List Tet) (faces : List FaceRow) : Type 0 where
  pub points : NodeText
  pub tetrahedra : List Tet
  pub listed : List FaceRow
  pub neighbors : List Across
  pub node_read : (total : ℕ) → node_of total (content_lines (node_text table added first)) ≡ Ok points
  pub numbered : 0 < length (table.listed ++ added) → points.first ≡ first
  pub points_long : length points.decimals ≡ length (table.listed ++ added)
  pub rows_long : length tetrahedra ≡ length rows
  pub fits : least_grid_of wide points.decimals ≡ Ok (coarsest points.decimals)
  pub ele_read : (total : ℕ)
      → ele_of first (length points.decimals) total (content_lines (ele_text_of marks regions names first rows)) ≡ Ok tetrahedra
  pub face_read : (total : ℕ) → face_list_of first (length points.decimals) total (content_lines (face_text names first faces)) ≡ Ok listed
  pub neigh_read : (total : ℕ) → neigh_of first total (content_lines (neigh_text first (pairs_of rows))) ≡ Ok neighbors
  pub sound : IsVerdict (record {
    points = map
        (point_on (coarsest points.decimals)) points.decimals;
    rows = tetrahedra;
    faces = listed;
    neighbors = neighbors;
  }) Sound

-- The texts of a mesh without a defect are read back as one without a defect
abbrev pub ReadBackLaw : Type 0
ReadBackLaw = (wide : ℕ) (table : NodeTable) (added : List Point) (names : List ℕ) (first : ℕ) (ps : List Point)
    (marks : Option (List (Option ℕ))) (regions : List Region) (rows : List Tet) (faces : List FaceRow)
    → IsReadable wide table added names first ps marks regions rows faces
    → IsVerdict (written_mesh ps rows faces) Sound → AreReadSound wide table added names first marks regions rows faces
