-- The text of a file determines what it has of a mesh.
use Rattle.std.specs.Prelude.{◌≡◌, ◌≢◌, ◌<◌, ◌^◌, ℕ, unsigned_abs, map, length, All, AllPairs}
use Rattle.mesh_files.specs.Laws.{AreInOneLine}
use Rattle.mesh_files.specs.Texts.{marked_corners}
use Rattle.solver_files.specs.Mesh.{Mesh, IsWritten, attribute_at, marker_tag, place_text, points_of, scalar_of, tet_tag}
use Rattle.solver_files.specs.Vtk.{vtk_text}
use Rattle.solver_files.specs.Msh.{msh_text}

-- a mesh whose names differ, whose numbers are those of machines, and whose attributes have no line feed in them
pub record IsTold (m : Mesh) : Type 0 where
  pub written : IsWritten m
  pub apart : AllPairs ◌≢◌ m.names
  pub names : All (λ n. n < 2 ^ 32) m.names
  pub few_rows : length m.rows < 2 ^ 32
  pub few_faces : length m.faces < 2 ^ 32
  pub markers : All (λ f. unsigned_abs f.marker < 2 ^ 63) m.faces
  pub lines : AreInOneLine m.regions

-- two meshes have the same coordinates, as they are printed, tetrahedra, faces with their markers, and attributes, as they are written
pub record AreOneVtk (m m' : Mesh) : Type 0 where
  pub places : map (place_text m) (points_of m) ≡ map (place_text m') (points_of m')
  pub rows : m.rows ≡ m'.rows
  pub faces : m.faces ≡ m'.faces
  pub attributes : (place : ℕ) → place < length m.rows → scalar_of (attribute_at m place) ≡ scalar_of (attribute_at m' place)

-- of meshes with the same names
abbrev pub VtkTextLaw : Type 0
VtkTextLaw = (m m' : Mesh) → IsTold m → IsTold m' → m.names ≡ m'.names → vtk_text m ≡ vtk_text m' → AreOneVtk m m'

-- two meshes have the same coordinates, as they are printed, tetrahedra and faces, and their groups have the same tags
pub record AreOneMsh (m m' : Mesh) : Type 0 where
  pub places : map (place_text m) (points_of m) ≡ map (place_text m') (points_of m')
  pub rows : m.rows ≡ m'.rows
  pub faces : map marked_corners m.faces ≡ map marked_corners m'.faces
  pub tags : (place : ℕ) → place < length m.rows → tet_tag m place ≡ tet_tag m' place
  pub markers : map (λ f. marker_tag f.marker) m.faces ≡ map (λ f. marker_tag f.marker) m'.faces

abbrev pub MshTextLaw : Type 0
MshTextLaw = (m m' : Mesh) → IsTold m → IsTold m' → m.names ≡ m'.names → msh_text m ≡ msh_text m' → AreOneMsh m m'
