-- What the texts of a mesh of second order determine, and that midpoints are where they are said to be.
use Rattle.std.specs.Prelude.{◌≡◌, ◌≢◌, ℕ, ◌<◌, ◌^◌, length, AllPairs, Contains, HoldsAt}
use Rattle.geo_laws.specs.Faces.{AreSidesOf, sides_of_rows}
use Rattle.geo_laws.specs.declared.faces.Side.{Side}
use Rattle.solver_files.specs.Laws.{AreOneMsh, AreOneVtk, IsTold}
use Rattle.solver_files.specs.Second.{Second, place_of}
use Rattle.solver_files.specs.SecondTexts.{second_ele_text, second_face_text, second_msh_text, second_vtk_text}

-- Each edge of a tetrahedron stands at its place alone, so that the number of its midpoint is that of one point; and each edge with a
-- midpoint is one of a tetrahedron
pub record HasMiddles (m : Second) : Type 0 where
  pub places : (s : Side) → Contains (sides_of_rows m.mesh.rows) s → HoldsAt (λ t. t ≡ s) m.sides (place_of m.sides s)
  pub once : AllPairs ◌≢◌ m.sides
  pub only : (s : Side) → Contains m.sides s → Contains (sides_of_rows m.mesh.rows) s

abbrev pub MiddleLaw : Type 0
MiddleLaw = (m : Second) → AreSidesOf m.mesh.rows m.sides → HasMiddles m

-- a mesh that is told by its texts, with its edges, fewer than 2^62
pub record IsSecondTold (m : Second) : Type 0 where
  pub told : IsTold m.mesh
  pub sides : AreSidesOf m.mesh.rows m.sides
  pub few_sides : length m.sides < 2 ^ 62

-- two such meshes with the same names
pub record AreTold (m m' : Second) : Type 0 where
  pub one : IsSecondTold m
  pub other : IsSecondTold m'
  pub names : m.mesh.names ≡ m'.mesh.names

-- have the same tetrahedra where their `.ele` texts are the same
abbrev pub SecondEleLaw : Type 0
SecondEleLaw = (m m' : Second) (first : ℕ) → first < 2 ^ 32 → AreTold m m'
    → second_ele_text m first ≡ second_ele_text m' first → m.mesh.rows ≡ m'.mesh.rows

-- the same faces with their markers where their `.face` texts are
abbrev pub SecondFaceLaw : Type 0
SecondFaceLaw = (m m' : Second) (first : ℕ) → first < 2 ^ 32 → AreTold m m'
    → second_face_text m first ≡ second_face_text m' first → m.mesh.faces ≡ m'.mesh.faces

abbrev pub SecondVtkLaw : Type 0
SecondVtkLaw = (m m' : Second) → AreTold m m' → second_vtk_text m ≡ second_vtk_text m' → AreOneVtk m.mesh m'.mesh

abbrev pub SecondMshLaw : Type 0
SecondMshLaw = (m m' : Second) → AreTold m m' → second_msh_text m ≡ second_msh_text m' → AreOneMsh m.mesh m'.mesh
