-- The texts that report a check. Rows, faces and corners' points are numbered as in the files, from the number of the
-- first point.
use Rattle.std.specs.Prelude.{ℕ, ◌+◌, List, ◌++◌, ◌∷◌, [], codes}
use Rattle.std.specs.Fmt.{decimal}
use Rattle.mesh_check.specs.declared.defect.Defect.{Defect}
use Rattle.mesh_check.specs.declared.defect.Defect.TheVariants.{NotPositive, SameSide, NeighborCount, WrongNeighbor, Stray, Unlisted, Bent}

-- the text on one tetrahedron, and on two
abbrev pub row_text : ℕ → ℕ → List ℕ
row_text first row = codes "row " ++ decimal (row + first)

abbrev pub two_rows_text : ℕ → ℕ → ℕ → List ℕ
two_rows_text first one two = codes "rows " ++ decimal (one + first) ++ codes " and " ++ decimal (two + first)

-- what the defect is
abbrev pub defect_told : ℕ → Defect → List ℕ
defect_told first (NotPositive row) = row_text first row ++ codes " is not positive"
defect_told first (SameSide one two) = two_rows_text first one two ++ codes " lie on one side of a face"
defect_told first NeighborCount = codes "neighbor rows miscounted"
defect_told first (WrongNeighbor row corner) = row_text first row ++ codes " has a wrong neighbor"
defect_told first (Stray face) = codes "face " ++ decimal (face + first) ++ codes " belongs to no row"
defect_told first (Unlisted row corner) = row_text first row ++ codes " has an unlisted face"
defect_told first (Bent one two) = two_rows_text first one two ++ codes " are not locally Delaunay"

-- behind the word that says what it is
abbrev pub defect_text : ℕ → Defect → List ℕ
defect_text first defect = codes "defect: " ++ defect_told first defect

-- the line on a sound mesh with its number of tetrahedra
abbrev pub sound_line : ℕ → List ℕ
sound_line count = codes "sound: " ++ decimal count ++ codes " tetrahedra" ++ (10 ∷ [])
