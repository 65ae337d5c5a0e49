-- The defects of a mesh that is read, and the order in which they are reported.
use Rattle.std.specs.Prelude.{◌≡◌, ◌≢◌, ◌⊎◌, ℕ, ◌<◌, ℤ, pos, ◌<ℤ◌, List, length, Contains, Option, Some, None}
use Rattle.sign_predicates.specs.Point.{Point}
use Rattle.sign_predicates.specs.Orientation.{IsPositive, Triangle, side}
use Rattle.sign_predicates.specs.Sphere.{in_sphere}
use Rattle.geo_laws.specs.Delaunay.{point, corners, row_at}
use Rattle.geo_laws.specs.Faces.{faces_of_rows}
use Rattle.geo_laws.specs.declared.faces.Face.{Face}
use Rattle.geo_laws.specs.declared.tetrahedra.Tet.{Tet}
use Rattle.incidence.specs.Pairs.{partner, pairs_of, across_at}
use Rattle.incidence.specs.declared.pairs.Across.{Across}
use Rattle.mesh_files.specs.declared.markers.FaceRow.{FaceRow}
use Rattle.mesh_check.specs.Corners.{point_in, face_in, entry_in, listed_face_at, IsListed, IsShared}
use Rattle.mesh_check.specs.declared.defect.Defect.{Defect}
use Rattle.mesh_check.specs.declared.defect.Defect.TheVariants.{NotPositive, SameSide, NeighborCount, WrongNeighbor, Stray, Unlisted, Bent}
use Rattle.mesh_check.specs.declared.defect.Verdict.{Verdict}
use Rattle.mesh_check.specs.declared.defect.Verdict.TheVariants.{Sound, Fault}

-- a mesh that is read: its points, its tetrahedra, the listed faces, and the listed neighbors of each tetrahedron
pub record ReadMesh : Type 0 where
  pub points : List Point
  pub rows : List Tet
  pub faces : List FaceRow
  pub neighbors : List Across

-- the listed neighbors, or, where none are listed, the neighbors by the tetrahedra themselves
abbrev pub neighbors_or : List Tet → Option (List Across) → List Across
neighbors_or rows None = pairs_of rows
neighbors_or rows (Some neighbors) = neighbors

-- ---- the defects

-- the tetrahedron at a place is not positively oriented
abbrev pub IsNotPositive : List Point → List Tet → ℕ → Type 0
IsNotPositive ps rows i = (i < length rows) × ¬ IsPositive (corners ps (row_at rows i))

-- one number above 0 and one below it
abbrev pub AreOppositeSigns : ℤ → ℤ → Type 0
AreOppositeSigns x y = (pos 0 <ℤ x) × (y <ℤ pos 0) ⊎ (x <ℤ pos 0) × (pos 0 <ℤ y)

-- on which side of a face, whose numbers ascend, the point with a number lies
abbrev pub point_side : List Point → Face → ℕ → ℤ
point_side ps f e = side (record { a = point ps f.a; b = point ps f.b; c = point ps f.c }) (point ps e)

-- The tetrahedra share a face, and the corners opposite it lie on one side of it: not strictly on different sides.
-- Where the tetrahedra are positive, neither corner is on the face's plane
abbrev pub LieOnOneSide : List Point → Tet → Tet → Type 0
LieOnOneSide ps s t =
    (p : ℕ) × (q : ℕ) × IsShared s t p q × ¬ AreOppositeSigns (point_side ps (face_in s p) (point_in s p))
    (point_side ps (face_in t q) (point_in t q))

abbrev pub IsSameSide : List Point → List Tet → ℕ → ℕ → Type 0
IsSameSide ps rows i j = (i < j) × (j < length rows) × LieOnOneSide ps (row_at rows i) (row_at rows j)

-- the listed neighbor across the face opposite a corner is not the other tetrahedron that has the face, or not none
abbrev pub IsWrongNeighbor : List Tet → List Across → ℕ → ℕ → Type 0
IsWrongNeighbor rows neighbors i k =
    (i < length rows) × (k < 4) × (entry_in (across_at neighbors i) k ≢ partner rows i (face_in (row_at rows i) k))

-- a listed face is a face of no tetrahedron
abbrev pub IsStray : List Tet → List FaceRow → ℕ → Type 0
IsStray rows faces k = (k < length faces) × ¬ Contains (faces_of_rows rows) (listed_face_at faces k)

-- no other tetrahedron has the face opposite a corner, and the face is not listed
abbrev pub IsUnlisted : List Tet → List FaceRow → ℕ → ℕ → Type 0
IsUnlisted rows faces i k =
    (i < length rows) × (k < 4) × (partner rows i (face_in (row_at rows i) k) ≡ None) × ¬ IsListed faces (face_in (row_at rows i) k)

-- the tetrahedra share a face that is not listed, and the further corner of the second is strictly inside the
-- circumsphere of the first
abbrev pub AreBentAt : List Point → List FaceRow → Tet → Tet → Type 0
AreBentAt ps faces s t =
    (p : ℕ) × (q : ℕ) × IsShared s t p q × ¬ IsListed faces (face_in s p) × (pos 0 <ℤ in_sphere (corners ps s) (point ps (point_in t q)))

abbrev pub IsBent : List Point → List Tet → List FaceRow → ℕ → ℕ → Type 0
IsBent ps rows faces i j = (i < j) × (j < length rows) × AreBentAt ps faces (row_at rows i) (row_at rows j)

-- the mesh has the defect
abbrev pub HasDefect : ReadMesh → Defect → Type 0
HasDefect m (NotPositive i) = IsNotPositive m.points m.rows i
HasDefect m (SameSide i j) = IsSameSide m.points m.rows i j
HasDefect m NeighborCount = length m.neighbors ≢ length m.rows
HasDefect m (WrongNeighbor i k) = IsWrongNeighbor m.rows m.neighbors i k
HasDefect m (Stray k) = IsStray m.rows m.faces k
HasDefect m (Unlisted i k) = IsUnlisted m.rows m.faces i k
HasDefect m (Bent i j) = IsBent m.points m.rows m.faces i j

-- ---- their order: first by kind, then by rising numbers

abbrev pub kind_of : Defect → ℕ
kind_of (NotPositive i) = 0
kind_of (SameSide i j) = 1
kind_of NeighborCount = 2
kind_of (WrongNeighbor i k) = 3
kind_of (Stray k) = 4
kind_of (Unlisted i k) = 5
kind_of (Bent i j) = 6

abbrev pub numbers_of : Defect → ℕ × ℕ
numbers_of (NotPositive i) = (i, 0)
numbers_of (SameSide i j) = (i, j)
numbers_of NeighborCount = (0, 0)
numbers_of (WrongNeighbor i k) = (i, k)
numbers_of (Stray k) = (k, 0)
numbers_of (Unlisted i k) = (i, k)
numbers_of (Bent i j) = (i, j)

abbrev pub PairBefore : ℕ × ℕ → ℕ × ℕ → Type 0
PairBefore p q = (p.0 < q.0) ⊎ (p.0 ≡ q.0) × (p.1 < q.1)

abbrev pub IsToldBefore : Defect → Defect → Type 0
IsToldBefore d e = (kind_of d < kind_of e) ⊎ (kind_of d ≡ kind_of e) × PairBefore (numbers_of d) (numbers_of e)

-- ---- the verdict

-- the mesh has the defect, and none that comes before it
pub record IsFirstDefect (m : ReadMesh) (d : Defect) : Type 0 where
  pub has : HasDefect m d
  pub first : (e : Defect) → IsToldBefore e d → ¬ HasDefect m e

-- sound exactly where there is no defect, else the first one
abbrev pub IsVerdict : ReadMesh → Verdict → Type 0
IsVerdict m Sound = (d : Defect) → ¬ HasDefect m d
IsVerdict m (Fault d) = IsFirstDefect m d
