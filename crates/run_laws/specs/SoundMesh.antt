-- What a mesh without a defect is.
use Rattle.std.specs.Prelude.{◌≡◌, ◌↔◌, ℕ, pos, ◌≤ℤ◌, List, All, AllPairs, Contains}
use Rattle.sign_predicates.specs.Point.{Point}
use Rattle.sign_predicates.specs.Sphere.{in_sphere}
use Rattle.geo_laws.specs.Delaunay.{point, corners}
use Rattle.geo_laws.specs.Faces.{faces_of_rows, IsOfOneRow}
use Rattle.geo_laws.specs.declared.faces.Face.{Face}
use Rattle.geo_laws.specs.declared.tetrahedra.Tet.{Tet}
use Rattle.incidence.specs.Pairs.{pairs_of}
use Rattle.mesh_files.specs.declared.markers.FaceRow.{FaceRow}
use Rattle.crossing_laws.specs.Crossing.{AreApart}
use Rattle.mesh_check.specs.Corners.{point_in, face_in, face_listed, IsListed, IsShared}
use Rattle.mesh_check.specs.Defects.{ReadMesh, HasDefect, IsVerdict}
use Rattle.mesh_check.specs.declared.defect.Defect.TheVariants.{NotPositive, SameSide}
use Rattle.mesh_check.specs.declared.defect.Verdict.TheVariants.{Sound}

-- across a common face that is not listed, the further corner of the second row is not strictly inside the sphere round the first
abbrev pub AreDelaunayAcross : List Point → List FaceRow → Tet → Tet → Type 0
AreDelaunayAcross ps faces s t =
    (p q : ℕ) → IsShared s t p q → ¬ IsListed faces (face_in s p) → in_sphere (corners ps s) (point ps (point_in t q)) ≤ℤ pos 0

-- a mesh whose neighbors and faces are those of its rows
pub record IsSoundMesh (m : ReadMesh) : Type 0 where
  -- the rows are positive, and two with a common face lie on different sides of it
  pub apart : AreApart m.points m.rows
  pub neighbors : m.neighbors ≡ pairs_of m.rows
  pub of_rows : All (λ f. Contains (faces_of_rows m.rows) (face_listed f)) m.faces
  pub hull_listed : (f : Face) → IsOfOneRow m.rows f → IsListed m.faces f
  pub locally_delaunay : AllPairs (AreDelaunayAcross m.points m.faces) m.rows

-- Without the first two kinds of defects the rows are apart
abbrev pub RowsApartLaw : Type 0
RowsApartLaw = (m : ReadMesh) → ((i : ℕ) → ¬ HasDefect m (NotPositive i)) → ((i j : ℕ) → ¬ HasDefect m (SameSide i j))
    → AreApart m.points m.rows

-- A mesh has no defect exactly where it is sound
abbrev pub SoundMeshLaw : Type 0
SoundMeshLaw = (m : ReadMesh) → IsVerdict m Sound ↔ IsSoundMesh m
