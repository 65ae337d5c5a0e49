-- Tetrahedra that share an unlisted face and are bent there: not locally Delaunay, ties left open.
use Rattle.std.specs.Prelude.{◌≡◌, ℕ, ◌<◌, pos, ◌<ℤ◌, List, Some}
use Rattle.std.specs.HashSet.{HashSet}
use Rattle.sign_predicates.specs.Point.{Point}
use Rattle.sign_predicates.specs.Sphere.{in_sphere}
use Rattle.geo_laws.specs.Delaunay.{point, corners, row_at}
use Rattle.geo_laws.specs.declared.tetrahedra.Tet.{Tet}
use Rattle.incidence.specs.declared.pairs.Across.{Across}
use Rattle.mesh_check.specs.Corners.{face_in, point_in, entry_in}
use Rattle.mesh_check.specs.FaceSets.{HasFace}
use Rattle.mesh_check.specs.declared.face_set.FaceKey.{FaceKey}

-- the faces opposite two corners are one face that is not in the set, and the second corner is strictly inside the
-- circumsphere of the first tetrahedron
abbrev pub IsBentOnce : {S : Type 0} → List Point → HashSet FaceKey S → Tet → Tet → ℕ → ℕ → Type 0
IsBentOnce ps listed s t p q =
    (face_in s p ≡ face_in t q) × (¬ HasFace listed (face_in s p)) × (pos 0 <ℤ in_sphere (corners ps s) (point ps (point_in t q)))

-- s and t are bent across the face of s opposite its corner p, with some corner of t opposite
abbrev pub IsBentFrom : {S : Type 0} → List Point → HashSet FaceKey S → Tet → Tet → ℕ → Type 0
IsBentFrom ps listed s t p = (q : ℕ) × (q < 4) × IsBentOnce ps listed s t p q

-- s and t are bent across some face of s
abbrev pub AreBentIn : {S : Type 0} → List Point → HashSet FaceKey S → Tet → Tet → Type 0
AreBentIn ps listed s t = (p : ℕ) × (p < 4) × IsBentFrom ps listed s t p

-- the tetrahedron at place j is a later one, across the face opposite a corner, and the two are bent
abbrev pub IsBentAcross : {S : Type 0} → List Point → HashSet FaceKey S → List Tet → ℕ → Across → ℕ → ℕ → Type 0
IsBentAcross ps listed rows i x k j = (entry_in x k ≡ Some j) × (i < j) × AreBentIn ps listed (row_at rows i) (row_at rows j)

-- a later row is bent with the row at a place across the face opposite one of its first n corners
abbrev pub MeetsBent : {S : Type 0} → List Point → HashSet FaceKey S → List Tet → ℕ → Across → ℕ → ℕ → Type 0
MeetsBent ps listed rows i x n j = (k : ℕ) × (k < n) × IsBentAcross ps listed rows i x k j
