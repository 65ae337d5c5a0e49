-- The corners of rows by their places in a row, from 0, and the faces opposite them.
use Rattle.std.specs.Prelude.{ℕ, ◌≡◌, ◌<◌, List, map, Contains, Option, None, slice_index_or, if◌then◌else◌, ◌==◌}
use Rattle.geo_laws.specs.Faces.{face_of}
use Rattle.geo_laws.specs.declared.faces.Face.{Face}
use Rattle.geo_laws.specs.declared.tetrahedra.Tet.{Tet}
use Rattle.incidence.specs.declared.pairs.Across.{Across}
use Rattle.mesh_files.specs.declared.markers.FaceRow.{FaceRow}

-- the number of the point at a corner
abbrev pub point_in : Tet → ℕ → ℕ
point_in t k = if k == 0 then t.a else (if k == 1 then t.b else (if k == 2 then t.c else t.d))

-- the face opposite a corner
abbrev pub face_in : Tet → ℕ → Face
face_in t k =
    if k == 0 then face_of t.b t.c t.d else (if k == 1 then face_of t.a t.c t.d else
    (if k == 2 then face_of t.a t.b t.d else face_of t.a t.b t.c))

-- the neighbor across the face opposite a corner, if there is one
abbrev pub entry_in : Across → ℕ → Option ℕ
entry_in x k = if k == 0 then x.n0 else (if k == 1 then x.n1 else (if k == 2 then x.n2 else x.n3))

-- a listed face as a set of three numbers
abbrev pub face_listed : FaceRow → Face
face_listed f = face_of f.a f.b f.c

-- the face is one of the listed faces
abbrev pub IsListed : List FaceRow → Face → Type 0
IsListed faces f = Contains (map face_listed faces) f

-- the face of the row at a place in the list of faces
abbrev pub listed_face_at : List FaceRow → ℕ → Face
listed_face_at faces k = slice_index_or (map face_listed faces) k (record { a = 0; b = 0; c = 0 })

-- the face of s opposite its corner p is the face of t opposite its corner q
pub record IsShared (s t : Tet) (p q : ℕ) : Type 0 where
  pub corner : p < 4
  pub other : q < 4
  pub same : face_in s p ≡ face_in t q
