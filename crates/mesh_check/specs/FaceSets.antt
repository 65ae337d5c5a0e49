-- Sets of faces.
use Rattle.std.specs.Prelude.{ℕ, ◌↔◌, ◌==◌, ◌&&◌, Bool, IsTrue, List, Contains}
use Rattle.std.specs.HashSet.{HashSet, contains}
use Rattle.geo_laws.specs.declared.faces.Face.{Face}
use Rattle.mesh_check.specs.declared.face_set.FaceKey.{FaceKey}

abbrev pub key : Face → FaceKey
key f = record { a = f.a; b = f.b; c = f.c }

abbrev pub same_key : FaceKey → FaceKey → Bool
same_key p q = p.a == q.a && (p.b == q.b && p.c == q.c)

-- the face is in the set
abbrev pub HasFace : {S : Type 0} → HashSet FaceKey S → Face → Type 0
HasFace s f = IsTrue (contains same_key s (key f))

-- exactly these faces are in the set
abbrev pub HasExactly : {S : Type 0} → HashSet FaceKey S → List Face → Type 0
HasExactly s fs = (f : Face) → HasFace s f ↔ Contains fs f
