-- The faces of a mesh's ghosts.
use Rattle.std.specs.Prelude.{◌≡◌, ℕ, ◌<◌, List, Option, Contains}
use Rattle.sign_predicates.specs.Point.{Point}
use Rattle.geo_laws.specs.Delaunay.{all_numbers}
use Rattle.geo_laws.specs.Faces.{face_of}
use Rattle.geo_laws.specs.OrientedFace.{Face as Oriented}
use Rattle.geo_laws.specs.declared.faces.Face.{Face}
use Rattle.geo_laws.specs.declared.tetrahedra.Tet.{Tet as Row}
use Rattle.mesh_arena.specs.Mesh.{SlotValue}
use Rattle.mesh_laws.specs.Living.{face_off, IsGhostSlot}

-- the corners of a face, ascending
abbrev pub ascending : Oriented → Face
ascending f = face_of f.a f.b f.c

-- the slot is the ghost over this face
pub record IsOverFace (slots : List (Option SlotValue)) (ps : List Point) (s : ℕ) (f : Face) : Type 0 where
  pub four : Row
  pub place : ℕ
  pub ghost : IsGhostSlot slots ps (all_numbers ps) s four place
  pub is : f ≡ ascending (face_off four place)

-- these are the faces under the ghosts among the first n slots
pub record AreFacesBelow (slots : List (Option SlotValue)) (ps : List Point) (faces : List Face) (n : ℕ) : Type 0 where
  pub from : (f : Face) → Contains faces f → (s : ℕ) × IsOverFace slots ps s f
  pub to : (s : ℕ) (f : Face) → s < n → IsOverFace slots ps s f → Contains faces f
