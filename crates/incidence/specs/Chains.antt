-- Chains of a hash table of faces, by the sum of their corners.
use Rattle.std.specs.Prelude.{◌≡◌, ◌↔◌, ◌⊎◌, ℕ, ◌+◌, ◌/◌, ◌<◌, ◌≤◌, Bool, true, false, List, length, slice_index_or}
use Rattle.geo_laws.specs.Faces.{face_of}
use Rattle.geo_laws.specs.declared.faces.Face.{Face}
use Rattle.geo_laws.specs.declared.complex.FacetTriangle.{FacetTriangle}
use Rattle.geo_laws.specs.Marks.{is_marked}

-- the triangle as a face, its corners ascending
abbrev pub face_of_triangle : FacetTriangle → Face
face_of_triangle t = face_of t.a t.b t.c

-- the face at a place
abbrev pub face_at : List Face → ℕ → Face
face_at faces k = slice_index_or faces k (record { a = 0; b = 0; c = 0 })

-- the chain of a face: a quarter of the sum of its corners, so that even the faces round one point are spread over many
-- chains
unfoldable pub chain_of : Face → ℕ
chain_of f = (f.a + f.b + f.c) / 4

-- the face at a place is the first one from another place on in this chain, or it is the end of the list
pub record IsNextFace (faces : List Face) (chain from place : ℕ) : Type 0 where
  pub after : from ≤ place
  pub within : place ≤ length faces
  pub like : place < length faces → chain_of (face_at faces place) ≡ chain
  pub first : (k : ℕ) → from ≤ k → k < place → ¬ (chain_of (face_at faces k) ≡ chain)

-- each chain is linked to its first face from a place on, and each such face to the next one
pub record AreLinkedFaces (faces : List Face) (at : ℕ) (first next : List ℕ) : Type 0 where
  pub chains : (k : ℕ) → k < length faces → chain_of (face_at faces k) < length first
  pub links : length next ≡ length faces
  pub within : at ≤ length faces
  pub begins : (b d : ℕ) → b < length first → IsNextFace faces b at (slice_index_or first b d)
  pub follows : (i d : ℕ) → at ≤ i → i < length faces → IsNextFace faces (chain_of (face_at faces i)) (i + 1) (slice_index_or next i d)

-- the chains of all faces
abbrev pub AreChains : List Face → List ℕ → List ℕ → Type 0
AreChains faces first next = AreLinkedFaces faces 0 first next

-- each point that is the first corner of a face is marked
abbrev pub AreBegun : List Face → List Bool → Type 0
AreBegun faces begins = (k : ℕ) → k < length faces → is_marked begins ((face_at faces k).a) ≡ true

-- each place before one is marked exactly where it was, or where it has this face; from there on it is marked as it was
pub record AreMarkedTo (faces : List Face) (face : Face) (past : ℕ) (old new : List Bool) : Type 0 where
  pub long : length new ≡ length old
  pub before : (k : ℕ) → k < past → k < length faces → (is_marked new k ≡ true) ↔ ((is_marked old k ≡ true) ⊎ (face_at faces k ≡ face))
  pub rest : (k : ℕ) → past ≤ k → is_marked new k ≡ is_marked old k
