-- The invariant of the search for a cavity.
use Rattle.std.specs.Prelude.{◌≡◌, ℕ, ◌<◌, ◌⊎◌, List, length, Option, Some, bit_xor, slice_index_or}
use Rattle.mesh_arena.specs.declared.arena.SlotFace.{SlotFace}
use Rattle.mesh_arena.specs.declared.slot.Slot.{Slot}
use Rattle.mesh_arena.specs.declared.slot.RimFace.{RimFace}
use Rattle.mesh_arena.specs.Mesh.{SlotValue, IsLive, link_behind, at}
use Rattle.mesh_arena.specs.Star.{rim_at}
use Rattle.mesh_arena.specs.Cavity.{slot_at, IsInCavitySlots}
use Rattle.mesh_laws.specs.Reach.{Reach}

-- the face through which the slot in a place of the cavity was entered
abbrev pub entry_at : List ℕ → ℕ → ℕ
entry_at entries j = slice_index_or entries j 0

-- the turn in which a face of a slot is looked over: the face through which the slot was entered comes first
abbrev pub face_turn : ℕ → ℕ → ℕ
face_turn entry m = bit_xor entry m

-- the face m of the slot j comes before the turn k of the slot i, which was entered through this face
abbrev pub Before : ℕ → ℕ → ℕ → ℕ → ℕ → Type 0
Before i entry k j m = (j < i) ⊎ ((j ≡ i) × (face_turn entry m < k))

-- each slot was entered through one of its faces, and behind it, but for the first slot, stands a slot of the cavity
pub record AreEntered (slots : List (Option SlotValue)) (cavity : List Slot) (entries : List ℕ) : Type 0 where
  pub many : length entries ≡ length cavity
  pub faces : (j : ℕ) → j < length cavity → entry_at entries j < 4
  pub inner : (j : ℕ) (b : SlotFace) → 0 < j → j < length cavity → link_behind slots (slot_at cavity j) (entry_at entries j) ≡ Some b
      → IsInCavitySlots cavity b.slot

-- a face of the rim: behind it stands the face m of the slot j
pub record BordersCavity (slots : List (Option SlotValue)) (rule : ℕ → Type 0) (cavity : List Slot) (i entry k : ℕ)
    (f : RimFace) : Type 0 where
  pub slot : ℕ
  pub face : ℕ
  pub inside : slot < length cavity
  pub before : Before i entry k slot face
  pub is : link_behind slots (slot_at cavity slot) face ≡ Some (at f.slot.index f.face)
  pub out : rule f.slot.index → ⊥

-- the face is on the rim
pub record IsRimListed (rim : List RimFace) (b : SlotFace) : Type 0 where
  pub place : ℕ
  pub inside : place < length rim
  pub slot : (rim_at rim place).slot.index ≡ b.slot
  pub face : (rim_at rim place).face ≡ b.face

-- the search has come to the turn k of the slot i of the cavity, which was entered through this face
pub record Growing (slots : List (Option SlotValue)) (rule : ℕ → Type 0) (start : ℕ) (cavity : List Slot) (rim : List RimFace)
    (i entry k : ℕ) : Type 0 where
  pub begun : IsInCavitySlots cavity start
  pub reached : (j : ℕ) → j < length cavity → Reach slots rule start (slot_at cavity j)
  pub taken : (j : ℕ) → j < length cavity → rule (slot_at cavity j)
  pub live : (j : ℕ) → j < length cavity → IsLive slots (slot_at cavity j)
  pub once : (j q : ℕ) → j < length cavity → q < length cavity → slot_at cavity j ≡ slot_at cavity q → j ≡ q
  pub seen : (j m : ℕ) (b : SlotFace) → j < length cavity → Before i entry k j m → link_behind slots (slot_at cavity j) m ≡ Some b
      → IsInCavitySlots cavity b.slot
      ⊎ IsRimListed rim b
  pub borders : (r : ℕ) → r < length rim → BordersCavity slots rule cavity i entry k (rim_at rim r)
  pub rim_once : (r q : ℕ) → r < length rim → q < length rim → (rim_at rim r).slot.index ≡ (rim_at rim q).slot.index
      → (rim_at rim r).face ≡ (rim_at rim q).face → r ≡ q
