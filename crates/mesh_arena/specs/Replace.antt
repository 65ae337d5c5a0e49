-- The contract of `replace_cavity`.
use Rattle.std.specs.Prelude.{◌≡◌, ◌≢◌, ℕ, ◌<◌, ◌⊎◌, List, length, Option, Some, None, IsSome, slice_set, option_map}
use Rattle.mesh_arena.specs.declared.slot.Corner.{Corner}
use Rattle.mesh_arena.specs.declared.arena.SlotFace.{SlotFace}
use Rattle.mesh_arena.specs.declared.slot.Slot.{Slot}
use Rattle.mesh_arena.specs.declared.slot.RimFace.{RimFace}
use Rattle.mesh_arena.specs.Mesh.{SlotValue, corners_at, IsLive, link_behind, at, Off}
use Rattle.mesh_arena.specs.Star.{rim_at, face_side, behind_rim}
use Rattle.mesh_arena.specs.StarLinks.{OnRim}
use Rattle.mesh_arena.specs.Cavity.{slot_at, IsInCavitySlots}

-- the cavity lists different live slots
pub record IsCavity (slots : List (Option SlotValue)) (cavity : List Slot) : Type 0 where
  pub live : (j : ℕ) → j < length cavity → IsLive slots (slot_at cavity j)
  pub once : (i j : ℕ) → i < length cavity → j < length cavity → slot_at cavity i ≡ slot_at cavity j → i ≡ j

-- the rim is not empty and lists, each once, the faces of slots outside of the cavity whose neighbor is in it
pub record IsRim (slots : List (Option SlotValue)) (cavity : List Slot) (rim : List RimFace) : Type 0 where
  pub some : 0 < length rim
  pub outer : (r : ℕ) → r < length rim → IsInCavitySlots cavity (rim_at rim r).slot.index → ⊥
  pub has : (r : ℕ) → r < length rim → face_side slots (rim_at rim r) ≡ Some (behind_rim slots rim r)
  pub inner : (r : ℕ) → r < length rim → IsInCavitySlots cavity (behind_rim slots rim r).slot
  pub once : (r q : ℕ) → r < length rim → q < length rim → (rim_at rim r).slot.index ≡ (rim_at rim q).slot.index
      → (rim_at rim r).face ≡ (rim_at rim q).face → r ≡ q
  pub all : (u k : ℕ) (b : SlotFace) → link_behind slots u k ≡ Some b → (IsInCavitySlots cavity u → ⊥) → IsInCavitySlots cavity b.slot
      → (r : ℕ) × (r < length rim)
      × ((rim_at rim r).slot.index ≡ u) × ((rim_at rim r).face ≡ k)

-- no face of the rim has this corner
abbrev pub IsOffRim : List (Option SlotValue) → List RimFace → Corner → Type 0
IsOffRim slots rim p = (r : ℕ) → r < length rim → OnRim slots rim r p → ⊥

-- the slot over the face r, in a place that was free or the cavity's: it has the corners of the slot that was behind that face, p in place
-- of the corner opposite it, and four neighbors
pub record IsStarSlot (old new : List (Option SlotValue)) (cavity : List Slot) (rim : List RimFace) (p : Corner) (r : ℕ) : Type 0 where
  pub is : face_side new (rim_at rim r) ≡ Some (at (behind_rim new rim r).slot (behind_rim old rim r).face)
  pub fresh : IsLive old (behind_rim new rim r).slot → IsInCavitySlots cavity (behind_rim new rim r).slot
  pub corners : corners_at new (behind_rim new rim r).slot ≡ option_map
      (λ cs. slice_set cs (behind_rim old rim r).face p) (corners_at old (behind_rim old rim r).slot)
  pub linked : (k : ℕ) → k < 4 → IsSome (link_behind new (behind_rim new rim r).slot k)

-- the star of p over the rim took the place of the cavity; s is one slot of it
pub record Replaces (old new : List (Option SlotValue)) (cavity : List Slot) (rim : List RimFace) (p : Corner) (s : ℕ) : Type 0 where
  pub star : (r : ℕ) → r < length rim → IsStarSlot old new cavity rim p r
  pub apart : (r q : ℕ) → r < length rim → q < length rim → (behind_rim new rim r).slot ≡ (behind_rim new rim q).slot → r ≡ q
  pub gone : (u : ℕ) → IsInCavitySlots cavity u → ((r : ℕ) → r < length rim → (behind_rim new rim r).slot ≢ u) → corners_at new u ≡ None
  pub kept : (u : ℕ) → IsLive old u → (IsInCavitySlots cavity u → ⊥) → corners_at new u ≡ corners_at old u
  pub live : (u : ℕ) → IsLive new u → (IsLive old u × (IsInCavitySlots cavity u → ⊥))
      ⊎ ((r : ℕ) × (r < length rim) × ((behind_rim new rim r).slot ≡ u))
  pub sides : (u k : ℕ) → IsLive old u → (IsInCavitySlots cavity u → ⊥)
      → ((r : ℕ) → r < length rim → Off u k (rim_at rim r).slot.index (rim_at rim r).face) → link_behind new u k ≡ link_behind old u k
  pub answer : (r : ℕ) × (r < length rim) × ((behind_rim new rim r).slot ≡ s)
