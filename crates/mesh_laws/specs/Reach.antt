-- The connected set of slots that a search from one finds, and its rim.
use Rattle.std.specs.Prelude.{◌≡◌, ℕ, ◌<◌, List, length, Option, Some}
use Rattle.mesh_arena.specs.declared.arena.SlotFace.{SlotFace}
use Rattle.mesh_arena.specs.declared.slot.Slot.{Slot}
use Rattle.mesh_arena.specs.declared.slot.RimFace.{RimFace}
use Rattle.mesh_arena.specs.Mesh.{SlotValue, IsLive, link_behind}
use Rattle.mesh_arena.specs.Star.{rim_at}
use Rattle.mesh_arena.specs.Cavity.{slot_at, IsInCavitySlots}

-- a slot that is reached from `start` over neighbors that the rule takes
pub data Reach (slots : List (Option SlotValue)) (rule : ℕ → Type 0) (start : ℕ) : ℕ → Type 0 where
  first : Reach slots rule start start
  next : (s k : ℕ) (b : SlotFace) → Reach slots rule start s → link_behind slots s k ≡ Some b → rule b.slot → Reach slots rule start b.slot

-- The cavity lists, each once, the slots that are reached, and the rim, each once, the faces of slots outside of it whose neighbor is in it
pub record Grown (slots : List (Option SlotValue)) (rule : ℕ → Type 0) (start : ℕ) (cavity : List Slot) (rim : List RimFace) : Type 0 where
  pub reached : (j : ℕ) → j < length cavity → Reach slots rule start (slot_at cavity j)
  pub taken : (j : ℕ) → j < length cavity → rule (slot_at cavity j)
  pub live : (j : ℕ) → j < length cavity → IsLive slots (slot_at cavity j)
  pub once : (j q : ℕ) → j < length cavity → q < length cavity → slot_at cavity j ≡ slot_at cavity q → j ≡ q
  pub all : (u : ℕ) → Reach slots rule start u → IsInCavitySlots cavity u
  pub outer : (r : ℕ) → r < length rim → IsInCavitySlots cavity (rim_at rim r).slot.index → ⊥
  pub inner : (r : ℕ) → r < length rim → (b : SlotFace) × (link_behind slots (rim_at rim r).slot.index (rim_at rim r).face ≡ Some b)
      × IsInCavitySlots cavity b.slot
  pub rim_once : (r q : ℕ) → r < length rim → q < length rim → (rim_at rim r).slot.index ≡ (rim_at rim q).slot.index
      → (rim_at rim r).face ≡ (rim_at rim q).face → r ≡ q
  pub rim_all : (u k : ℕ) (b : SlotFace) → link_behind slots u k ≡ Some b → (IsInCavitySlots cavity u → ⊥) → IsInCavitySlots cavity b.slot
      → (r : ℕ) × (r < length rim)
      × ((rim_at rim r).slot.index ≡ u) × ((rim_at rim r).face ≡ k)
