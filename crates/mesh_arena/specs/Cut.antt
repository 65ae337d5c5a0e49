-- How a cavity is cut out: the faces of its rim lose their neighbors, and its slots are freed.
use Rattle.std.specs.Prelude.{◌≡◌, ◌≢◌, ℕ, ◌-◌, ◌<◌, List, map, length, Option, None}
use Rattle.mesh_arena.specs.declared.cell.Cell.{Cell}
use Rattle.mesh_arena.specs.declared.slot.Slot.{Slot}
use Rattle.mesh_arena.specs.declared.slot.RimFace.{RimFace}
use Rattle.mesh_arena.specs.Mesh.{SlotValue, tet_at, corners_at, link_behind, IsShaped, Off}
use Rattle.mesh_arena.specs.Cells.{tet_of, IsCounted}
use Rattle.mesh_arena.specs.Star.{rim_at, face_side}
use Rattle.mesh_arena.specs.Cavity.{slot_at, IsInCavitySlots}

-- the slots of the cells
abbrev pub slots_in : List Cell → List (Option SlotValue)
slots_in cells = map tet_of cells

-- the first n faces of the rim have nothing behind them any more, and all else stays
pub record ClearsRim (old new : List Cell) (rim : List RimFace) (n : ℕ) : Type 0 where
  pub len : length new ≡ length old
  pub counted : (live next : ℕ) → IsCounted old live next → IsCounted new live next
  pub shaped : IsShaped (slots_in new)
  pub corners : (u : ℕ) → corners_at (slots_in new) u ≡ corners_at (slots_in old) u
  pub outer : (r : ℕ) → r < n → face_side (slots_in new) (rim_at rim r) ≡ None
  pub others : (u k : ℕ) → ((r : ℕ) → r < n → Off u k (rim_at rim r).slot.index (rim_at rim r).face)
      → link_behind (slots_in new) u k ≡ link_behind (slots_in old) u k

-- the first n slots are free, the last of them the first free one, and all else stays
pub record FreesCells (old new : List Cell) (cavity : List Slot) (n next first : ℕ) : Type 0 where
  pub len : length new ≡ length old
  pub counted : (live : ℕ) → IsCounted old live next → IsCounted new (live - n) first
  pub gone : (j : ℕ) → j < n → tet_at (slots_in new) (slot_at cavity j) ≡ None
  pub kept : (u : ℕ) → ((j : ℕ) → j < n → slot_at cavity j ≢ u) → tet_at (slots_in new) u ≡ tet_at (slots_in old) u

-- the slots of the cavity are free, the faces of its rim have no neighbor, and all else stays
pub record Cuts (old new : List (Option SlotValue)) (cavity : List Slot) (rim : List RimFace) : Type 0 where
  pub gone : (u : ℕ) → IsInCavitySlots cavity u → corners_at new u ≡ None
  pub kept : (u : ℕ) → (IsInCavitySlots cavity u → ⊥) → corners_at new u ≡ corners_at old u
  pub outer : (r : ℕ) → r < length rim → face_side new (rim_at rim r) ≡ None
  pub sides : (u k : ℕ) → (IsInCavitySlots cavity u → ⊥) → ((r : ℕ) → r < length rim
      → Off u k (rim_at rim r).slot.index (rim_at rim r).face)
      → link_behind new u k ≡ link_behind old u k
