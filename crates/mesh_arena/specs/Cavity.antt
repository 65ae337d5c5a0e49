-- The slots of a cavity.
use Rattle.std.specs.Prelude.{◌≡◌, ℕ, ◌<◌, List, length, slice_index_or}
use Rattle.mesh_arena.specs.declared.slot.Slot.{Slot}

-- the place of a slot on a list
abbrev pub slot_at : List Slot → ℕ → ℕ
slot_at cavity j = (slice_index_or cavity j (record { index = 0 })).index

pub record IsInCavitySlots (cavity : List Slot) (s : ℕ) : Type 0 where
  pub place : ℕ
  pub inside : place < length cavity
  pub is : slot_at cavity place ≡ s
