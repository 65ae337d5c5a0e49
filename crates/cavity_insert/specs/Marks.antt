-- The marks of the slots of a cavity.
use Rattle.std.specs.Prelude.{◌≡◌, ℕ, List, Bool, true}
use Rattle.mesh_arena.specs.declared.slot.Slot.{Slot}
use Rattle.mesh_arena.specs.Cavity.{IsInCavitySlots}
use Rattle.geo_laws.specs.Marks.{is_marked}

-- just the slots of the cavity are marked
pub record AreMarksOf (cavity : List Slot) (marks : List Bool) : Type 0 where
  pub only : (u : ℕ) → is_marked marks u ≡ true → IsInCavitySlots cavity u
  pub all : (u : ℕ) → IsInCavitySlots cavity u → is_marked marks u ≡ true
