-- The value in contracts of a search for the conflict zone of a further point.
use Rattle.std.specs.Prelude.{ℕ, List, Option}
use Rattle.mesh_arena.specs.Mesh.{SlotValue}

-- the slots of a mesh of lifted points, the points with their heights, and the number of a further one
pub record SearchValue (H : Type 0) : Type 0 where
  pub slots : List (Option SlotValue)
  pub lift : H
  pub p : ℕ

abbrev pub search_for : {H : Type 0} → List (Option SlotValue) → H → ℕ → SearchValue H
search_for slots lift p = record { slots = slots; lift = lift; p = p }
