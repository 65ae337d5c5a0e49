-- The value in contracts of the conflict zone of a point of the grid.
use Rattle.std.specs.Prelude.{ℕ, List, Option}
use Rattle.sign_predicates.specs.Point.{Point}
use Rattle.mesh_arena.specs.Mesh.{SlotValue}
use Rattle.mesh_laws.specs.Rule.{IsTaken}

-- the slots of a mesh, the points of its corners, and a new point with its number
pub record PointZoneValue : Type 0 where
  pub slots : List (Option SlotValue)
  pub points : List Point
  pub p : Point
  pub number : ℕ

abbrev pub zone_for : List (Option SlotValue) → List Point → Point → ℕ → PointZoneValue
zone_for slots ps p number = record { slots = slots; points = ps; p = p; number = number }

-- the slot is in the conflict zone of the point
abbrev pub IsInZone : PointZoneValue → ℕ → Type 0
IsInZone zone s = IsTaken zone.slots zone.points zone.p zone.number s
