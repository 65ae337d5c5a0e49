-- What point location asks of a lowest mesh, and surgery of the rim of a cavity that was grown there.
use Rattle.std.specs.Prelude.{ℕ, ◌<◌, ℤ, List, length, Option}
use Rattle.sign_predicates.specs.Point.{Point}
use Rattle.geo_laws.specs.Delaunay.{point}
use Rattle.insert_laws.specs.LowestInsertion.{IsNew}
use Rattle.mesh_arena.specs.Mesh.{SlotValue, IsLive, IsArenaMesh}
use Rattle.mesh_arena.specs.StarLinks.{ArePaired}
use Rattle.mesh_arena.specs.declared.slot.Slot.{Slot}
use Rattle.mesh_arena.specs.declared.slot.RimFace.{RimFace}
use Rattle.point_locate.specs.Place.{AreCornersOn, IsSomePlace}
use Rattle.mesh_laws.specs.LowestRule.{IsLowestTaken}
use Rattle.mesh_laws.specs.Reach.{Grown}
use Rattle.mesh_laws.specs.LowestLiving.{IsLowestMesh}
use Rattle.mesh_laws.specs.LowestLaws.{IsLowestWholeFrom}

-- The rim of a cavity with all that a new point takes is a closed surface: each edge of a face of it is that of exactly one other face,
-- where the point at infinity counts as a corner
abbrev pub LowestPairedLaw : Type 0
LowestPairedLaw = (lifts : ℕ → ℤ) (slots : List (Option SlotValue)) (ps : List Point) (ms : List ℕ) (p start : ℕ) (cavity : List Slot)
    (rim : List RimFace)
    → IsArenaMesh slots → IsLowestMesh lifts slots ps ms → IsNew ps ms p
    → Grown slots (IsLowestTaken lifts slots ps p) start cavity rim → IsLowestWholeFrom lifts slots ps p start → ArePaired slots rim

-- and it is not empty
abbrev pub LowestSomeRimLaw : Type 0
LowestSomeRimLaw = (lifts : ℕ → ℤ) (slots : List (Option SlotValue)) (ps : List Point) (ms : List ℕ) (p start : ℕ) (cavity : List Slot)
    (rim : List RimFace)
    → IsArenaMesh slots → IsLowestMesh lifts slots ps ms → IsNew ps ms p
    → Grown slots (IsLowestTaken lifts slots ps p) start cavity rim
    → IsLowestWholeFrom lifts slots ps p start → 0 < length rim

-- The corners of a lowest mesh are points of the list, and a new point is somewhere in it, if it has a slot
pub record LowestPlacedLaw : Type 0 where
  pub corners : (lifts : ℕ → ℤ) (slots : List (Option SlotValue)) (ps : List Point) (ms : List ℕ) → IsArenaMesh slots
      → IsLowestMesh lifts slots ps ms
      → AreCornersOn slots ps
  pub somewhere : (lifts : ℕ → ℤ) (slots : List (Option SlotValue)) (ps : List Point) (ms : List ℕ) (p start : ℕ) → IsArenaMesh slots
      → IsLowestMesh lifts slots ps ms → IsNew ps ms p → IsLive slots start → IsSomePlace slots ps (point ps p)
