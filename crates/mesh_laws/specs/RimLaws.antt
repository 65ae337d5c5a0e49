-- What point location asks of a Delaunay mesh, and surgery of the rim of a cavity that was grown there.
use Rattle.std.specs.Prelude.{◌≢◌, ℕ, ◌<◌, List, length, Option, Contains}
use Rattle.sign_predicates.specs.Point.{Point}
use Rattle.geo_laws.specs.Delaunay.{point}
use Rattle.insert_laws.specs.Insertion.{IsNew}
use Rattle.mesh_arena.specs.Mesh.{SlotValue, IsLive, IsArenaMesh}
use Rattle.mesh_arena.specs.StarLinks.{ArePaired}
use Rattle.mesh_arena.specs.declared.slot.Slot.{Slot}
use Rattle.mesh_arena.specs.declared.slot.RimFace.{RimFace}
use Rattle.point_locate.specs.Place.{AreCornersOn, IsSomePlace}
use Rattle.mesh_laws.specs.Rule.{IsTaken}
use Rattle.mesh_laws.specs.Reach.{Grown}
use Rattle.mesh_laws.specs.Living.{IsDelaunayMesh}
use Rattle.mesh_laws.specs.Laws.{IsWholeFrom}

-- The rim of a cavity with all that a new point takes is a closed surface: each edge of a face of it is that of exactly one other face,
-- where the point at infinity counts as a corner
abbrev pub PairedLaw : Type 0
PairedLaw = (slots : List (Option SlotValue)) (ps : List Point) (ms : List ℕ) (p start : ℕ) (cavity : List Slot) (rim : List RimFace)
    → IsArenaMesh slots → IsDelaunayMesh slots ps ms → IsNew ps ms p
    → Grown slots (IsTaken slots ps (point ps p) p) start cavity rim → IsWholeFrom slots ps p start → ArePaired slots rim

-- and it is not empty, where the point is none of those there
abbrev pub SomeRimLaw : Type 0
SomeRimLaw = (slots : List (Option SlotValue)) (ps : List Point) (ms : List ℕ) (p start : ℕ) (cavity : List Slot) (rim : List RimFace)
    → IsArenaMesh slots → IsDelaunayMesh slots ps ms → IsNew ps ms p
    → ((i : ℕ) → Contains ms i → point ps i ≢ point ps p) → Grown slots (IsTaken slots ps (point ps p) p) start cavity rim
    → IsWholeFrom slots ps p start → 0 < length rim

-- The corners of a Delaunay mesh are points of the list, and a new point is somewhere in it, if it has a slot
pub record PlacedLaw : Type 0 where
  pub corners : (slots : List (Option SlotValue)) (ps : List Point) (ms : List ℕ) → IsArenaMesh slots → IsDelaunayMesh slots ps ms
      → AreCornersOn slots ps
  pub somewhere : (slots : List (Option SlotValue)) (ps : List Point) (ms : List ℕ) (p start : ℕ) → IsArenaMesh slots
      → IsDelaunayMesh slots ps ms → IsNew ps ms p → IsLive slots start → IsSomePlace slots ps (point ps p)

-- What `locate` asks holds for each point of the grid, from each live slot of a Delaunay mesh: the point is somewhere in it
abbrev pub SomewhereLaw : Type 0
SomewhereLaw = (slots : List (Option SlotValue)) (ps : List Point) (ms : List ℕ) (q : Point) (start : ℕ) → IsArenaMesh slots
    → IsDelaunayMesh slots ps ms → IsLive slots start → AreCornersOn slots ps × IsSomePlace slots ps q
