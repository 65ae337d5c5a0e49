-- What the growth of a cavity finds in a Delaunay mesh.
use Rattle.std.specs.Prelude.{◌≢◌, ℕ, ◌<◌, List, length, Option, Contains}
use Rattle.sign_predicates.specs.Point.{Point}
use Rattle.geo_laws.specs.Delaunay.{point}
use Rattle.insert_laws.specs.Insertion.{IsNew}
use Rattle.mesh_arena.specs.Mesh.{SlotValue, IsArenaMesh}
use Rattle.mesh_arena.specs.declared.slot.Slot.{Slot}
use Rattle.mesh_arena.specs.declared.slot.RimFace.{RimFace}
use Rattle.point_locate.specs.Place.{IsPlace}
use Rattle.point_locate.specs.declared.walk.Place.{Place}
use Rattle.mesh_laws.specs.Rule.{IsTaken}
use Rattle.mesh_laws.specs.Reach.{Reach, Grown}
pub use Rattle.mesh_laws.specs.LowestLaws.{slot_of, IsCutOut}
use Rattle.mesh_laws.specs.Living.{IsDelaunayMesh}

-- the point takes the start, and each slot that it takes is reached from there
pub record IsWholeFrom (slots : List (Option SlotValue)) (ps : List Point) (p start : ℕ) : Type 0 where
  pub takes_start : IsTaken slots ps (point ps p) p start
  pub all : (u : ℕ) → IsTaken slots ps (point ps p) p u → Reach slots (IsTaken slots ps (point ps p) p) start u

-- From the place of a new point, which is none of the points there, the search finds all that the point takes
abbrev pub CavityLaw : Type 0
CavityLaw = (slots : List (Option SlotValue)) (ps : List Point) (ms : List ℕ) (p : ℕ) → IsArenaMesh slots → IsDelaunayMesh slots ps ms
    → IsNew ps ms p → ((i : ℕ) → Contains ms i → point ps i ≢ point ps p)
    → (place : Place) → IsPlace slots ps (point ps p) place → IsWholeFrom slots ps p (slot_of place)

-- a cavity that was grown in a Delaunay mesh is cut out, if it has a rim
abbrev pub CutOutLaw : Type 0
CutOutLaw = (slots : List (Option SlotValue)) (ps : List Point) (ms : List ℕ) (p start : ℕ) (cavity : List Slot) (rim : List RimFace)
    → IsArenaMesh slots → IsDelaunayMesh slots ps ms → IsNew ps ms p
    → Grown slots (IsTaken slots ps (point ps p) p) start cavity rim → 0 < length rim → IsCutOut slots cavity rim p
