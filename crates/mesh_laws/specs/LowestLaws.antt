-- What the growth of a cavity finds in a lowest mesh.
use Rattle.std.specs.Prelude.{ℕ, ◌<◌, ℤ, List, ◌∷◌, length, Option}
use Rattle.sign_predicates.specs.Point.{Point}
use Rattle.geo_laws.specs.Delaunay.{point}
use Rattle.insert_laws.specs.LowestInsertion.{IsNew}
use Rattle.mesh_arena.specs.Mesh.{SlotValue, IsArenaMesh}
use Rattle.mesh_arena.specs.Replace.{IsCavity, IsRim, IsOffRim}
use Rattle.mesh_arena.specs.declared.slot.Corner.TheVariants.{Point as Numbered}
use Rattle.mesh_arena.specs.declared.slot.Slot.{Slot}
use Rattle.mesh_arena.specs.declared.slot.RimFace.{RimFace}
use Rattle.point_locate.specs.Place.{IsPlace}
use Rattle.point_locate.specs.declared.walk.Place.{Place}
use Rattle.point_locate.specs.declared.walk.Place.TheVariants.{Inside, Beyond}
use Rattle.mesh_laws.specs.LowestRule.{IsLowestTaken}
use Rattle.mesh_laws.specs.Reach.{Reach, Grown}
use Rattle.mesh_laws.specs.LowestLiving.{IsLowestMesh}

-- the slot of a place
abbrev pub slot_of : Place → ℕ
slot_of (Inside s) = s.index
slot_of (Beyond s) = s.index

-- the point takes the start, and each slot that it takes is reached from there
pub record IsLowestWholeFrom (lifts : ℕ → ℤ) (slots : List (Option SlotValue)) (ps : List Point) (p start : ℕ) : Type 0 where
  pub takes_start : IsLowestTaken lifts slots ps p start
  pub all : (u : ℕ) → IsLowestTaken lifts slots ps p u → Reach slots (IsLowestTaken lifts slots ps p) start u

-- From the place of a new point, if its slot is taken, the search finds all that the point takes
abbrev pub LowestCavityLaw : Type 0
LowestCavityLaw = (lifts : ℕ → ℤ) (slots : List (Option SlotValue)) (ps : List Point) (ms : List ℕ) (p : ℕ) → IsArenaMesh slots
    → IsLowestMesh lifts slots ps ms
    → IsNew ps ms p → (place : Place) → IsPlace slots ps (point ps p) place → IsLowestTaken lifts slots ps p (slot_of place)
    → IsLowestWholeFrom lifts slots ps p (slot_of place)

-- And if it is not taken, the point is hidden: the mesh is that with the point as it stands
abbrev pub HiddenPointLaw : Type 0
HiddenPointLaw = (lifts : ℕ → ℤ) (slots : List (Option SlotValue)) (ps : List Point) (ms : List ℕ) (p : ℕ) → IsArenaMesh slots
    → IsLowestMesh lifts slots ps ms
    → IsNew ps ms p → (place : Place) → IsPlace slots ps (point ps p) place → ¬ IsLowestTaken lifts slots ps p (slot_of place)
    → IsLowestMesh lifts slots ps (p ∷ ms)

-- what `replace_cavity` asks of a cavity and its rim, but that the rim's faces are paired
pub record IsCutOut (slots : List (Option SlotValue)) (cavity : List Slot) (rim : List RimFace) (p : ℕ) : Type 0 where
  pub is_cavity : IsCavity slots cavity
  pub is_rim : IsRim slots cavity rim
  pub is_off_rim : IsOffRim slots rim (Numbered p)

-- a cavity that was grown in a lowest mesh is cut out, if it has a rim
abbrev pub LowestCutOutLaw : Type 0
LowestCutOutLaw = (lifts : ℕ → ℤ) (slots : List (Option SlotValue)) (ps : List Point) (ms : List ℕ) (p start : ℕ) (cavity : List Slot)
    (rim : List RimFace)
    → IsArenaMesh slots → IsLowestMesh lifts slots ps ms → IsNew ps ms p
    → Grown slots (IsLowestTaken lifts slots ps p) start cavity rim → 0 < length rim → IsCutOut slots cavity rim p
