-- What surgery makes of a lowest mesh, and what else leaves it one.
use Rattle.std.specs.Prelude.{◌↔◌, ℕ, List, ◌∷◌, Option, Contains, ℤ}
use Rattle.sign_predicates.specs.Point.{Point}
use Rattle.geo_laws.specs.Height.{IsLowestAmong}
use Rattle.geo_laws.specs.declared.tetrahedra.Tet.{Tet as Row}
use Rattle.insert_laws.specs.LowestInsertion.{IsNew}
use Rattle.mesh_arena.specs.Mesh.{SlotValue, IsArenaMesh}
use Rattle.mesh_arena.specs.Cavity.{IsInCavitySlots}
use Rattle.mesh_arena.specs.Replace.{Replaces}
use Rattle.mesh_arena.specs.declared.slot.Corner.TheVariants.{Point as Numbered}
use Rattle.mesh_arena.specs.declared.slot.Slot.{Slot}
use Rattle.mesh_arena.specs.declared.slot.RimFace.{RimFace}
use Rattle.mesh_laws.specs.LowestRule.{IsLowestTaken}
use Rattle.mesh_laws.specs.Reach.{Grown}
use Rattle.mesh_laws.specs.LowestLiving.{IsLowestMesh}

-- Where the cavity has all slots that the new point takes, the star in place of it makes the lowest mesh with that point. (That some
-- tetrahedron is there says that the points aren't all coplanar.)
abbrev pub LowestReplacedLaw : Type 0
LowestReplacedLaw = (lifts : ℕ → ℤ) (old new : List (Option SlotValue)) (ps : List Point) (ms : List ℕ) (p start : ℕ) (cavity : List Slot)
    (rim : List RimFace)
    (s : ℕ) → IsArenaMesh old → IsArenaMesh new → IsLowestMesh lifts old ps ms → IsNew ps ms p
    → (some : Row) → IsLowestAmong ps ms lifts some → Grown old (IsLowestTaken lifts old ps p) start cavity rim
    → ((u : ℕ) → IsLowestTaken lifts old ps p u → IsInCavitySlots cavity u)
    → Replaces old new cavity rim (Numbered p) s → IsLowestMesh lifts new ps (p ∷ ms)

-- the order of the numbers doesn't matter
abbrev pub LowestSameMeshLaw : Type 0
LowestSameMeshLaw = (lifts : ℕ → ℤ) (slots : List (Option SlotValue)) (ps : List Point) (ms ks : List ℕ) → IsLowestMesh lifts slots ps ms
    → ((i : ℕ) → Contains ms i ↔ Contains ks i) → IsLowestMesh lifts slots ps ks
