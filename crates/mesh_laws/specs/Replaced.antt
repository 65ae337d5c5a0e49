-- What surgery makes of a Delaunay mesh, and what else leaves it one.
use Rattle.std.specs.Prelude.{◌↔◌, ℕ, List, [], ◌∷◌, ◌++◌, Option, Contains}
use Rattle.sign_predicates.specs.Point.{Point}
use Rattle.geo_laws.specs.Delaunay.{point, IsDelaunayAmong}
use Rattle.geo_laws.specs.declared.tetrahedra.Tet.{Tet as Row}
use Rattle.insert_laws.specs.Insertion.{IsNew}
use Rattle.mesh_arena.specs.Mesh.{SlotValue, IsArenaMesh}
use Rattle.mesh_arena.specs.Cavity.{IsInCavitySlots}
use Rattle.mesh_arena.specs.Replace.{Replaces}
use Rattle.mesh_arena.specs.declared.slot.Corner.TheVariants.{Point as Numbered}
use Rattle.mesh_arena.specs.declared.slot.Slot.{Slot}
use Rattle.mesh_arena.specs.declared.slot.RimFace.{RimFace}
use Rattle.mesh_laws.specs.Rule.{IsTaken}
use Rattle.mesh_laws.specs.Reach.{Grown}
use Rattle.mesh_laws.specs.Living.{IsDelaunayMesh}

-- Where the cavity has all slots that the new point takes, the star in place of it makes the Delaunay mesh with that point. (That some
-- tetrahedron is there says that the points aren't all coplanar.)
abbrev pub ReplacedLaw : Type 0
ReplacedLaw = (old new : List (Option SlotValue)) (ps : List Point) (ms : List ℕ) (p start : ℕ) (cavity : List Slot) (rim : List RimFace)
    (s : ℕ) → IsArenaMesh old → IsArenaMesh new → IsDelaunayMesh old ps ms → IsNew ps ms p
    → (some : Row) → IsDelaunayAmong ps ms some → Grown old (IsTaken old ps (point ps p) p) start cavity rim
    → ((u : ℕ) → IsTaken old ps (point ps p) p u → IsInCavitySlots cavity u)
    → Replaces old new cavity rim (Numbered p) s → IsDelaunayMesh new ps (p ∷ ms)

-- the order of the numbers doesn't matter
abbrev pub SameMeshLaw : Type 0
SameMeshLaw = (slots : List (Option SlotValue)) (ps : List Point) (ms ks : List ℕ) → IsDelaunayMesh slots ps ms
    → ((i : ℕ) → Contains ms i ↔ Contains ks i) → IsDelaunayMesh slots ps ks

-- nor a further point, which isn't among them
abbrev pub LongerListLaw : Type 0
LongerListLaw = (slots : List (Option SlotValue)) (ps : List Point) (ms : List ℕ) (q : Point) → IsDelaunayMesh slots ps ms
    → IsDelaunayMesh slots (ps ++ q ∷ []) ms
