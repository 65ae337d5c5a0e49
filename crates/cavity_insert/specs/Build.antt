-- A mesh of lifted points while they are inserted in their turns.
use Rattle.std.specs.Prelude.{◌↔◌, ◌⊎◌, ℕ, ℤ, List, Option, Contains}
use Rattle.sign_predicates.specs.Point.{Point}
use Rattle.geo_laws.specs.Delaunay.{numbers}
use Rattle.geo_laws.specs.declared.tetrahedra.Tet.{Tet as Row}
use Rattle.mesh_arena.specs.Mesh.{SlotValue}
use Rattle.mesh_laws.specs.LowestLiving.{IsLowestMesh}
use Rattle.cavity_insert.specs.declared.order.Turn.{Turn}
use Rattle.cavity_insert.specs.Order.{turn_numbers}

-- the mesh of the corners of the first tetrahedron and of the points whose turns have come
pub record HasInserted (heights : ℕ → ℤ) (slots : List (Option SlotValue)) (ps : List Point) (first : Row) (turns : List Turn)
    : Type 0 where
  pub ms : List ℕ
  pub mesh : IsLowestMesh heights slots ps ms
  pub exactly : (i : ℕ) → Contains ms i ↔ (Contains (numbers first) i ⊎ Contains (turn_numbers turns) i)
