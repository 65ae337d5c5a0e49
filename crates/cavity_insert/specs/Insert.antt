-- A mesh of lifted points and a further one.
use Rattle.std.specs.Prelude.{ℕ, ℤ, List, Option}
use Rattle.sign_predicates.specs.Point.{Point}
use Rattle.insert_laws.specs.LowestInsertion.{IsNew}
use Rattle.mesh_arena.specs.Mesh.{SlotValue}
use Rattle.mesh_laws.specs.LowestLiving.{IsLowestMesh}

-- the arena is the mesh of the lifted points with the numbers `ms`, and the point with the number p is another one
pub record IsReadyFor (heights : ℕ → ℤ) (slots : List (Option SlotValue)) (ps : List Point) (ms : List ℕ) (p : ℕ) : Type 0 where
  pub mesh : IsLowestMesh heights slots ps ms
  pub is_new : IsNew ps ms p
