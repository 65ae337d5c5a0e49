use Rattle.std.proofs.Common.{ℕ, ◌<◌}
use Rattle.mesh_check.specs.Defects.{IsWrongNeighbor}
use Rattle.mesh_check.proofs.neighbors.first_wrong_neighbor.Given as goal

abbrev pub invariant-loop-i : goal.invariant-loop-i
invariant-loop-i l = (a b : ℕ) → a < l.i → ¬ IsWrongNeighbor l.list l.neighbors a b
