use Rattle.std.proofs.Common.{ℕ, ◌<◌}
use Rattle.mesh_arena.specs.Cavity.{slot_at}
use Rattle.cavity_insert.specs.Lost.{IsToldOf}
use Rattle.cavity_insert.proofs.lost.tell_cavity.Given as goal

abbrev pub invariant-loop-i : goal.invariant-loop-i
invariant-loop-i l = (j : ℕ) → j < l.i → IsToldOf l.lost.items l.arena.slots (slot_at l.cavity j)
