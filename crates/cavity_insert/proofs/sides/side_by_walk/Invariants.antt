use Rattle.mesh_arena.specs.Mesh.{IsLive}
use Rattle.cavity_insert.proofs.sides.side_by_walk.Given as goal

abbrev pub invariant-loop : goal.invariant-loop
invariant-loop l = IsLive l.arena.slots l.at.index
