use Rattle.mesh_arena.specs.Mesh.{IsLive}
use Rattle.mesh_tests.proofs.tests.slots.link_slots.Given as goal

abbrev pub invariant-loop-j : goal.invariant-loop-j
invariant-loop-j l = record { first : IsLive l.arena.slots l.s.index; second : IsLive l.arena.slots l.t.index }

abbrev pub invariant-loop-i : goal.invariant-loop-i
invariant-loop-i l = record { first : IsLive l.arena.slots l.s.index; second : IsLive l.arena.slots l.t.index }
