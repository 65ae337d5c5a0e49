use Rattle.std.specs.Prelude.{take}
use Rattle.mesh_arena.specs.Mesh.{IsLive}
use Rattle.cavity_insert.specs.Build.{HasInserted}
use Rattle.cavity_insert.proofs.meshing.insert_all.Given as goal

abbrev pub invariant-loop-turn : goal.invariant-loop-turn
invariant-loop-turn g l =
    record {
      inserted : HasInserted (g.H.Lift.heights l.lift) l.built.arena.slots (g.H.Lift.points l.lift) l.first (take l.turn-index l.turns);
      live : IsLive l.built.arena.slots l.built.last.index;
    }
