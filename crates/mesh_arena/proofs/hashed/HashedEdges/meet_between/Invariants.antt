use Rattle.std.proofs.Common.{◌≡◌}
use Rattle.mesh_arena.specs.Edges.{meetings_in, AreMetUpTo}
use Rattle.mesh_arena.proofs.hashed.HashedEdges.meet_between.Given as goal

abbrev pub invariant-loop-step : goal.invariant-loop-step
invariant-loop-step l =
    record {
      same : meetings_in l.self-inside.met.items l.self-inside.round ≡ l.fn.self;
      up_to : AreMetUpTo l.self-inside.met.items l.self-inside.round;
    }
