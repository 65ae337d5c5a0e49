use Rattle.std.proofs.Common.{◌≤◌, ◌+◌, length}
use Rattle.mesh_arena.specs.Surgery.{AddsStar}
use Rattle.mesh_arena.proofs.StarEdges.{ArePlaced}
use Rattle.mesh_arena.proofs.arena.Arena.add_star.Given as goal

abbrev pub invariant-loop-r : goal.invariant-loop-r
invariant-loop-r l =
    record {
      adds_star : AddsStar l.initial.self.slots l.self.slots l.rim l.fn.star.items l.r;
      placed : ArePlaced l.self.slots l.rim l.fn.star.items l.star.items l.r;
      room : length l.rim ≤ l.self.room + l.r;
    }
