use Rattle.std.proofs.Common.{◌≡◌, ◌<◌, ◌^◌, vec_capacity}
use Rattle.mesh_arena.specs.Cut.{FreesCells}
use Rattle.mesh_arena.proofs.cut.free_cells.Given as goal

abbrev pub invariant-loop-j : goal.invariant-loop-j
invariant-loop-j l =
    record {
      frees : FreesCells l.fn.cells.items l.cells.items l.cavity l.j l.next l.first;
      capacity : vec_capacity l.cells ≡ vec_capacity l.fn.cells;
      first : l.first < 2 ^ 28;
    }
