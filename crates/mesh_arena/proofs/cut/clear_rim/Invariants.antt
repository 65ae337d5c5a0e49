use Rattle.std.proofs.Common.{◌≡◌, vec_capacity}
use Rattle.mesh_arena.specs.Cut.{ClearsRim}
use Rattle.mesh_arena.proofs.cut.clear_rim.Given as goal

abbrev pub invariant-loop-r : goal.invariant-loop-r
invariant-loop-r l =
    record {
      clears : ClearsRim l.fn.cells.items l.cells.items l.rim l.r;
      capacity : vec_capacity l.cells ≡ vec_capacity l.fn.cells;
    }
