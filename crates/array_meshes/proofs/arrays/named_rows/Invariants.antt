use Rattle.std.proofs.Common.{◌≡◌, map, take}
use Rattle.array_meshes.specs.Arrays.{named}
use Rattle.array_meshes.proofs.arrays.named_rows.Given as goal

abbrev pub invariant-loop-t : goal.invariant-loop-t
invariant-loop-t l = l.rows.items ≡ map (named l.names) (take l.t-index l.list)
