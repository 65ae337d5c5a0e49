use Rattle.std.proofs.Common.{◌≡◌, map, take}
use Rattle.array_meshes.specs.Arrays.{decimal_point}
use Rattle.array_meshes.proofs.arrays.decimal_points.Given as goal

abbrev pub invariant-loop-p : goal.invariant-loop-p
invariant-loop-p l = l.list ≡ map decimal_point (take l.p-index l.places)
