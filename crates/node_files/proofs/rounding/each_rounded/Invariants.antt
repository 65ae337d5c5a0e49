use Rattle.std.proofs.Common.{◌≡◌, map, take}
use Rattle.node_files.specs.Settling.{rounded_point}
use Rattle.node_files.proofs.rounding.each_rounded.Given as goal

abbrev pub invariant-loop-p : goal.invariant-loop-p
invariant-loop-p l = l.list ≡ map (rounded_point l.decimals) (take l.p-index l.points)
