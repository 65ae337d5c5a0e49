use Rattle.std.proofs.Common.{◌≡◌, map, take}
use Rattle.node_files.specs.Settling.{measured_from}
use Rattle.node_files.proofs.rounding.each_measured_from.Given as goal

abbrev pub invariant-loop-p : goal.invariant-loop-p
invariant-loop-p l = l.list ≡ map (measured_from l.w l.decimals) (take l.p-index l.points)
