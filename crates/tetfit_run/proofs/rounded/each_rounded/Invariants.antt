use Rattle.std.proofs.Common.{◌≡◌, map, take}
use Rattle.node_files.specs.Settling.{rounded_point}
use Rattle.tetfit_run.proofs.rounded.each_rounded.Given as goal

abbrev pub invariant-loop-p : goal.invariant-loop-p
invariant-loop-p l = l.made ≡ map (rounded_point l.m) (take l.p-index l.points)
