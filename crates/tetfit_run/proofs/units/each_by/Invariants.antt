use Rattle.std.proofs.Common.{◌≡◌, map, take}
use Rattle.tetfit_run.specs.Units.{point_by}
use Rattle.tetfit_run.proofs.units.each_by.Given as goal

abbrev pub invariant-loop-p : goal.invariant-loop-p
invariant-loop-p l = l.list ≡ map (point_by l.unit) (take l.p-index l.points)
