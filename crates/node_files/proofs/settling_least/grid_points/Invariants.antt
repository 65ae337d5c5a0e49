use Rattle.std.proofs.Common.{◌≡◌, map, take}
use Rattle.node_files.specs.LeastGrid.{point_on}
use Rattle.node_files.proofs.settling_least.grid_points.Given as goal

abbrev pub invariant-loop-p : goal.invariant-loop-p
invariant-loop-p l = l.list ≡ map (point_on l.grid) (take l.p-index l.points)
