use Rattle.std.proofs.Common.{◌≡◌, map, take}
use Rattle.grid_coords.specs.Units.{grid_point}
use Rattle.node_files.proofs.settling.grid_points.Given as goal

abbrev pub invariant-loop-p : goal.invariant-loop-p
invariant-loop-p l = l.list ≡ map (grid_point l.grid) (take l.p-index l.points)
