use Rattle.std.proofs.Common.{◌≡◌, map, take, drop}
use Rattle.grid_coords.specs.Origins.{moved_point}
use Rattle.mesh_check.specs.Moving.{first_long}
use Rattle.mesh_check.proofs.centering.moved_points.Given as goal

-- the points that were passed are moved, and the first one with a coordinate of too many digits is among those that are left
abbrev pub invariant-loop-p : goal.invariant-loop-p
invariant-loop-p l = record {
  list : l.list ≡ map (moved_point l.w) (take l.p-index l.points);
  first : first_long l.w (drop l.p-index l.points) ≡ first_long l.w l.points;
}
