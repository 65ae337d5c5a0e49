use Rattle.std.proofs.Common.{◌≡◌, ◌<◌, length, drop}
use Rattle.std.specs.List.{list_any}
use Rattle.facet_plane.specs.Axes.{axis_is}
use Rattle.facet_plane.specs.Walk.{walk, side_passes, is_under}
use Rattle.facet_plane.proofs.polygon.is_over_polygon.Given as goal

-- x lies on a side exactly where it lies on one of those from the corner a on
abbrev pub invariant-loop-i : goal.invariant-loop-i
invariant-loop-i l = record {
  there : l.a < length l.points;
  same : list_any (side_passes (is_under l.points (axis_is l.axis) l.x)) (walk l.first l.a (drop l.i l.corners))
      ≡ list_any (side_passes (is_under l.points (axis_is l.axis) l.x)) (walk l.first l.first (drop 1 l.corners));
}
