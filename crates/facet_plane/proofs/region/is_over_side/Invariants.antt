use Rattle.std.proofs.Common.{◌≡◌}
use Rattle.std.specs.List.{list_any}
use Rattle.facet_plane.specs.Areas.{over_polygon}
use Rattle.facet_plane.specs.Axes.{axis_is}
use Rattle.facet_plane.specs.Corners.{lists_between}
use Rattle.facet_plane.proofs.region.is_over_side.Given as goal

abbrev pub invariant-loop-q : goal.invariant-loop-q
invariant-loop-q l =
    list_any (over_polygon l.points (axis_is l.axis) l.x) (lists_between l.complex.polygons l.q l.facet.past)
    ≡ list_any (over_polygon l.points (axis_is l.axis) l.x) (lists_between l.complex.polygons l.facet.first l.facet.past)
