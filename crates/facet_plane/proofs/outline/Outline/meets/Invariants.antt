use Rattle.std.proofs.Common.{◌≡◌, ◌-◌, drop, length}
use Rattle.std.specs.List.{list_any}
use Rattle.facet_plane.specs.Axes.{axis_is}
use Rattle.facet_plane.specs.Outline.{side_meets}
use Rattle.facet_plane.proofs.outline.Outline.meets.Given as goal

-- a side meets x exactly where one of those from the place i on does
abbrev pub invariant-loop-i : goal.invariant-loop-i
invariant-loop-i l = list_any (side_meets l.reach (axis_is l.axis) l.x) (drop l.i l.self.sides) ≡ list_any (side_meets l.reach (axis_is l.axis) l.x) l.self.sides

abbrev pub decreases-loop-i : goal.decreases-loop-i
decreases-loop-i l = length l.self.sides - l.i
