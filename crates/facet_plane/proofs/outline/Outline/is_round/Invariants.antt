use Rattle.std.proofs.Common.{◌≡◌, ◌-◌, drop, length}
use Rattle.facet_plane.specs.Axes.{axis_is}
use Rattle.facet_plane.specs.Outline.{side_crosses}
use Rattle.facet_plane.specs.Walk.{is_odd}
use Rattle.facet_plane.proofs.outline.Outline.is_round.Given as goal
use Rattle.facet_laws.specs.Parity.{xor}

-- `odd` and the sides from the place i on give what all sides give
abbrev pub invariant-loop-i : goal.invariant-loop-i
invariant-loop-i l = xor l.odd (is_odd (side_crosses (axis_is l.axis) l.x) (drop l.i l.self.sides)) ≡ is_odd (side_crosses (axis_is l.axis) l.x) l.self.sides

abbrev pub decreases-loop-i : goal.decreases-loop-i
decreases-loop-i l = length l.self.sides - l.i
