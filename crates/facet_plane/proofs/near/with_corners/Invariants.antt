use Rattle.std.proofs.Common.{take}
use Rattle.box_tree.specs.Bounds.{IsBoxWithin}
use Rattle.facet_plane.specs.NearPoints.{HoldsAll}
use Rattle.facet_plane.proofs.near.with_corners.Given as goal

abbrev pub invariant-loop-i : goal.invariant-loop-i
invariant-loop-i l = record { wider : IsBoxWithin l.fn.bounds l.wide; holds : HoldsAll l.points l.wide (take l.i l.corners) }
