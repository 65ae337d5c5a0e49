use Rattle.std.proofs.Common.{take}
use Rattle.facet_plane.specs.Prepared.{AreHoles}
use Rattle.facet_plane.proofs.prepared.Outlines.holes.Given as goal

abbrev pub invariant-loop-i : goal.invariant-loop-i
invariant-loop-i l = AreHoles l.self (take l.i l.facet.holes) l.holes
