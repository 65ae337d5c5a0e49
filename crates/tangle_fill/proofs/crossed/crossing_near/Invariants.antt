use Rattle.std.proofs.Common.{◌≤◌, ◌-◌, length}
use Rattle.sign_predicates.specs.Meeting.{TriangleEnters}
use Rattle.geo_laws.specs.Delaunay.{corners}
use Rattle.geo_laws.specs.OrientedFace.{triangle}
use Rattle.tangle_laws.specs.Tangle.{facet_face}
use Rattle.tangle_fill.proofs.Near.{AreDone}
use Rattle.tangle_fill.proofs.crossed.crossing_near.Given as goal

abbrev pub invariant-loop-i : goal.invariant-loop-i
invariant-loop-i l = record {
  there : l.i ≤ length l.tree;
  done : AreDone (λ k. ¬ TriangleEnters (corners l.points l.row) (triangle l.points (facet_face k))) l.triangles l.tree l.i;
}

abbrev pub decreases-loop-i : goal.decreases-loop-i
decreases-loop-i l = length l.tree - l.i
