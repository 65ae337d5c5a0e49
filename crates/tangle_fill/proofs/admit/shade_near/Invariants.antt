use Rattle.std.proofs.Common.{◌≡◌, false, ◌≤◌, ◌-◌, length}
use Rattle.sign_predicates.specs.Point.{as_rational}
use Rattle.sign_predicates.specs.Centroid.{centroid}
use Rattle.geo_laws.specs.Delaunay.{point, corners}
use Rattle.geo_laws.specs.OrientedFace.{triangle}
use Rattle.tangle_laws.specs.Tangle.{facet_face}
use Rattle.tangle_laws.specs.Hidden.{hides}
use Rattle.tangle_fill.proofs.Near.{AreDone}
use Rattle.tangle_fill.proofs.admit.shade_near.Given as goal

abbrev pub invariant-loop-k : goal.invariant-loop-k
invariant-loop-k l = record {
  there : l.k ≤ length l.complex.triangle_tree;
  done : AreDone (λ k. hides (triangle l.complex.points.now (facet_face k)) (centroid (corners l.complex.points.now l.row)) (as_rational (point l.complex.points.now l.i)) ≡ false) l.complex.triangles.now l.complex.triangle_tree l.k;
}

abbrev pub decreases-loop-k : goal.decreases-loop-k
decreases-loop-k l = length l.complex.triangle_tree - l.k
