use Rattle.geo_laws.specs.Delaunay.{point}
use Rattle.box_tree.specs.Bounds.{HoldsPoint}
use Rattle.box_tree.proofs.Trees.{AreBoxesTo}
use Rattle.box_tree.proofs.bodies.point_tree.Given as goal

abbrev pub invariant-loop-place : goal.invariant-loop-place
invariant-loop-place l = AreBoxesTo (λ i b. HoldsPoint b (point l.points i)) l.place l.boxes
