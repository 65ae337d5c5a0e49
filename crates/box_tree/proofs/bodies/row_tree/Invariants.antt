use Rattle.std.specs.List.{slice_index_or}
use Rattle.geo_laws.specs.Delaunay.{numbers}
use Rattle.geo_laws.specs.declared.tetrahedra.Tet.{Tet}
use Rattle.box_tree.specs.Bounds.{HoldsCorners}
use Rattle.box_tree.proofs.Trees.{AreBoxesTo}
use Rattle.box_tree.proofs.bodies.row_tree.Given as goal

abbrev pub invariant-loop-place : goal.invariant-loop-place
invariant-loop-place l = AreBoxesTo (λ i b. (d : Tet) → HoldsCorners l.points (numbers (slice_index_or l.rows i d)) b) l.place l.boxes
