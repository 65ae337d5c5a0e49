use Rattle.std.specs.List.{slice_index_or}
use Rattle.geo_laws.specs.Facet.{corner_numbers}
use Rattle.geo_laws.specs.declared.complex.FacetTriangle.{FacetTriangle}
use Rattle.box_tree.specs.Bounds.{HoldsCorners}
use Rattle.box_tree.proofs.Trees.{AreBoxesTo}
use Rattle.box_tree.proofs.bodies.triangle_tree.Given as goal

abbrev pub invariant-loop-place : goal.invariant-loop-place
invariant-loop-place l = AreBoxesTo (λ i b. (d : FacetTriangle) → HoldsCorners l.points (corner_numbers (slice_index_or l.triangles i d)) b) l.place l.boxes
