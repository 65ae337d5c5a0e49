use Rattle.std.proofs.Common.{◌+◌, subst, sym, arith, length}
use Rattle.std.specs.List.{slice_index_or}
use Rattle.geo_laws.specs.Facet.{corner_numbers}
use Rattle.geo_laws.specs.declared.complex.FacetTriangle.{FacetTriangle}
use Rattle.box_tree.specs.Bounds.{HoldsCorners, IsTriangleOn}
use Rattle.box_tree.proofs.Lists.{all_at, if_ok}
use Rattle.box_tree.proofs.Trees.{AreBoxesTo, boxes_none, boxes_more, tree_over}
use Rattle.box_tree.proofs.bodies.triangle_tree.Goals as goal

pub loop-place-init : goal.loop-place-init
loop-place-init c =
    subst (AreBoxesTo (λ i b. (d : FacetTriangle) → HoldsCorners c.args.points.now (corner_numbers (slice_index_or c.args.triangles.now i d)) b) 0) (sym c.in_ok-boxes.ensures)
    (boxes_none (λ i b. (d : FacetTriangle) → HoldsCorners c.args.points.now (corner_numbers (slice_index_or c.args.triangles.now i d)) b))

pub triangle_bounds-requires : goal.triangle_bounds-requires
triangle_bounds-requires c = all_at (IsTriangleOn c.args.points.now) c.args.triangles.now c.loop-place.place c.at.result c.requires (omega arith) c.at.ensures

pub loop-place-preserved : goal.loop-place-preserved
loop-place-preserved c =
    let ps = c.args.points.now in
    let ts = c.args.triangles.now in
    subst (AreBoxesTo (λ i b. (d : FacetTriangle) → HoldsCorners ps (corner_numbers (slice_index_or ts i d)) b) (c.loop-place.place + 1)) (sym c.in_ok-push.ensures.ok)
    (boxes_more (λ i b. (d : FacetTriangle) → HoldsCorners ps (corner_numbers (slice_index_or ts i d)) b) c.loop-place.place c.loop-place.boxes c.box_of.result c.loop-place.invariant c.box_of.ensures.place
    (λ d. subst (λ (t : FacetTriangle). HoldsCorners ps (corner_numbers t) c.box_of.result.bounds) (sym (c.at.ensures d)) (subst (HoldsCorners ps (corner_numbers c.at.result)) (sym c.box_of.ensures.bounds) c.triangle_bounds.ensures)))

pub returns : goal.returns
returns c =
    let ps = c.args.points.now in
    let ts = c.args.triangles.now in
    if_ok c.tree_of.result
    (λ nodes h. tree_over (λ i b. (d : FacetTriangle) → HoldsCorners ps (corner_numbers (slice_index_or ts i d)) b) (length ts) c.loop-place.boxes nodes
    (subst (λ n. AreBoxesTo (λ i b. (d : FacetTriangle) → HoldsCorners ps (corner_numbers (slice_index_or ts i d)) b) n c.loop-place.boxes) (omega arith) c.loop-place.invariant) h)
    c.tree_of.ensures
