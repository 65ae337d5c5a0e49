use Rattle.std.proofs.Common.{◌+◌, subst, sym, arith, length}
use Rattle.std.specs.List.{slice_index_or}
use Rattle.geo_laws.specs.Delaunay.{numbers, IsOn}
use Rattle.geo_laws.specs.declared.tetrahedra.Tet.{Tet}
use Rattle.box_tree.specs.Bounds.{HoldsCorners}
use Rattle.box_tree.proofs.Lists.{if_ok, all_at}
use Rattle.box_tree.proofs.Trees.{AreBoxesTo, boxes_none, boxes_more, tree_over}
use Rattle.box_tree.proofs.bodies.row_tree.Goals as goal

pub loop-place-init : goal.loop-place-init
loop-place-init c =
    subst (AreBoxesTo (λ i b. (d : Tet) → HoldsCorners c.args.points.now (numbers (slice_index_or c.args.rows.now i d)) b) 0) (sym c.in_ok-boxes.ensures)
    (boxes_none (λ i b. (d : Tet) → HoldsCorners c.args.points.now (numbers (slice_index_or c.args.rows.now i d)) b))

pub tet_bounds-requires : goal.tet_bounds-requires
tet_bounds-requires c = all_at (IsOn c.args.points.now) c.args.rows.now c.loop-place.place c.at.result c.requires (omega arith) c.at.ensures

pub loop-place-preserved : goal.loop-place-preserved
loop-place-preserved c =
    let ps = c.args.points.now in
    let rows = c.args.rows.now in
    subst (AreBoxesTo (λ i b. (d : Tet) → HoldsCorners ps (numbers (slice_index_or rows i d)) b) (c.loop-place.place + 1)) (sym c.in_ok-push.ensures.ok)
    (boxes_more (λ i b. (d : Tet) → HoldsCorners ps (numbers (slice_index_or rows i d)) b) c.loop-place.place c.loop-place.boxes c.box_of.result c.loop-place.invariant c.box_of.ensures.place
    (λ d. subst (λ (t : Tet). HoldsCorners ps (numbers t) c.box_of.result.bounds) (sym (c.at.ensures d)) (subst (HoldsCorners ps (numbers c.at.result)) (sym c.box_of.ensures.bounds) c.tet_bounds.ensures)))

pub returns : goal.returns
returns c =
    let ps = c.args.points.now in
    let rows = c.args.rows.now in
    if_ok c.tree_of.result
    (λ nodes h. tree_over (λ i b. (d : Tet) → HoldsCorners ps (numbers (slice_index_or rows i d)) b) (length rows) c.loop-place.boxes nodes
    (subst (λ n. AreBoxesTo (λ i b. (d : Tet) → HoldsCorners ps (numbers (slice_index_or rows i d)) b) n c.loop-place.boxes) (omega arith) c.loop-place.invariant) h)
    c.tree_of.ensures
