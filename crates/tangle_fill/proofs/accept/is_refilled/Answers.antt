use Rattle.std.specs.List.{slice_index_or}
use Rattle.std.proofs.lemmas.List.Elements.{Contains-get_or}
use Rattle.tangle_laws.proofs.Refilled.{law_paired}
use Rattle.tangle_fill.proofs.Changes.{all_rows, sides_apart, all_filled, triangle_in}
use Rattle.tangle_fill.proofs.Removal.{removed_positive, kept_of}
use Rattle.tangle_fill.proofs.accept.is_refilled.Goals as goal

pub are_crossed-requires-clause-rows : goal.are_crossed-requires-clause-rows
are_crossed-requires-clause-rows c k d l =
    removed_positive c.args.points.now c.args.list.now c.args.change.now.removed.rows c.requires.delaunay c.requires.change.removed.within _ (Contains-get_or c.args.change.now.removed.rows k d l)

pub returns : goal.returns
returns c h =
    let ps = c.args.points.now in
    let old = c.args.list.now in
    let change = c.args.change.now in
    let is = c.requires.change in
    let one = c.is_single.ensures c.if-not-is_single.false in
    law_paired ps c.args.triangles.now old change.rows c.requires.facets.ascend
    (record {
      positive = all_rows ps old change c.requires.delaunay is;
      ascending = c.requires.ascending;
      kept = kept_of ps c.args.triangles.now old change.rows change.removed is.removed (c.in_ok-crossed.ensures c.if-not-crossed.false);
      one_a_side = sides_apart ps old change c.requires.delaunay is c.requires.ascending;
      across = all_filled ps old change c.requires.delaunay is (c.are_closed.ensures c.if-not-are_closed.false);
      facets = λ k d l. triangle_in change.rows change.near.rows (slice_index_or c.args.triangles.now k d) is.near.within (c.has_triangles.ensures c.if-not-has_triangles.false k d l);
    })
    one.0 one.1 one.2 (c.in_ok-smooth.ensures h)
