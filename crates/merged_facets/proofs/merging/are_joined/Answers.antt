use Rattle.std.proofs.Common.{refl, sym, ◌∙◌}
use Rattle.merged_facets.proofs.Joins.{joined_iff, side_among, corners_there, flat_polygon}
use Rattle.merged_facets.proofs.Once.{refused, not_true}
use Rattle.merged_facets.proofs.merging.are_joined.Goals as goal

pub are_beside-requires-clause-there : goal.are_beside-requires-clause-there
are_beside-requires-clause-there c = side_among c.args.points.now c.args.complex.now c.args.x c.requires.mergeable.corners c.requires.x_is

pub are_beside-requires-clause-p_corners : goal.are_beside-requires-clause-p_corners
are_beside-requires-clause-p_corners c =
    corners_there c.args.points.now c.args.complex.now c.args.x.facet c.only_polygon-p.result.now c.requires.mergeable.corners c.requires.x_is.there c.only_polygon-p.ensures

pub are_beside-requires-clause-q_corners : goal.are_beside-requires-clause-q_corners
are_beside-requires-clause-q_corners c =
    corners_there c.args.points.now c.args.complex.now c.args.y.facet c.only_polygon-q.result.now c.requires.mergeable.corners c.requires.y_is.there c.only_polygon-q.ensures

pub are_beside-requires-clause-p_flat : goal.are_beside-requires-clause-p_flat
are_beside-requires-clause-p_flat c =
    flat_polygon c.args.points.now c.args.complex.now c.args.x.facet c.only_polygon-p.result.now c.requires.mergeable.flat c.requires.x_is.there c.only_polygon-p.ensures

pub returns-then-same_marker : goal.returns-then-same_marker
returns-then-same_marker c =
    joined_iff c.args.points.now c.args.complex.now c.args.x.side c.args.x.facet c.args.y.facet c.only_polygon-p.result.now c.only_polygon-q.result.now c.are_beside.result
    c.requires.x_is.there c.requires.y_is.there (sym c.marker.ensures ∙ c.if-same_marker.ensures.0 refl ∙ c.marker-2.ensures) c.only_polygon-p.ensures c.only_polygon-q.ensures c.are_beside.ensures

pub returns-else-same_marker : goal.returns-else-same_marker
returns-else-same_marker c = refused (λ h. not_true (c.if-same_marker.ensures.1 (c.marker.ensures ∙ h.over.marked_alike ∙ sym c.marker-2.ensures)))
