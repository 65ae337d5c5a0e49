use Rattle.std.proofs.Common.{[], ◌∷◌, subst, sym}
use Rattle.sign_predicates.specs.Point.{origin}
use Rattle.geo_laws.specs.Delaunay.{point}
use Rattle.box_tree.specs.Bounds.{HoldsPoint}
use Rattle.box_tree.proofs.Boxes.{held_larger, holds_more, holds_none}
use Rattle.simplex_meets.proofs.bounding.piece_bounds.Goals as goal

pub at-requires : goal.at-requires
at-requires c = c.requires.a_on

pub at-requires-2 : goal.at-requires-2
at-requires-2 c = c.requires.b_on

pub returns : goal.returns
returns c =
    let ps = c.args.points.now in
    let p = c.args.piece in
    let b = c.joined.result in
    let first = c.point_bounds.result in
    let second = c.point_bounds-2.result in
    holds_more ps b p.a (p.b ∷ []) (held_larger first b (point ps p.a) c.joined.ensures.first (subst (HoldsPoint first) (sym (c.at.ensures origin)) c.point_bounds.ensures))
    (holds_more ps b p.b [] (held_larger second b (point ps p.b) c.joined.ensures.second (subst (HoldsPoint second) (sym (c.at-2.ensures origin)) c.point_bounds-2.ensures)) (holds_none ps b))
