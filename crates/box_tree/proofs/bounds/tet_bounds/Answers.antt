use Rattle.std.proofs.Common.{[], ◌∷◌}
use Rattle.geo_laws.specs.Delaunay.{point}
use Rattle.box_tree.proofs.Boxes.{held_larger, holds_more, holds_none}
use Rattle.box_tree.proofs.bounds.tet_bounds.Goals as goal

pub returns : goal.returns
returns c =
    let ps = c.args.points.now in
    let t = c.args.t in
    let b = c.joined.result in
    let first = c.bounds_of_two.result in
    let second = c.bounds_of_two-2.result in
    holds_more ps b t.a (t.b ∷ t.c ∷ t.d ∷ []) (held_larger first b (point ps t.a) c.joined.ensures.first c.bounds_of_two.ensures.a)
    (holds_more ps b t.b (t.c ∷ t.d ∷ []) (held_larger first b (point ps t.b) c.joined.ensures.first c.bounds_of_two.ensures.b)
    (holds_more ps b t.c (t.d ∷ []) (held_larger second b (point ps t.c) c.joined.ensures.second c.bounds_of_two-2.ensures.a)
    (holds_more ps b t.d [] (held_larger second b (point ps t.d) c.joined.ensures.second c.bounds_of_two-2.ensures.b) (holds_none ps b))))
