use Rattle.std.proofs.Common.{◌++◌, get_or, drop, ap, ◌∙◌}
use Rattle.facet_plane.specs.Outline.{sides_between}
use Rattle.facet_plane.specs.Walk.{walk}
use Rattle.facet_plane.proofs.Ends.{ends_whole, some_of}
use Rattle.facet_plane.proofs.outline.sides_of.Goals as goal

pub loop-i-init : goal.loop-i-init
loop-i-init c =
    let some = some_of c.args.corners.now c.is_empty.result c.is_empty.ensures c.if-is_empty.false in
    record {
      there = c.requires 0 0 some;
      same = ap (λ ss. ss ++ sides_between c.args.points.now (walk (get_or c.args.corners.now 0 0) (get_or c.args.corners.now 0 0) (drop 1 c.args.corners.now))) c.new-sides.ensures
          ∙ ends_whole c.args.points.now c.args.corners.now some;
    }
