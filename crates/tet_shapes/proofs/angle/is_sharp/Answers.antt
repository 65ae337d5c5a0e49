use Rattle.std.proofs.Common.{◌∙◌}
use Rattle.sign_predicates.specs.Orientation.{cross}
use Rattle.tet_shapes.specs.Angle.{is_below, is_sharp}
use Rattle.tet_shapes.proofs.angle.is_sharp.Goals as goal

pub returns : goal.returns
unfolding is_sharp
returns c =
    let edge = c.from_to-edge.ensures in
    let m = c.cross.ensures ∙ (λ t. cross (edge t) (c.from_to.ensures t)) in
    let n = c.cross-2.ensures ∙ (λ t. cross (edge t) (c.from_to-2.ensures t)) in
    c.is_below.ensures ∙ (λ t. is_below c.args.bound (m t) (n t))
