use Rattle.exact_algebra.proofs.Size.{read}
use Rattle.std.proofs.Common.{◌∙◌}
use Rattle.sign_predicates.specs.Meeting.{grid_triangle}
use Rattle.sign_predicates.proofs.Triangles.{one_side}
use mir.Syntax.{w128}
use Rattle.sign_predicates.proofs.meeting.lies_apart.Goals as goal

pub returns : goal.returns
returns c h =
    let a = c.args in
    one_side (grid_triangle a.f.now) (grid_triangle a.g.now)
    (read w128 c.orient_sum.result c.orient_sum.type_inv ∙ c.orient_sum.ensures) (read w128 c.orient_sum-2.result c.orient_sum-2.type_inv ∙ c.orient_sum-2.ensures) (read w128 c.orient_sum-3.result c.orient_sum-3.type_inv ∙ c.orient_sum-3.ensures)
    (c.has_one_sign.ensures h)
