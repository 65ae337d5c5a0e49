use Rattle.std.proofs.Common.{pos, ap, ◌∙◌}
use Rattle.exact_algebra.proofs.Size.{read}
use Rattle.sign_predicates.specs.Orientation.{volume}
use mir.Syntax.{w128}
use Rattle.tet_shapes.specs.Shape.{is_large}
use Rattle.tet_shapes.proofs.Numbers.{not_over}
use Rattle.tet_shapes.proofs.shape.is_large.Goals as goal

pub returns-else-volume-gt0 : goal.returns-else-volume-gt0
returns-else-volume-gt0 c =
    let is = read w128 c.six_times-volume.result c.six_times-volume.type_inv ∙ c.six_times-volume.ensures in
    not_over c.args.most _ (volume c.corners_of.result) is c.if-volume-gt0.false ∙ ap (is_large (pos c.args.most)) c.corners_of.ensures
