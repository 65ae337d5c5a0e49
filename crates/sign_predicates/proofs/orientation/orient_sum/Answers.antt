use Rattle.std.proofs.Common.{◌∙◌}
use Rattle.exact_algebra.proofs.Size.{read}
use Rattle.sign_predicates.proofs.Vectors.{orient_is}
use mir.Syntax.{w128}
use Rattle.sign_predicates.proofs.orientation.orient_sum.Goals as goal

pub returns : goal.returns
returns c =
    let e = orient_is c.args.a c.args.b c.args.c c.args.d in
    read w128 c.det.result c.det.type_inv ∙ cc
