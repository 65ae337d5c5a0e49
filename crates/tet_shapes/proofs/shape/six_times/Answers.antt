use Rattle.std.proofs.Common.{◌∙◌}
use Rattle.exact_algebra.proofs.Size.{read}
use Rattle.sign_predicates.specs.Orientation.{det}
use Rattle.sign_predicates.proofs.Vectors.{orient_is}
use mir.Syntax.{w128}
use Rattle.tet_shapes.proofs.shape.six_times.Goals as goal

pub returns : goal.returns
returns c =
    let t = c.args.t in
    read w128 c.det.result c.det.type_inv ∙ c.det.ensures.value ∙ (λ s. det (c.from_to.ensures s) (c.from_to-2.ensures s) (c.from_to-3.ensures s)) ∙ orient_is t.a t.b t.c t.d
