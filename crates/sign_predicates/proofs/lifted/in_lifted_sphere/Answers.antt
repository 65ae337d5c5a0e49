use Rattle.std.proofs.Common.{◌∙◌, subst}
use Rattle.exact_algebra.proofs.Size.{read}
use Rattle.sign_predicates.specs.Sign.{IsSignOf}
use Rattle.sign_predicates.proofs.Lifting.{sphere_sign}
use mir.Syntax.{w128}
use Rattle.sign_predicates.proofs.lifted.in_lifted_sphere.Goals as goal

pub returns : goal.returns
returns c =
    let a = c.args in
    sphere_sign c.sign_of.result (record { a = a.a; b = a.b; c = a.c; d = a.d }) a.e
    (subst (IsSignOf c.sign_of.result) (read w128 c.in_sphere.result c.in_sphere.type_inv ∙ c.in_sphere.ensures) c.sign_of.ensures)
