use Rattle.std.proofs.Common.{◌∙◌}
use mir.Syntax.{w128}
use Rattle.exact_algebra.proofs.Size.{read}
use Rattle.sign_predicates.proofs.volumes.wide_volumes.Goals as goal

pub returns-clause-value : goal.returns-clause-value
returns-clause-value c =
    let p = read w128 c.det_of_minors.result c.det_of_minors.type_inv ∙ c.det_of_minors.ensures.value in
    let q = read w128 c.det_of_minors-2.result c.det_of_minors-2.type_inv ∙ c.det_of_minors-2.ensures.value in
    let r = read w128 c.det_of_minors-3.result c.det_of_minors-3.type_inv ∙ c.det_of_minors-3.ensures.value in
    let s = read w128 c.det_of_minors-4.result c.det_of_minors-4.type_inv ∙ c.det_of_minors-4.ensures.value in
    λ i. record { a = p i; b = q i; c = r i; d = s i }
