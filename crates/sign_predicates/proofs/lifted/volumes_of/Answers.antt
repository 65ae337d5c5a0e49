use Rattle.std.proofs.Common.{◌∙◌}
use Rattle.sign_predicates.specs.Orientation.{det}
use Rattle.sign_predicates.proofs.Vectors.{orient_is}
use Rattle.sign_predicates.proofs.lifted.volumes_of.Goals as goal

pub returns-clause-value : goal.returns-clause-value
returns-clause-value c =
    let a = c.args in
    let u = c.from_to.ensures.value in
    let v = c.from_to-2.ensures.value in
    let w = c.from_to-3.ensures.value in
    let x = c.from_to-4.ensures.value in
    c.short_volumes.ensures.value ∙ (λ i. record {
      a = ((λ j. det (v j) (w j) (x j)) ∙ orient_is a.e a.b a.c a.d) i;
      b = ((λ j. det (u j) (w j) (x j)) ∙ orient_is a.e a.a a.c a.d) i;
      c = ((λ j. det (u j) (v j) (x j)) ∙ orient_is a.e a.a a.b a.d) i;
      d = ((λ j. det (u j) (v j) (w j)) ∙ orient_is a.e a.a a.b a.c) i;
    })
