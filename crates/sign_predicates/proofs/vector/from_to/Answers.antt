use Rattle.std.proofs.Common.{◌∙◌}
use Rattle.sign_predicates.specs.Point.{from_to}
use Rattle.sign_predicates.proofs.Vectors.{difference_back}
use Rattle.sign_predicates.proofs.vector.from_to.Goals as goal

pub returns : goal.returns
returns c =
    let a = c.a.inside in
    let b = c.b.inside in
    let g = c.a.invariant in
    let h = c.b.invariant in
    (λ t. record {
      x = difference_back a.x b.x g.x_low g.x_high h.x_low h.x_high t;
      y = difference_back a.y b.y g.y_low g.y_high h.y_low h.y_high t;
      z = difference_back a.z b.z g.z_low g.z_high h.z_low h.z_high t;
    })
    ∙ (λ t. from_to (c.a.view_is t) (c.b.view_is t))
