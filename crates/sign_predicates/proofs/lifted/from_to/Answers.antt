use Rattle.std.proofs.Common.{◌∙◌}
use Rattle.sign_predicates.specs.Point.{from_to}
use Rattle.sign_predicates.proofs.Lifting.{steps_back, steps_small, steps_difference}
use Rattle.sign_predicates.proofs.lifted.from_to.Goals as goal

pub invariant_of-result : goal.invariant_of-result
invariant_of-result c =
    let a = c.a.inside in
    let b = c.b.inside in
    let g = c.a.invariant.narrow in
    let h = c.b.invariant.narrow in
    record {
      x_small = steps_difference a.x b.x g.x_low g.x_high h.x_low h.x_high;
      y_small = steps_difference a.y b.y g.y_low g.y_high h.y_low h.y_high;
      z_small = steps_difference a.z b.z g.z_low g.z_high h.z_low h.z_high;
    }

pub returns-clause-value : goal.returns-clause-value
returns-clause-value c =
    let a = c.a.inside in
    let b = c.b.inside in
    let g = c.a.invariant.narrow in
    let h = c.b.invariant.narrow in
    (λ t. record {
      x = steps_back a.x b.x g.x_low g.x_high h.x_low h.x_high t;
      y = steps_back a.y b.y g.y_low g.y_high h.y_low h.y_high t;
      z = steps_back a.z b.z g.z_low g.z_high h.z_low h.z_high t;
    })
    ∙ (λ t. from_to (c.a.view_is t) (c.b.view_is t))

pub returns-clause-short : goal.returns-clause-short
returns-clause-short c =
    let a = c.a.inside in
    let b = c.b.inside in
    let g = c.a.invariant.narrow in
    let h = c.b.invariant.narrow in
    record {
      x_short = steps_small a.x b.x g.x_low g.x_high h.x_low h.x_high;
      y_short = steps_small a.y b.y g.y_low g.y_high h.y_low h.y_high;
      z_short = steps_small a.z b.z g.z_low g.z_high h.z_low h.z_high;
    }
