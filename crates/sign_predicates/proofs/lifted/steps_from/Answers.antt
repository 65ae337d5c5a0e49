use Rattle.std.proofs.Common.{arith}
use Rattle.sign_predicates.proofs.Lifting.{whole_steps}
use Rattle.sign_predicates.proofs.lifted.steps_from.Goals as goal
use Rattle.sign_predicates.proofs.lifted.steps_from.Goals.{then-steps-gt-WIDTH-via-then-steps-gt-WIDTH, then-steps-gt-WIDTH-via-else-steps-gt-WIDTH+then-units-step-ne0}

pub returns-then-steps-gt-WIDTH-clause-none : goal.returns-then-steps-gt-WIDTH-clause-none
returns-then-steps-gt-WIDTH-clause-none c = λ q low high is.
    let r = c.requires in
    let h = whole_steps c.args.step _ c.args.corner q c.args.x r.step r.corner r.x c.unsigned_abs-units.ensures.value low high is in
    elim c.then-steps-gt-WIDTH.branch [
      | then-steps-gt-WIDTH-via-then-steps-gt-WIDTH w ↦ (let wide = w.if-steps-gt-WIDTH.true in let few = h.0 in omega arith)
      | then-steps-gt-WIDTH-via-else-steps-gt-WIDTH+then-units-step-ne0 w ↦ w.if-units-step-ne0.true h.1
    ]
