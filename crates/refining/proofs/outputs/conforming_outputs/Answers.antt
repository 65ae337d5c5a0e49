use Rattle.std.proofs.Common.{Option, subst}
use Rattle.std.specs.Prelude.{IfSome}
use Rattle.refining.proofs.Rounds.{refined_on}
use Rattle.refining.specs.Refining.{IsRefinedBehind}
use Rattle.refining.specs.declared.refining.Refined.{Refined}
use Rattle.refining.proofs.outputs.conforming_outputs.Goals as goal

pub counted_outputs-requires-clause-on : goal.counted_outputs-requires-clause-on
counted_outputs-requires-clause-on g c =
    let options = c.args.options.now in
    let bound = c.args.bound in
    refined_on options bound c.in-Some.refined (subst (λ (made : Option Refined). IfSome made (IsRefinedBehind options bound)) c.in-Some.is c.in_ok-refined.ensures.behind)
