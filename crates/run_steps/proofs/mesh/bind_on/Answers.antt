use Rattle.std.proofs.Common.{◌∙◌, ap, sym, subst}
use Rattle.plc_files.specs.Folding.{HasCornersBelow}
use Rattle.plc_files.specs.Folding.{folded_complex}
use Rattle.run_steps.proofs.Meshables.{weights_folded}
use Rattle.run_steps.proofs.Unbound.{binding_over}
use Rattle.run_steps.specs.Meshing.{IsOverLimit}
use Rattle.run_steps.proofs.mesh.bind_on.Goals as goal

pub binding_refused-requires : goal.binding_refused-requires
binding_refused-requires c = (binding_over c.args.limits c.args.text.now c.args.first c.args.table.now.grid c.in-Err.fault c.in-Err.ensures.outcome).0

pub returns-in-Err-clause-over : goal.returns-in-Err-clause-over
returns-in-Err-clause-over c =
    subst (IsOverLimit c.args.limits c.args.text.now) (sym c.binding_refused.ensures) (binding_over c.args.limits c.args.text.now c.args.first c.args.table.now.grid c.in-Err.fault c.in-Err.ensures.outcome).1

pub fold-requires-clause-corners : goal.fold-requires-clause-corners
fold-requires-clause-corners c = subst (λ n. HasCornersBelow n c.in-Ok.bound) c.len-count.ensures.count c.in-Ok.ensures.corners

pub returns-in_ok-fold-in-Ok-clause-bound : goal.returns-in_ok-fold-in-Ok-clause-bound
returns-in_ok-fold-in-Ok-clause-bound c =
    let b = c.in-Ok.ensures.outcome in
    record { small = record { few = b.few; short = b.short }; is = c.in_ok-fold-in-Ok.ensures.folded ∙ ap (folded_complex c.args.table.now.folded) b.is }

pub returns-in_ok-fold-in-Ok-clause-weights : goal.returns-in_ok-fold-in-Ok-clause-weights
returns-in_ok-fold-in-Ok-clause-weights c = weights_folded c.args.table.now.folded c.in-Ok.bound _ c.in_ok-fold-in-Ok.ensures.folded c.in-Ok.ensures.weights
