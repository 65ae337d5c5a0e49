use Rattle.std.proofs.Common.{inr, sym, subst}
use Rattle.run_steps.proofs.Unbound.{sizes_over}
use Rattle.run_steps.specs.Meshing.{IsOverLimit}
use Rattle.run_steps.proofs.mesh.limit_before.Goals as goal

pub binding_refused-requires : goal.binding_refused-requires
binding_refused-requires c = (sizes_over c.args.limits c.args.text.now c.in-Err.fault c.in-Err.ensures).0

pub returns-in-Err : goal.returns-in-Err
returns-in-Err c = inr (subst (IsOverLimit c.args.limits c.args.text.now) (sym c.binding_refused.ensures) (sizes_over c.args.limits c.args.text.now c.in-Err.fault c.in-Err.ensures).1)
