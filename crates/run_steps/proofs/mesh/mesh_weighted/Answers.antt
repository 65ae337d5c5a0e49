use Rattle.std.proofs.Common.{Some, inl, inr, sym, subst}
use Rattle.run_steps.proofs.Meshables.{rows_writable}
use Rattle.run_steps.specs.Outputs.{IsWritable}
use Rattle.weighted_mesh.specs.declared.regular_fault.RegularFault.TheVariants as regular
use Rattle.run_steps.proofs.mesh.mesh_weighted.Goals as goal

pub returns-in_ok-mesh_on-in-Ok-clause-writable : goal.returns-in_ok-mesh_on-in-Ok-clause-writable
returns-in_ok-mesh_on-in-Ok-clause-writable c =
    subst IsWritable (sym c.in_ok-mesh_on-in-Ok.ensures) (rows_writable c.args.options.now c.args.bound c.in-Ok.field-0.rows (Some c.in-Ok.field-0.hidden) c.requires c.in-Ok.ensures.numbers)

pub returns-in-Err-clause-answer : goal.returns-in-Err-clause-answer
returns-in-Err-clause-answer c =
    elim c.weights_refused.ensures [
      | inl is ↦ (c.in-Err.fault, is, c.in-Err.ensures.answer)
      | inr is ↦ (regular.NoMemory, is, tt)
    ]
