use Rattle.std.proofs.Common.{Result, sym, subst}
use Rattle.std.specs.Prelude.{IfOk}
use Rattle.run_steps.specs.declared.outputs.Outputs.{Outputs}
use Rattle.run_steps.specs.declared.status.Status.{Status}
use Rattle.tetfit_run.specs.Opening.{TellsCarved}
use Rattle.tetfit_run.proofs.Openings.{some_told}
use Rattle.tetfit_run.proofs.opening.told_of.Goals as goal

pub returns-in-Ok : goal.returns-in-Ok
returns-in-Ok c =
    let carves = some_told c.args.surface c.in-Ok.outputs c.is_empty.result c.carved_line.result c.is_empty.ensures c.if-is_empty.false c.carved_line.ensures in
    subst (λ (answer : Result Outputs Status). IfOk c.carved_line.result (TellsCarved c.args.surface answer)) (sym c.in-Ok.is) carves
