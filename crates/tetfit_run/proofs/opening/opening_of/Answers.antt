use Rattle.std.proofs.Common.{Ok, subst}
use Rattle.tetfit_run.specs.Measured.{BoundTried}
use Rattle.tetfit_run.specs.Trial.{TrialValue}
use Rattle.tetfit_run.specs.Trying.{at_decimals}
use Rattle.tetfit_run.proofs.Openings.{opening_told}
use Rattle.tetfit_run.proofs.opening.opening_of.Goals as goal

pub returns-in-Ok : goal.returns-in-Ok
returns-in-Ok c =
    let IsBoundIn : TrialValue → Type 0 = λ t. BoundTried t.limits t.options t.input (Ok c.in-Ok.bound) in
    let answer = subst IsBoundIn c.new-tried.ensures c.in-Ok.ensures.answer in
    opening_told c.args.limits (at_decimals c.args.decimals c.args.options.now) c.in_ok-options.options c.args.input.now c.in-Ok.bound c.opening_in.result c.in_ok-options.ensures answer c.opening_in.ensures
