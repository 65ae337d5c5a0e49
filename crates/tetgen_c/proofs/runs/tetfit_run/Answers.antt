use Rattle.std.proofs.Common.{rules}
use Rattle.memory_runs.specs.Runs.{IsTetfitRun}
use Rattle.tetgen_c.proofs.Answered.{lacks_space}
use Rattle.tetgen_c.proofs.runs.tetfit_run.Goals as goal

pub returns-clause-space : goal.returns-clause-space
returns-clause-space c is =
    lacks_space IsTetfitRun c.args.task.now _ _ _ c.answer.result c.tetfit_into.result c.answer.ensures c.tetfit_into.ensures.code c.tetfit_into.ensures.fault
    (search rules)
