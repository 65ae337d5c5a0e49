use Rattle.std.proofs.Common.{rules}
use Rattle.memory_runs.specs.Runs.{IsTetgenRun}
use Rattle.tetgen_c.proofs.Answered.{lacks_space}
use Rattle.tetgen_c.proofs.runs.tetgen_run.Goals as goal

pub returns-clause-space : goal.returns-clause-space
returns-clause-space c is =
    lacks_space IsTetgenRun c.args.task.now _ _ _ c.answer.result c.tetgen_into.result c.answer.ensures c.tetgen_into.ensures.code c.tetgen_into.ensures.fault
    (search rules)
