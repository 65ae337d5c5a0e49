use Rattle.std.proofs.Common.{arith}
use Rattle.tetwhere_run.specs.Locating.{query_line}
use Rattle.mesh_files.proofs.Lines.{next_line}
use Rattle.tetwhere_run.proofs.answers.answers.Goals as goal

pub loop-i-preserved : goal.loop-i-preserved
loop-i-preserved c =
    next_line (query_line c.args.text.now c.args.settled.now) c.loop-i.i c.args.text.now.queries.decimals c.get-query.result.now c.loop-i.lines _ _ (omega arith)
    (c.get-query.ensures c.get-query.result.now) c.in_ok-append_line.ensures c.loop-i.invariant
