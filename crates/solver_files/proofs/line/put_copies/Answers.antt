use Rattle.solver_files.proofs.Parts.{next_copy}
use Rattle.solver_files.proofs.line.put_copies.Goals as goal

pub loop-preserved : goal.loop-preserved
loop-preserved c = next_copy c.loop.counter c.args.text.now c.args.out.now c.loop.out c.append.new.self c.loop.invariant c.in_ok-append.ensures.ok
