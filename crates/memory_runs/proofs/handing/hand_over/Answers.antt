use Rattle.memory_runs.proofs.Handed.{texts_handed, texts_short}
use Rattle.memory_runs.proofs.handing.hand_over.Goals as goal

pub returns-in-Ok-clause-texts : goal.returns-in-Ok-clause-texts
returns-in-Ok-clause-texts c =
    texts_handed c.args.ran.now c.args.wanted.now _ _ c.in_ok-made.ensures.lengths c.in_ok-made.ensures.bytes _ _ _ _ c.code-code.ensures c.in-Ok.ensures.lengths c.in-Ok.ensures.bytes

pub returns-clause-fault : goal.returns-clause-fault
returns-clause-fault c =
    texts_short c.args.ran.now c.args.wanted.now _ _ c.in_ok-made.ensures.lengths c.in_ok-made.ensures.bytes _ _ c.in-Err.fault c.in-Err.ensures.fault
