use Rattle.std.specs.List.{AllWithin}
use Rattle.tetwhere_run.specs.Factors.{HasFewTwos}
use Rattle.tetwhere_run.proofs.halvings.few_halvings.Given as goal

abbrev pub invariant-loop-p : goal.invariant-loop-p
invariant-loop-p l = AllWithin HasFewTwos l.points 0 l.p-index
