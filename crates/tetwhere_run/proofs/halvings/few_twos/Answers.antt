use Rattle.std.proofs.Common.{ap, arith, unsigned_abs}
use Rattle.tet_text.specs.Decimals.{Scaled}
use Rattle.tetwhere_run.proofs.Factors.{few_twos}
use Rattle.tetwhere_run.proofs.halvings.few_twos.Goals as goal

pub returns : goal.returns
returns c =
    let same = ap (λ (d : Scaled). unsigned_abs d.value) c.d.view_is in
    let small = c.d.invariant.small in
    few_twos c.args.d.now (omega arith)
