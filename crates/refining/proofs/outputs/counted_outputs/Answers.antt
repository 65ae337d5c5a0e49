use Rattle.std.proofs.Common.{ap, ◌∙◌}
use Rattle.refining.specs.Outputs.{with_counts}
use Rattle.refining.proofs.outputs.counted_outputs.Goals as goal

pub returns : goal.returns
returns c =
    let made = c.in_ok-outputs.outputs in
    (made, c.in_ok-outputs.ensures, c.with_counts.ensures ∙ ap (λ counts. with_counts counts made) c.counts_in-counts.ensures)
