use Rattle.std.proofs.Common.{◌<◌, ◌≤◌, length, get_or, ◌∙◌, arith}
use Rattle.std.proofs.lemmas.List.{length-set}
use Rattle.merged_facets.proofs.Labels.{forest_set, labels_set}
use Rattle.merged_facets.proofs.groups.least_of.Goals as goal

pub loop-down-preserved : goal.loop-down-preserved
loop-down-preserved c =
    let down = c.loop-down.down in
    let at = c.loop-down.at in
    let next = get_or down at 0 in
    let further = get_or down next 0 in
    let inv = c.loop-down.invariant in
    let first : next ≤ at = inv.forest at inv.there in
    let below : next < length down = omega (arith, inv.there) in
    let second : further ≤ next = inv.forest next below in
    let less : further ≤ at = omega arith in
    record {
      there = omega (arith, length-set down at further, inv.there);
      forest = forest_set down at further inv.there less inv.forest;
      labels = λ label h.
          let k = inv.labels label h in
          let same = k.0.kept next below ∙ k.0.kept at inv.there in
          (labels_set down label at further inv.there second inv.forest same k.0, same ∙ k.1);
    }
