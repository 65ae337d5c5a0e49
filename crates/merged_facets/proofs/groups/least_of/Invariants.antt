use Rattle.std.proofs.Common.{◌≡◌, ℕ, ◌<◌, length}
use Rattle.merged_facets.specs.Labels.{IsForest, AreLabels}
use Rattle.merged_facets.proofs.groups.least_of.Given as goal

-- the numbers are labelled as before, and the number that was come to as the first
abbrev pub invariant-loop-down : goal.invariant-loop-down
invariant-loop-down l = record {
  there : l.at < length l.down;
  forest : IsForest l.down;
  labels : (label : ℕ → ℕ) → AreLabels l.fn.down label → AreLabels l.down label × (label l.at ≡ label l.i);
}

abbrev pub decreases-loop-down : goal.decreases-loop-down
decreases-loop-down l = l.at
