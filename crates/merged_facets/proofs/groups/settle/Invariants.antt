use Rattle.std.proofs.Common.{◌≡◌, ℕ, ◌<◌, ◌≤◌, get_or}
use Rattle.merged_facets.specs.Labels.{AreLabels}
use Rattle.merged_facets.proofs.groups.settle.Given as goal

-- the numbers before i lead to their labels, and the others as at first
abbrev pub invariant-loop-i : goal.invariant-loop-i
invariant-loop-i l = record {
  settled : (label : ℕ → ℕ) → AreLabels l.fn.down label → (k : ℕ) → k < l.i → get_or l.down k 0 ≡ label k;
  left : (k : ℕ) → l.i ≤ k → get_or l.down k 0 ≡ get_or l.fn.down k 0;
}
