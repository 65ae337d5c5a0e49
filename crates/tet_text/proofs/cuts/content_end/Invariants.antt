use Rattle.std.proofs.Common.{◌≡◌, ◌≤◌, ◌<◌, ◌-◌, ℕ, false, length, get_or}
use Rattle.tet_text.specs.Contents.{ends_content}
use Rattle.tet_text.proofs.cuts.content_end.Given as goal

abbrev pub invariant-loop-at : goal.invariant-loop-at
invariant-loop-at l = (l.at ≤ length l.bytes) × ((k : ℕ) → k < l.at → ends_content (get_or l.bytes k 0) ≡ false)

abbrev pub decreases-loop-at : goal.decreases-loop-at
decreases-loop-at l = length l.bytes - l.at
