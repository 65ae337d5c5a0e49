use Rattle.std.proofs.Common.{◌≡◌, ◌≤◌, ◌<◌, ◌^◌, ◌++◌, length, drop}
use Rattle.tet_text.specs.Printing.{glyphs}
use Rattle.tet_text.proofs.printing.fill_wide.Given as goal

abbrev pub invariant-loop-left : goal.invariant-loop-left
invariant-loop-left l = (glyphs l.left ++ drop l.at l.buffer ≡ glyphs l.number) × (l.left < 10 ^ l.at) × (l.at ≤ 36) × (length l.buffer ≡ 36)

abbrev pub decreases-loop-left : goal.decreases-loop-left
decreases-loop-left l = l.left
