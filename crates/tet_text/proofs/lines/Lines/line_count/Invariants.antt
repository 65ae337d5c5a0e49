use Rattle.std.proofs.Common.{◌≡◌, ◌<◌, ◌^◌, ◌+◌, length}
use Rattle.tet_text.specs.Lines.{lines_of}
use Rattle.tet_text.proofs.lines.Lines.line_count.Given as goal

abbrev pub invariant-loop-rest : goal.invariant-loop-rest
invariant-loop-rest l = (l.count + length (lines_of l.rest) ≡ l.self.passed + length (lines_of l.self.rest.now)) × (l.count + length l.rest < 2 ^ 64)

abbrev pub decreases-loop-rest : goal.decreases-loop-rest
decreases-loop-rest l = length l.rest
