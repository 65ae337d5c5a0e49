use Rattle.std.proofs.Common.{◌≡◌, length}
use Rattle.tet_text.specs.Views.{content_left, line_total}
use Rattle.tet_text.proofs.lines.Lines.next_fields.Given as goal

abbrev pub invariant-loop-content : goal.invariant-loop-content
invariant-loop-content l = (content_left l.self ≡ content_left l.fn.self) × (line_total l.self ≡ line_total l.fn.self)

abbrev pub decreases-loop-content : goal.decreases-loop-content
decreases-loop-content l = length l.self.rest.now
