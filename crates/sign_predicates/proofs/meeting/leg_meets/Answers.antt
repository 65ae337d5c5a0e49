use Rattle.sign_predicates.proofs.Meets.{not_true}
use Rattle.sign_predicates.proofs.meeting.leg_meets.Goals as goal

pub returns-then-boxes_apart : goal.returns-then-boxes_apart
returns-then-boxes_apart c = (λ h. absurd (not_true h), λ m. absurd (c.boxes_apart.ensures c.if-boxes_apart.true m))
