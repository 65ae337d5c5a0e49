use Rattle.std.proofs.Common.{◌∙◌, sym}
use Rattle.sign_predicates.proofs.Meets.{segments_flat, not_true}
use Rattle.sign_predicates.proofs.meeting.segments_meet.Goals as goal

pub returns-else-coplanar : goal.returns-else-coplanar
returns-else-coplanar c =
    let a = c.args in
    (λ h. absurd (not_true (sym c.if-coplanar.false ∙ h)), λ m. c.coplanar.ensures.1 (segments_flat a.p a.q a.a a.b m))

pub returns-then-boxes_apart : goal.returns-then-boxes_apart
returns-then-boxes_apart c = (λ h. absurd (not_true h), λ m. absurd (c.boxes_apart.ensures c.if-boxes_apart.true m))
