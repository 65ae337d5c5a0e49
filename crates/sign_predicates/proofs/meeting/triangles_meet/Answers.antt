use Rattle.std.proofs.Common.{inl, inr, ◌⊎◌}
use Rattle.std.specs.Prelude.{IsTrue}
use Rattle.sign_predicates.specs.Meeting.{triangle_of, SegmentMeetsTriangle}
use Rattle.sign_predicates.proofs.Meets.{not_true}
use Rattle.sign_predicates.proofs.Triangles.{sides_meet}
use Rattle.sign_predicates.proofs.meeting.triangles_meet.Goals as goal

pub returns-then-are_apart : goal.returns-then-are_apart
returns-then-are_apart c = (λ h. absurd (not_true h), λ m. absurd (c.are_apart.ensures c.if-are_apart.true m))

pub returns-then-sides_meet : goal.returns-then-sides_meet
returns-then-sides_meet c =
    let a = c.args in
    (λ h. (sides_meet (triangle_of a.a a.b a.c) (triangle_of a.d a.e a.f)).0 (inl (c.sides_meet.ensures.0 h)), λ _. c.if-sides_meet.true)

pub returns-else-sides_meet : goal.returns-else-sides_meet
returns-else-sides_meet c =
    (λ h. (sides_meet (triangle_of c.args.a c.args.b c.args.c) (triangle_of c.args.d c.args.e c.args.f)).0 (inr (c.sides_meet-else-sides_meet.ensures.0 h)), λ m. by ((sides_meet (triangle_of c.args.a c.args.b c.args.c) (triangle_of c.args.d c.args.e c.args.f)).1 m))
  where
    by : (SegmentMeetsTriangle c.args.a c.args.b (triangle_of c.args.d c.args.e c.args.f) ⊎ (SegmentMeetsTriangle c.args.b c.args.c (triangle_of c.args.d c.args.e c.args.f) ⊎ SegmentMeetsTriangle c.args.c c.args.a (triangle_of c.args.d c.args.e c.args.f)))
        ⊎ (SegmentMeetsTriangle c.args.d c.args.e (triangle_of c.args.a c.args.b c.args.c) ⊎ (SegmentMeetsTriangle c.args.e c.args.f (triangle_of c.args.a c.args.b c.args.c) ⊎ SegmentMeetsTriangle c.args.f c.args.d (triangle_of c.args.a c.args.b c.args.c)))
        → IsTrue c.sides_meet-else-sides_meet.result
    by (inl h) = absurd (not_true (c.if-sides_meet.ensures.1 h))
    by (inr h) = c.sides_meet-else-sides_meet.ensures.1 h
