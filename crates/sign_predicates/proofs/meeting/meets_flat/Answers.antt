use Rattle.std.proofs.Common.{◌⊎◌, inl, inr}
use Rattle.std.specs.Prelude.{IsTrue}
use Rattle.sign_predicates.specs.Orientation.{normal}
use Rattle.sign_predicates.specs.Meeting.{grid_triangle, segment, SegmentMeetsTriangle}
use Rattle.sign_predicates.specs.Turns.{IsZeroVector, TurnsAbout}
use Rattle.sign_predicates.proofs.Meets.{flat_meet, not_true}
use Rattle.sign_predicates.proofs.meeting.meets_flat.Goals as goal

pub returns-then-holds_flat : goal.returns-then-holds_flat
returns-then-holds_flat c =
    let a = c.args in
    (λ h. (flat_meet (grid_triangle a.f.now) a.p a.q c.requires).0 (inl (c.holds_flat.ensures.0 h)), λ _. c.if-holds_flat.true)

pub returns-else-holds_flat : goal.returns-else-holds_flat
returns-else-holds_flat c =
    (λ h. (flat_meet (grid_triangle c.args.f.now) c.args.p c.args.q c.requires).0 (inr (c.meets_side.ensures.0 h)), λ m. by ((flat_meet (grid_triangle c.args.f.now) c.args.p c.args.q c.requires).1 m))
  where
    by : (¬ IsZeroVector (normal (grid_triangle c.args.f.now)) × TurnsAbout (grid_triangle c.args.f.now) c.args.p)
        ⊎ (SegmentMeetsTriangle c.args.p c.args.q (segment c.args.f.now.a c.args.f.now.b) ⊎ (SegmentMeetsTriangle c.args.p c.args.q (segment c.args.f.now.b c.args.f.now.c) ⊎ SegmentMeetsTriangle c.args.p c.args.q (segment c.args.f.now.c c.args.f.now.a)))
        → IsTrue c.meets_side.result
    by (inl h) = absurd (not_true (c.if-holds_flat.ensures.1 h))
    by (inr h) = c.meets_side.ensures.1 h
