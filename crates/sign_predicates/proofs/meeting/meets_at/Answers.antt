use Rattle.std.proofs.Common.{ap}
use Rattle.exact_algebra.proofs.Size.{read}
use Rattle.sign_predicates.specs.Meeting.{grid_triangle}
use Rattle.sign_predicates.proofs.Meets.{passing_at, turned_at, apart_at, iff_trans, not_true, fall_back}
use mir.Syntax.{w128}
use mir.Val.{of_z}
use Rattle.sign_predicates.proofs.meeting.meets_at.Goals as goal

pub returns-else-s-t : goal.returns-else-s-t
returns-else-s-t c =
    let a = c.args in
    iff_trans c.passes_within.ensures (passing_at a.s a.t (grid_triangle a.f.now) a.p a.q c.requires.s_is c.requires.t_is
    ((fall_back (read w128 a.s c.ranges.s.sfits) (read w128 a.t c.ranges.t.sfits)).0 (c.falls.ensures.0 c.if-falls.true)) (λ e. c.if-s-t.false (ap (of_z w128) e)))

pub returns-then-falls-2 : goal.returns-then-falls-2
returns-then-falls-2 c =
    let a = c.args in
    iff_trans c.passes_within-then-falls-2.ensures (turned_at a.s a.t (grid_triangle a.f.now) a.p a.q c.requires.s_is c.requires.t_is
    (λ h. not_true (c.if-falls.ensures.1 ((fall_back (read w128 a.s c.ranges.s.sfits) (read w128 a.t c.ranges.t.sfits)).1 h)))
    ((fall_back (read w128 a.t c.ranges.t.sfits) (read w128 a.s c.ranges.s.sfits)).0 (c.falls-else-falls.ensures.0 c.if-falls-2.true)))

pub returns-else-falls-2 : goal.returns-else-falls-2
returns-else-falls-2 c =
    let a = c.args in (
      λ h. absurd (not_true h),
      λ m. absurd (apart_at a.s a.t (grid_triangle a.f.now) a.p a.q c.requires.s_is c.requires.t_is
          (λ h. not_true (c.if-falls.ensures.1 ((fall_back (read w128 a.s c.ranges.s.sfits) (read w128 a.t c.ranges.t.sfits)).1 h)))
          (λ h. not_true (c.if-falls-2.ensures.1 ((fall_back (read w128 a.t c.ranges.t.sfits) (read w128 a.s c.ranges.s.sfits)).1 h))) m),
    )
