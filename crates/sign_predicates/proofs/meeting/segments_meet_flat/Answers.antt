use Rattle.std.proofs.Common.{◌≡◌, ◌∙◌, subst, sym, refl}
use Rattle.sign_predicates.specs.Orientation.{cross}
use Rattle.sign_predicates.specs.Turns.{IsZeroVector, common_normal}
use Rattle.sign_predicates.proofs.Meets.{parallel_meet, crossing_meet, iff_trans, not_true}
use Rattle.sign_predicates.proofs.meeting.segments_meet_flat.Goals as goal

pub returns-then-is_zero : goal.returns-then-is_zero
returns-then-is_zero c =
    let a = c.args in
    let e : c.cross-n.result ≡ common_normal a.p a.q a.a a.b = c.cross-n.ensures ∙ (λ t. cross (c.from_to.ensures t) (c.from_to-2.ensures t)) in
    iff_trans c.has_end_on.ensures (parallel_meet a.p a.q a.a a.b (subst IsZeroVector e (c.if-is_zero.ensures.0 refl)))

pub returns-else-is_zero : goal.returns-else-is_zero
returns-else-is_zero c =
    let a = c.args in
    let e : c.cross-n.result ≡ common_normal a.p a.q a.a a.b = c.cross-n.ensures ∙ (λ t. cross (c.from_to.ensures t) (c.from_to-2.ensures t)) in
    iff_trans c.crosses_flat.ensures (crossing_meet a.p a.q a.a a.b c.requires (λ z. not_true (c.if-is_zero.ensures.1 (subst IsZeroVector (sym e) z))))
