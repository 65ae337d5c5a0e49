use Rattle.std.proofs.Common.{◌⊎◌, inl, inr, subst, sym}
use Rattle.std.specs.Prelude.{IsTrue}
use Rattle.sign_predicates.specs.Meeting.{grid_triangle}
use Rattle.sign_predicates.specs.Entering.{SideEnters, SectionWithin}
use Rattle.sign_predicates.specs.declared.tetrahedron.Corners.{Corners}
use Rattle.sign_predicates.proofs.Meets.{not_true}
use Rattle.sign_predicates.proofs.Enter.{enter_law}
use Rattle.sign_predicates.proofs.entering.enters_across.Goals as goal

pub returns-then-side_enters : goal.returns-then-side_enters
returns-then-side_enters c =
    let a = c.args in
    let law = enter_law a.t.now (grid_triangle a.f.now) c.requires.positive c.requires.spans in
    (λ h. law.0 (c.requires.straddles, inl (c.side_enters.ensures.0 h)), λ _. c.if-side_enters.true)

pub returns-else-side_enters : goal.returns-else-side_enters
returns-else-side_enters c = (
  λ h. (enter_law c.args.t.now (grid_triangle c.args.f.now) c.requires.positive c.requires.spans).0
      (c.requires.straddles, inr (subst (λ (t : Corners). SectionWithin t (grid_triangle c.args.f.now)) (sym c.requires.corners) (c.section_within.ensures.0 h))),
  λ k. by ((enter_law c.args.t.now (grid_triangle c.args.f.now) c.requires.positive c.requires.spans).1 k).1,
)
  where
    by : SideEnters c.args.t.now (grid_triangle c.args.f.now) ⊎ SectionWithin c.args.t.now (grid_triangle c.args.f.now) → IsTrue c.section_within.result
    by (inl e) = absurd (not_true (c.if-side_enters.ensures.1 e))
    by (inr w) = c.section_within.ensures.1 (subst (λ (t : Corners). SectionWithin t (grid_triangle c.args.f.now)) c.requires.corners w)
