use Rattle.std.proofs.Common.{◌∙◌}
use Rattle.exact_algebra.proofs.Size.{read}
use Rattle.sign_predicates.specs.Meeting.{grid_triangle}
use Rattle.sign_predicates.proofs.Meets.{not_true}
use Rattle.sign_predicates.proofs.Legs.{enters_of}
use Rattle.sign_predicates.proofs.Enter.{straddles_of, same_signs, signs_back}
use mir.Syntax.{w128}
use Rattle.sign_predicates.proofs.entering.enters_at.Goals as goal

pub enters_across-requires-clause-straddles : goal.enters_across-requires-clause-straddles
enters_across-requires-clause-straddles c =
    let a = c.args in
    let r = c.requires in
    same_signs
    (read w128 a.sa c.ranges.sa.sfits ∙ r.sa_is) (read w128 a.sb c.ranges.sb.sfits ∙ r.sb_is) (read w128 a.sc c.ranges.sc.sfits ∙ r.sc_is) (read w128 a.sd c.ranges.sd.sfits ∙ r.sd_is)
    (c.has_both_signs.ensures.0 c.if-has_both_signs.true)

pub returns-else-has_both_signs : goal.returns-else-has_both_signs
returns-else-has_both_signs c =
    let a = c.args in
    let r = c.requires in (
      λ h. absurd (not_true h),
      λ k. absurd (not_true (c.if-has_both_signs.ensures.1 (signs_back
          (read w128 a.sa c.ranges.sa.sfits ∙ r.sa_is) (read w128 a.sb c.ranges.sb.sfits ∙ r.sb_is) (read w128 a.sc c.ranges.sc.sfits ∙ r.sc_is) (read w128 a.sd c.ranges.sd.sfits ∙ r.sd_is)
          (straddles_of a.t.now (grid_triangle a.f.now) r.positive r.spans (enters_of a.t.now (grid_triangle a.f.now) k))))),
    )
