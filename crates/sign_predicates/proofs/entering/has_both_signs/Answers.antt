use Rattle.exact_algebra.proofs.Size.{read}
use Rattle.sign_predicates.proofs.Enter.{same_signs, signs_back}
use mir.Syntax.{w128}
use Rattle.sign_predicates.proofs.entering.has_both_signs.Goals as goal

pub returns-then-some_above : goal.returns-then-some_above
returns-then-some_above c =
    let a = c.args in
    let g = c.ranges in (
      λ h. same_signs (read w128 a.a g.a.sfits) (read w128 a.b g.b.sfits) (read w128 a.c g.c.sfits) (read w128 a.d g.d.sfits) (c.some_above.ensures.0 c.if-some_above.true, c.some_below.ensures.0 h),
      λ k. c.some_below.ensures.1 (signs_back (read w128 a.a g.a.sfits) (read w128 a.b g.b.sfits) (read w128 a.c g.c.sfits) (read w128 a.d g.d.sfits) k).1,
    )
