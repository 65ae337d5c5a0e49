use Rattle.std.proofs.Common.{refl}
use Rattle.tangle_fill.proofs.Joined.{not_true}
use Rattle.tangle_fill.proofs.crossed.uncrossed_near.Goals as goal

pub returns-then-is_crossed_by : goal.returns-then-is_crossed_by
returns-then-is_crossed_by c = (λ h. not_true h, λ free. absurd (c.is_crossed_by.ensures c.if-is_crossed_by.true free))

pub returns-in-Some : goal.returns-in-Some
returns-in-Some c = (λ h. not_true h, λ free. absurd (c.in-Some.ensures free))

pub returns-in-None : goal.returns-in-None
returns-in-None c = (λ h. c.in-None.ensures, λ free. refl)
