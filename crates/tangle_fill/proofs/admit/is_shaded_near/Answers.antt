use Rattle.std.proofs.Common.{refl}
use Rattle.tangle_fill.proofs.Joined.{not_true}
use Rattle.tangle_fill.proofs.admit.is_shaded_near.Goals as goal

pub returns-then-is_shaded_by : goal.returns-then-is_shaded_by
returns-then-is_shaded_by c = (λ h. c.is_shaded_by.ensures c.if-is_shaded_by.true, λ s. refl)

pub returns-in-Some : goal.returns-in-Some
returns-in-Some c = (λ h. c.in-Some.ensures, λ s. refl)

pub returns-in-None : goal.returns-in-None
returns-in-None c = (λ h. not_true h, λ s. absurd (c.in-None.ensures s))
