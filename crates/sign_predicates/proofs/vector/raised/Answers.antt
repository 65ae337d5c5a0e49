use Rattle.std.proofs.Common.{◌^◌, ◌<◌, [], ◌∷◌, subst, ap, ◌∙◌, ℕ, ℤ, pos, w32, of_z}
use Rattle.exact_algebra.proofs.Ring.{num, var, add}
use Rattle.exact_algebra.proofs.Size.{machine_is}
use Rattle.sign_predicates.proofs.Short.{raised_is_short}
use Rattle.sign_predicates.proofs.vector.raised.Goals as goal

pub returns : goal.returns
returns c = λ h.
    let x = c.args.x in
    let sum = machine_is w32 (2 ^ 30 ∷ []) (x ∷ []) (add (var 0) (num (pos (2 ^ 20)))) (c.requires, tt) tt in
    raised_is_short x c.requires (subst (λ (n : ℕ). n < 2 ^ 21) (c.cast_unsigned.ensures ∙ ap (λ (z : ℤ). of_z w32 z) sum) h)
