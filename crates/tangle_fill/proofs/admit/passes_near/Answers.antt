use Rattle.std.proofs.Common.{inl, inr, sym, ◌∙◌}
use Rattle.tangle_fill.proofs.Admitting.{shaded_of}
use Rattle.tangle_fill.proofs.admit.passes_near.Goals as goal

pub returns-then-is_corner_or_outside : goal.returns-then-is_corner_or_outside
returns-then-is_corner_or_outside c = (λ h. record { either = inl (sym c.is_corner_or_outside.ensures ∙ c.if-is_corner_or_outside.true) }, λ p. c.if-is_corner_or_outside.true)

pub returns-else-is_corner_or_outside : goal.returns-else-is_corner_or_outside
returns-else-is_corner_or_outside c = (
  λ h. record { either = inr (c.is_shaded_near.ensures.0 h).by_sign },
  λ p. c.is_shaded_near.ensures.1 (shaded_of c.args.complex.now.points.now c.args.complex.now.triangles.now c.args.row c.args.i (sym c.is_corner_or_outside.ensures ∙ c.if-is_corner_or_outside.false) p),
)
