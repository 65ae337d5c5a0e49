use Rattle.std.proofs.Common.{refl}
use Rattle.sign_predicates.proofs.Parts.{folded_above, folded_rest}
use Rattle.sign_predicates.proofs.sphere.folded.Goals as goal

pub returns-then-vanishes : goal.returns-then-vanishes
returns-then-vanishes c = folded_rest c.args.high c.args.low _ _ c.requires.high_small c.requires.low_small refl (c.if-vanishes.ensures.0 refl) refl

pub returns-else-vanishes : goal.returns-else-vanishes
returns-else-vanishes c = folded_above c.args.high c.args.low _ c.requires.high_small c.requires.low_small refl (λ e. let f = c.if-vanishes.ensures.1 e in cc)
