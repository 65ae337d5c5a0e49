use Rattle.std.proofs.Common.{◌≡◌, ◌<◌, ◌∙◌, ◌+ℤ◌, ◌-ℤ◌, ◌*ℤ◌, unsigned_abs, arith, subst}
use Rattle.exact_algebra.proofs.Size.{read}
use Rattle.sign_predicates.specs.Sphere.{HaveOneSign, in_parts, lifted_sum}
use Rattle.sign_predicates.proofs.Vectors.{determinant_back}
use Rattle.sign_predicates.proofs.Parts.{part_back, height_back, lower_products, products_in_parts, same_sign, sign_is, upper_alone}
use mir.Syntax.{w128}
use Rattle.sign_predicates.proofs.sphere.sum_of_four.Goals as goal

pub returns-then-unsigned_abs-from : goal.returns-then-unsigned_abs-from
returns-then-unsigned_abs-from c =
    let h = c.args.h in
    let m = c.args.v in
    let g = c.requires.heights in
    let w = c.requires.volumes in
    let p = c.split-p in
    let q = c.split-q in
    let r = c.split-r in
    let s = c.split-s in
    let a = height_back h.a g.a_small in
    let b = height_back h.b g.b_small in
    let d = height_back h.c g.c_small in
    let e = height_back h.d g.d_small in
    let back = read w128 c.short_sum_of_four-high.result c.short_sum_of_four-high.type_inv in
    let high = back ∙ c.short_sum_of_four-high.ensures.value
    ∙ (λ i. a i *ℤ part_back p.result.high p.ensures.high i -ℤ b i *ℤ part_back q.result.high q.ensures.high i
    +ℤ d i *ℤ part_back r.result.high r.ensures.high i -ℤ e i *ℤ part_back s.result.high s.ensures.high i) in
    let sum = h.a *ℤ p.result.high -ℤ h.b *ℤ q.result.high +ℤ h.c *ℤ r.result.high -ℤ h.d *ℤ s.result.high in
    let far : c.args.reach < unsigned_abs sum = subst (λ z. c.args.reach < unsigned_abs z) high (omega arith) in
    let low = lower_products h.a h.b h.c h.d p.result.low q.result.low r.result.low s.result.low c.args.reach
    c.requires.reach p.ensures.low q.ensures.low r.ensures.low s.ensures.low in
    sign_is high
    (same_sign (upper_alone sum _ c.args.reach far low)
    (products_in_parts h.a h.b h.c h.d p.result.high q.result.high r.result.high s.result.high p.result.low q.result.low r.result.low s.result.low
    ∙ (λ i. h.a *ℤ (p.ensures.value ∙ determinant_back m.a w.a_wide) i -ℤ h.b *ℤ (q.ensures.value ∙ determinant_back m.b w.b_wide) i
    +ℤ h.c *ℤ (r.ensures.value ∙ determinant_back m.c w.c_wide) i -ℤ h.d *ℤ (s.ensures.value ∙ determinant_back m.d w.d_wide) i)))
