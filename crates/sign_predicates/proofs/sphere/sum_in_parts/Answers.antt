use Rattle.std.proofs.Common.{◌∙◌, ◌+ℤ◌, ◌-ℤ◌, ◌*ℤ◌}
use Rattle.exact_algebra.proofs.Size.{read}
use Rattle.sign_predicates.specs.Sphere.{in_parts}
use Rattle.sign_predicates.proofs.Vectors.{determinant_back}
use Rattle.sign_predicates.proofs.Parts.{part_back, low_back, height_back, products_in_parts, same_sign, sign_is}
use mir.Syntax.{w128}
use Rattle.sign_predicates.proofs.sphere.sum_in_parts.Goals as goal

pub returns : goal.returns
returns c =
    let h = c.args.h in
    let m = c.args.v in
    let g = c.requires.heights in
    let w = c.requires.volumes in
    let p = c.split-p in
    let q = c.split-q in
    let r = c.split-r in
    let s = c.split-s in
    let a = height_back h.a g.a_small in
    let b = height_back h.b g.b_small in
    let d = height_back h.c g.c_small in
    let e = height_back h.d g.d_small in
    let high = read w128 c.short_sum_of_four-high.result c.short_sum_of_four-high.type_inv ∙ c.short_sum_of_four-high.ensures.value
    ∙ (λ i. a i *ℤ part_back p.result.high p.ensures.high i -ℤ b i *ℤ part_back q.result.high q.ensures.high i
    +ℤ d i *ℤ part_back r.result.high r.ensures.high i -ℤ e i *ℤ part_back s.result.high s.ensures.high i) in
    let low = read w128 c.short_sum_of_four-low.result c.short_sum_of_four-low.type_inv ∙ c.short_sum_of_four-low.ensures.value
    ∙ (λ i. a i *ℤ low_back p.result.low p.ensures.low i -ℤ b i *ℤ low_back q.result.low q.ensures.low i
    +ℤ d i *ℤ low_back r.result.low r.ensures.low i -ℤ e i *ℤ low_back s.result.low s.ensures.low i) in
    sign_is (read w128 c.folded.result c.folded.type_inv)
    (same_sign c.folded.ensures
    ((λ i. in_parts (high i) (low i))
    ∙ products_in_parts h.a h.b h.c h.d p.result.high q.result.high r.result.high s.result.high p.result.low q.result.low r.result.low s.result.low
    ∙ (λ i. h.a *ℤ (p.ensures.value ∙ determinant_back m.a w.a_wide) i -ℤ h.b *ℤ (q.ensures.value ∙ determinant_back m.b w.b_wide) i
    +ℤ h.c *ℤ (r.ensures.value ∙ determinant_back m.c w.c_wide) i -ℤ h.d *ℤ (s.ensures.value ∙ determinant_back m.d w.d_wide) i)))
