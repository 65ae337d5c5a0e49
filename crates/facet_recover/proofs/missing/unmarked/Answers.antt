use Rattle.std.proofs.Common.{◌≡◌, ◌++◌, ◌∷◌, [], ◌<◌, true, false, length, get_or, take, ap, subst, sym, ◌∙◌, arith}
use Rattle.std.proofs.lemmas.List.{take_all}
use Rattle.geo_laws.specs.declared.complex.FacetTriangle.{FacetTriangle}
use Rattle.facet_recover.specs.Missing.{AreMissing}
use Rattle.facet_recover.proofs.Lists.{taken_more, any_default}
use Rattle.facet_recover.proofs.Listed.{missing_more, missing_same, listed_at, unlisted_at}
use Rattle.facet_recover.proofs.missing.unmarked.Goals as goal
use Rattle.facet_recover.proofs.missing.unmarked.Goals.{then-not-listed-i+in_ok-push, else-not-listed-i}

pub loop-i-preserved : goal.loop-i-preserved
loop-i-preserved c rows h =
    let ts = c.args.triangles.now in
    let i = c.loop-i.i in
    let us = take i ts in
    let d : FacetTriangle = record { a = 0; b = 0; c = 0; facet = 0 } in
    let t = get_or ts i d in
    let below : i < length ts = omega arith in
    let is : (e : FacetTriangle) → get_or ts i e ≡ t = λ e. any_default ts i e d below in
    let mark : get_or c.args.listed.now i true ≡ get_or c.args.listed.now i false = any_default c.args.listed.now i true false (omega (arith, h.counted, below)) in
    subst (λ vs. AreMissing vs rows c.if-not-listed-i.missing) (sym (taken_more ts i t below is))
    (elim c.if-not-listed-i.branch [
      | then-not-listed-i+in_ok-push w ↦
          subst (AreMissing (us ++ t ∷ []) rows) (sym (w.missing-is ∙ w.in_ok-push.ensures.ok ∙ ap (λ u. c.loop-i.missing ++ u ∷ []) (sym (w.at.ensures d))))
          (missing_more us c.loop-i.missing rows t (unlisted_at ts rows c.args.listed.now i t h below is (mark ∙ w.if-not-listed-i.true)) (c.loop-i.invariant rows h))
      | else-not-listed-i w ↦
          subst (AreMissing (us ++ t ∷ []) rows) (sym w.missing-is)
          (missing_same us c.loop-i.missing rows t (listed_at ts rows c.args.listed.now i t h below is (mark ∙ w.if-not-listed-i.false)) (c.loop-i.invariant rows h))
    ])

pub returns : goal.returns
returns c rows h = subst (λ ts. AreMissing ts rows c.loop-i.missing) (take_all c.loop-i.i c.args.triangles.now (omega arith)) (c.loop-i.invariant rows h)
