use Rattle.std.proofs.Common.{◌≡◌, inl, inr, arith, ap, sym, ◌∙◌}
use Rattle.std.proofs.lemmas.Bool.{cases_lt}
use Rattle.sign_predicates.specs.Point.{origin}
use Rattle.geo_laws.specs.Delaunay.{point}
use Rattle.refining.specs.Addable.{is_multiple}
use Rattle.refining.proofs.multiples.first_coarse.Goals as goal

pub loop-i-preserved : goal.loop-i-preserved
loop-i-preserved c = λ k lt. elim (cases_lt k c.loop-i.i) [
  | inl less ↦ c.loop-i.invariant k less
  | inr le ↦
      let e : k ≡ c.loop-i.i = omega arith in
      let here : point c.args.points.now c.loop-i.i ≡ c.at.result = c.at.ensures origin in
      ap (λ i. is_multiple c.args.unit (point c.args.points.now i)) e ∙ ap (is_multiple c.args.unit) here ∙ sym c.is_multiple.ensures ∙ c.if-not-is_multiple.false
]
