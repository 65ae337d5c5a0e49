use Rattle.std.proofs.Common.{inl, inr, ap, sym, ◌∙◌, pos, Bool, arith}
use Rattle.std.specs.Prelude.{int_le}
use Rattle.std.proofs.lemmas.Int.{ints}
use Rattle.exact_algebra.proofs.Signs.{pos_same, neg_same}
use Rattle.sign_predicates.specs.Point.{Point}
use Rattle.geo_laws.specs.Facet.{first_of_two, second_of_two}
use Rattle.facet_plane.specs.Axes.{axis_is}
use Rattle.facet_plane.proofs.Sums.{wide_back}
use Rattle.facet_plane.proofs.Walks.{like}
use Rattle.facet_plane.proofs.outline.crossing_of.Goals as goal

pub returns-then-is_upward : goal.returns-then-is_upward
returns-then-is_upward c =
    let at : Point → Bool = λ v. int_le (pos 0) (second_of_two (axis_is c.args.axis) v) in
    let low = c.is_upward.ensures ∙ ap (int_le (pos 0)) (wide_back c.second_of_two.result c.second_of_two.ensures.size ∙ c.second_of_two.ensures.value) ∙ ap at c.toward-u.ensures in
    let high = c.is_upward-2.ensures ∙ ap (int_le (pos 0)) (wide_back c.second_of_two-2.result c.second_of_two-2.ensures.size ∙ c.second_of_two-2.ensures.value) ∙ ap at c.toward-v.ensures in
    inl (sym low ∙ like _ _ c.if-is_upward.true ∙ high)

pub returns-then-last-gt0 : goal.returns-then-last-gt0
returns-then-last-gt0 c =
    let low = c.first_of_two-first.ensures.value ∙ ap (first_of_two (axis_is c.args.axis)) c.toward-u.ensures in
    let high = c.first_of_two-last.ensures.value ∙ ap (first_of_two (axis_is c.args.axis)) c.toward-v.ensures in
    inr (pos_same _ c.first_of_two-first.result (sym low) (omega (arith, ints, c.if-first-gt0.true)), pos_same _ c.first_of_two-last.result (sym high) (omega (arith, ints, c.if-last-gt0.true)))

pub returns-then-last-lt0 : goal.returns-then-last-lt0
returns-then-last-lt0 c =
    let low = c.first_of_two-first.ensures.value ∙ ap (first_of_two (axis_is c.args.axis)) c.toward-u.ensures in
    let high = c.first_of_two-last.ensures.value ∙ ap (first_of_two (axis_is c.args.axis)) c.toward-v.ensures in
    (neg_same _ c.first_of_two-first.result (sym low) (omega (arith, ints, c.if-first-lt0.true)), neg_same _ c.first_of_two-last.result (sym high) (omega (arith, ints, c.if-last-lt0.true)))
