use Rattle.std.proofs.Common.{ap, ◌∙◌, pos, Bool}
use Rattle.std.specs.Prelude.{int_le}
use Rattle.sign_predicates.specs.Point.{Point}
use Rattle.geo_laws.specs.Facet.{second_of_two}
use Rattle.facet_plane.specs.Axes.{axis_is}
use Rattle.facet_plane.proofs.Sums.{wide_back}
use Rattle.facet_plane.proofs.Walks.{unlike}
use Rattle.facet_plane.proofs.outline.is_between.Goals as goal
use Rattle.facet_laws.specs.Parity.{xor}

pub returns : goal.returns
returns c =
    let at : Point → Bool = λ v. int_le (pos 0) (second_of_two (axis_is c.args.axis) v) in
    let low = c.is_upward.ensures ∙ ap (int_le (pos 0)) (wide_back c.second_of_two.result c.second_of_two.ensures.size ∙ c.second_of_two.ensures.value) ∙ ap at c.toward.ensures in
    let high = c.is_upward-2.ensures ∙ ap (int_le (pos 0)) (wide_back c.second_of_two-2.result c.second_of_two-2.ensures.size ∙ c.second_of_two-2.ensures.value) ∙ ap at c.toward-2.ensures in
    unlike c.is_upward.result c.is_upward-2.result ∙ (λ j. xor (low j) (high j))
