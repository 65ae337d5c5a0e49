use Rattle.std.proofs.Common.{inl, inr, ap, ◌∙◌}
use Rattle.geo_laws.specs.Facet.{first_of_two, second_of_two}
use Rattle.facet_plane.specs.Axes.{axis_is}
use Rattle.facet_plane.proofs.Boxed.{beyond_same}
use Rattle.facet_plane.proofs.Sums.{wide_back}
use Rattle.facet_plane.proofs.outline.is_apart.Goals as goal

pub returns-then-are_beyond : goal.returns-then-are_beyond
returns-then-are_beyond c h =
    inl (beyond_same _ _ _ _ (wide_back c.first_of_two.result c.first_of_two.ensures.size ∙ c.first_of_two.ensures.value ∙ ap (first_of_two (axis_is c.args.axis)) c.toward-u.ensures)
    (wide_back c.first_of_two-2.result c.first_of_two-2.ensures.size ∙ c.first_of_two-2.ensures.value ∙ ap (first_of_two (axis_is c.args.axis)) c.toward-v.ensures) (c.are_beyond.ensures h))

pub returns-else-are_beyond : goal.returns-else-are_beyond
returns-else-are_beyond c h =
    inr (beyond_same _ _ _ _ (wide_back c.second_of_two.result c.second_of_two.ensures.size ∙ c.second_of_two.ensures.value ∙ ap (second_of_two (axis_is c.args.axis)) c.toward-u.ensures)
    (wide_back c.second_of_two-else-are_beyond.result c.second_of_two-else-are_beyond.ensures.size ∙ c.second_of_two-else-are_beyond.ensures.value ∙ ap (second_of_two (axis_is c.args.axis)) c.toward-v.ensures) (c.are_beyond-else-are_beyond.ensures h))
