use Rattle.std.proofs.Common.{◌*◌, ◌-◌, ◌/◌, ◌^◌, min, ap, ◌∙◌}
use Rattle.tet_shapes.specs.Volume.{most_volume}
use Rattle.tet_shapes.proofs.volume.most_volume.Goals as goal

pub returns-clause-value : goal.returns-clause-value
unfolding most_volume
returns-clause-value c =
    let decimals = c.from-decimals.ensures in
    let halvings = c.from-twos.ensures in
    let twos = 3 * c.from-twos.result in
    let tens = c.saturating_sub-2.result in
    let under = c.power_of_ten-under.result in
    let s = c.scale_of-scale.ensures in
    let u = c.power_of_ten-under.ensures.value ∙ (λ i. 10 ^ c.saturating_sub.ensures i) ∙ (λ i. 10 ^ (s i - 3 * decimals i)) in
    let t = c.saturating_sub-2.ensures ∙ (λ i. 3 * decimals i - s i) in
    let a = c.size_of.ensures.value in
    c.whole_of.ensures.value ∙ ap (λ n. min (2 ^ 100) (n * 10 ^ tens * 2 ^ twos / under)) c.mixed_of-six.ensures.value
    ∙ (λ i. min (2 ^ 100) (6 * a i * 10 ^ t i * 2 ^ (3 * halvings i) / u i))
