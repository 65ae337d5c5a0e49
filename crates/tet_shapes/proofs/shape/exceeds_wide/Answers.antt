use Rattle.std.proofs.Common.{◌≡◌, ◌*◌, ◌∙◌, ap, arith}
use Rattle.std.specs.Prelude.{nat_lt}
use Rattle.tet_shapes.specs.Wide.{wider_value}
use Rattle.tet_shapes.specs.Sizes.{square_sum}
use Rattle.tet_shapes.proofs.Numbers.{regrouped}
use Rattle.tet_shapes.proofs.shape.exceeds_wide.Goals as goal

pub returns : goal.returns
returns c =
    let a = c.args in
    let o = a.bound.over in
    let u = a.bound.under in
    let right = c.times-2.ensures ∙ ap (λ n. n * (o * o * a.shortest)) c.product.ensures ∙ regrouped o a.volume a.shortest in
    let left : wider_value c.times.result ≡ u * u * square_sum a.n = c.times.ensures ∙ ap (λ n. n * (u * u)) c.sum_of_squares.ensures.value ∙ omega arith in
    c.is_over.ensures ∙ (λ t. nat_lt (right t) (left t))
