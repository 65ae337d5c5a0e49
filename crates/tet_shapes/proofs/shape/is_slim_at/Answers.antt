use Rattle.std.proofs.Common.{◌≡◌, ◌∙◌, ap, unsigned_abs}
use Rattle.exact_algebra.proofs.Size.{read}
use Rattle.sign_predicates.specs.Orientation.{det, volume}
use Rattle.sign_predicates.specs.Sphere.{square_length}
use Rattle.sign_predicates.specs.Reach.{pull}
use Rattle.sign_predicates.proofs.Vectors.{orient_is}
use mir.Syntax.{w128}
use Rattle.tet_shapes.specs.Sizes.{square_sum}
use Rattle.tet_shapes.specs.Shape.{is_slim, shortest_square, to_center}
use Rattle.tet_shapes.proofs.Numbers.{slim_test}
use Rattle.tet_shapes.proofs.shape.is_slim_at.Goals as goal

pub returns : goal.returns
unfolding is_slim
returns c =
    let t = c.args.t in
    let r = c.args.bound in
    let size : c.unsigned_abs.result ≡ unsigned_abs (volume t) =
    c.unsigned_abs.ensures.value
    ∙ ap unsigned_abs (read w128 c.det.result c.det.type_inv ∙ c.det.ensures.value ∙ (λ s. det (c.from_to-b.ensures s) (c.from_to-c.ensures s) (c.from_to-d.ensures s)) ∙ orient_is t.a t.b t.c t.d) in
    let center = c.center_sizes.ensures.value ∙ (λ s. square_length (pull (c.from_to-b.ensures s) (c.from_to-c.ensures s) (c.from_to-d.ensures s))) in
    c.exceeds.ensures
    ∙ slim_test r.over r.under c.unsigned_abs.result c.shortest_square.result (square_sum c.center_sizes.result) (volume t) (shortest_square t) (square_length (to_center t)) size c.shortest_square.ensures.value center
