use Rattle.std.proofs.Common.{◌*◌, ◌∙◌, ap, pos, true, ◌≡◌, sym, ◌*ℤ◌}
use Rattle.std.specs.Prelude.{◌&&◌, int_lt, nat_lt, unsigned_abs}
use Rattle.exact_algebra.proofs.Size.{read}
use Rattle.sign_predicates.specs.Orientation.{dot}
use Rattle.sign_predicates.specs.Sphere.{square_length}
use mir.Syntax.{w128}
use Rattle.tet_shapes.proofs.Numbers.{angle_test, is_above}
use Rattle.tet_shapes.proofs.angle.is_below.Goals as goal

pub returns : goal.returns
returns c =
    let m = c.args.m in
    let n = c.args.n in
    let o = c.args.bound.over in
    let u = c.args.bound.under in
    let a = c.unsigned_abs-along.result in
    let s = c.square_of.result in
    let t = c.square_of-2.result in
    let is = read w128 c.dot-along.result c.dot-along.type_inv ∙ c.dot-along.ensures.value in
    let left = c.times.ensures ∙ (λ i. c.product.ensures i * c.from.ensures i) in
    let right = c.times-2.ensures ∙ (λ i. c.product-2.ensures i * c.from-2.ensures i) in
    let size : a ≡ unsigned_abs (dot m n) = c.unsigned_abs-along.ensures.value ∙ ap unsigned_abs is in
    let above : int_lt (pos 0) (dot m n) ≡ true = is_above _ (dot m n) is c.if-along-le0.false in
    c.is_over.ensures ∙ (λ i. nat_lt (right i) (left i))
    ∙ angle_test o u a s t (dot m n) (square_length m) (square_length n) size c.square_of.ensures.value c.square_of-2.ensures.value
    ∙ (λ i. sym above i && int_lt (pos o *ℤ (square_length m *ℤ square_length n)) (pos u *ℤ (dot m n *ℤ dot m n)))
