-- A tetrahedron is slim where the point that is equally far from its corners is far from them.
use Rattle.std.proofs.Common.{◌≡◌, ◌↔◌, ◌*◌, ℤ, pos, ◌*ℤ◌, [], ◌∷◌, sym, subst, IsTrue, arith}
use Rattle.std.specs.Prelude.{◌<ℤ◌, int_lt}
use Rattle.std.proofs.lemmas.Int.{ints}
use Rattle.exact_algebra.proofs.Ring.{num, var, ring, ring_given, given, same, ◌⊗◌}
use Rattle.exact_algebra.proofs.Signs.{mul_pos, mul_lt, lt_of_mul}
use Rattle.sign_predicates.specs.Point.{RationalPoint}
use Rattle.sign_predicates.specs.Orientation.{volume, IsPositive}
use Rattle.sign_predicates.specs.Sphere.{square_length}
use Rattle.sign_predicates.specs.declared.tetrahedron.Corners.{Corners}
use Rattle.tet_shapes.specs.Shape.{to_center, shortest_square, is_slim}
use Rattle.tet_shapes.specs.Laws.{square_to, IsCenter, IsFurther}
use Rattle.tet_shapes.specs.declared.shape.Ratio.{Ratio}
use Rattle.tet_shapes.proofs.Center.{radius_is}

test_is : (a b : ℤ) → IsTrue (int_lt a b) ↔ (a <ℤ b)
test_is a b = grind (arith, ints)

-- both sides of the one test times w * w are those of the other times 4 * v * v
near_side : (o v w s : ℤ) → (w *ℤ w) *ℤ (pos 4 *ℤ o *ℤ (v *ℤ v) *ℤ s) ≡ (pos 4 *ℤ (v *ℤ v)) *ℤ (o *ℤ (w *ℤ w) *ℤ s)
unfolding same
near_side o v w s =
    let O = var 0 in
    let V = var 1 in
    let W = var 2 in
    let S = var 3 in
    let four = num (pos 4) in
    ring ((W ⊗ W) ⊗ (four ⊗ O ⊗ (V ⊗ V) ⊗ S)) ((four ⊗ (V ⊗ V)) ⊗ (O ⊗ (W ⊗ W) ⊗ S)) tt (o ∷ v ∷ w ∷ s ∷ [])

far_side : (u v w n d : ℤ) → d *ℤ (pos 4 *ℤ (v *ℤ v)) ≡ n *ℤ (w *ℤ w) → (w *ℤ w) *ℤ (u *ℤ n) ≡ (pos 4 *ℤ (v *ℤ v)) *ℤ (u *ℤ d)
unfolding same
far_side u v w n d e =
    let U = var 0 in
    let V = var 1 in
    let W = var 2 in
    let N = var 3 in
    let D = var 4 in
    let four = num (pos 4) in
    ring_given ((W ⊗ W) ⊗ (U ⊗ N)) ((four ⊗ (V ⊗ V)) ⊗ (U ⊗ D)) (given U (N ⊗ (W ⊗ W)) (D ⊗ (four ⊗ (V ⊗ V))) ∷ []) tt
    (u ∷ v ∷ w ∷ n ∷ d ∷ []) (sym e, tt)

-- of two products the order is that of the factors
same_order : (k l x y z u : ℤ) → pos 0 <ℤ k → pos 0 <ℤ l → k *ℤ x ≡ l *ℤ z → k *ℤ y ≡ l *ℤ u → x <ℤ y → z <ℤ u
same_order k l x y z u hk hl e f h = lt_of_mul l z u hl (subst (λ a. a <ℤ (l *ℤ u)) e (subst (λ b. (k *ℤ x) <ℤ b) f (mul_lt k x y hk h)))

pub slim_is : (r : Ratio) (t : Corners) (p : RationalPoint) → IsPositive t → pos 0 <ℤ p.w → IsCenter t p → IsTrue (is_slim r t) ↔ IsFurther r t p
unfolding is_slim
slim_is r t p h hw e =
    let o = pos (r.over * r.over) in
    let u = pos (r.under * r.under) in
    let v = volume t in
    let s = shortest_square t in
    let n = square_length (to_center t) in
    let d = square_to t.a p in
    let x = pos 4 *ℤ o *ℤ (v *ℤ v) *ℤ s in
    let y = u *ℤ n in
    let z = o *ℤ (p.w *ℤ p.w) *ℤ s in
    let a = u *ℤ d in
    let k = p.w *ℤ p.w in
    let l = pos 4 *ℤ (v *ℤ v) in
    let near = near_side o v p.w s in
    let far = far_side u v p.w n d (radius_is t p hw e) in
    let hk = mul_pos p.w p.w hw hw in
    let hl : pos 0 <ℤ (pos 4 *ℤ (v *ℤ v)) = mul_pos (pos 4) (v *ℤ v) (omega (arith, ints)) (mul_pos v v h h) in
    let test = test_is x y in
    (λ i. same_order k l x y z a hk hl near far (test.0 i), λ i. test.1 (same_order l k z a x y hl hk (sym near) (sym far) i))
