-- The sphere's sum by the heights of the lifting map, and in a frame.
use Rattle.std.proofs.Common.{◌≡◌, ℕ, ◌≤◌, ◌<◌, ◌*◌, ◌/◌, ◌%◌, ◌^◌, nat_abs, List, [], ◌∷◌, ap, sym, subst, ◌∙◌, ℤ, pos, negsuc, neg_ℤ, ◌+ℤ◌, ◌-ℤ◌, ◌*ℤ◌, ◌<ℤ◌, ◌≤ℤ◌, unsigned_abs, w32, w64, to_z, of_z, arith}
use Rattle.std.proofs.lemmas.Int.{ints}
use Rattle.std.proofs.Math.Nat.{mul-div_cancel_left, mul-mod_right}
use Rattle.std.proofs.Math.IntN.{pos-*ℤ-pos}
use mir.Syntax.{w128}
use Rattle.exact_algebra.proofs.Ring.{Expr, num, var, sub, ring, same, ◌⊕◌, ◌⊖◌, ◌⊗◌}
use Rattle.exact_algebra.proofs.Signs.{mul_pos, mul_neg, by_sign}
use Rattle.exact_algebra.proofs.Size.{eval_within, machine_is, back}
use Rattle.sign_predicates.specs.Point.{Point, from_to}
use Rattle.sign_predicates.specs.Orientation.{dot, det, orient}
use Rattle.sign_predicates.specs.Sphere.{square_length, in_sphere, HaveOneSign, AreSides}
use Rattle.sign_predicates.specs.Vector.{IsDifference, sphere_sum}
use Rattle.sign_predicates.specs.Sign.{IsSignOf}
use Rattle.sign_predicates.specs.Lifted.{IsLifted, lift_rise, volumes_of, IsStepsFrom, IsInFrame, AreInFrame, IsSphereSign}
use Rattle.sign_predicates.specs.declared.tetrahedron.Corners.{Corners}
use Rattle.sign_predicates.specs.declared.tetrahedron.Sign.{Sign}
use Rattle.sign_predicates.specs.declared.tetrahedron.Sign.TheVariants.{Below, Zero, Above}
use Rattle.sign_predicates.specs.declared.lifted.Frame.{Frame}
use Rattle.sign_predicates.specs.declared.volumes.Volumes.{Volumes}
use Rattle.sign_predicates.proofs.Products.{three_squares}
use Rattle.sign_predicates.proofs.Terms.{PointE, pointE, of_point, from_toE, dotE, detE, square_lengthE}
use Rattle.sign_predicates.proofs.Ties.{one_sign}
use Rattle.sign_predicates.proofs.Vectors.{difference_back, grid_back, orient_is, side_exchanged, side_turned, turned_back, in_sphere_is, sphere_sum_is}

-- ---- heights in place of squared lengths

-- numbers times the determinants of the other three of four vectors, with alternating signs
abbrev pub by_others : ℤ → ℤ → ℤ → ℤ → Point → Point → Point → Point → ℤ
by_others k l m n a b c d = k *ℤ det b c d -ℤ l *ℤ det a c d +ℤ m *ℤ det a b d -ℤ n *ℤ det a b c

by_othersE : Expr → Expr → Expr → Expr → Expr → Expr → Expr → Expr → Expr
by_othersE k l m n p q r s = k ⊗ p ⊖ l ⊗ q ⊕ m ⊗ r ⊖ n ⊗ s

-- the determinant of four rows whose last column is a sum of multiples of the others
no_fourth_column : (g a b c d : Point) → by_others (dot g a) (dot g b) (dot g c) (dot g d) a b c d ≡ pos 0
unfolding same det by_othersE
no_fourth_column g a b c d =
    let G = pointE 0 in
    let A = pointE 3 in
    let B = pointE 6 in
    let C = pointE 9 in
    let D = pointE 12 in
    ring (by_othersE (dotE G A) (dotE G B) (dotE G C) (dotE G D) (detE B C D) (detE A C D) (detE A B D) (detE A B C))
    (num (pos 0)) tt (of_point g (of_point a (of_point b (of_point c (of_point d [])))))

-- the last column, of which twice another one is taken
sum_of_columns : (k l m n g h i j p q r s : ℤ)
    → (k +ℤ pos 2 *ℤ g) *ℤ p -ℤ (l +ℤ pos 2 *ℤ h) *ℤ q +ℤ (m +ℤ pos 2 *ℤ i) *ℤ r -ℤ (n +ℤ pos 2 *ℤ j) *ℤ s
    ≡ (k *ℤ p -ℤ l *ℤ q +ℤ m *ℤ r -ℤ n *ℤ s) +ℤ pos 2 *ℤ (g *ℤ p -ℤ h *ℤ q +ℤ i *ℤ r -ℤ j *ℤ s)
unfolding same by_othersE
sum_of_columns k l m n g h i j p q r s =
    let two = num (pos 2) in
    ring (by_othersE (var 0 ⊕ two ⊗ var 4) (var 1 ⊕ two ⊗ var 5) (var 2 ⊕ two ⊗ var 6) (var 3 ⊕ two ⊗ var 7) (var 8) (var 9) (var 10) (var 11))
    (by_othersE (var 0) (var 1) (var 2) (var 3) (var 8) (var 9) (var 10) (var 11) ⊕ two ⊗ by_othersE (var 4) (var 5) (var 6) (var 7) (var 8) (var 9) (var 10) (var 11))
    tt (k ∷ l ∷ m ∷ n ∷ g ∷ h ∷ i ∷ j ∷ p ∷ q ∷ r ∷ s ∷ [])

rise_is : (e a : Point) → lift_rise e a ≡ square_length (from_to e a) +ℤ pos 2 *ℤ dot e (from_to e a)
unfolding same
rise_is e a =
    let E = pointE 0 in
    let A = pointE 3 in
    ring (square_lengthE A ⊖ square_lengthE E) (square_lengthE (from_toE E A) ⊕ num (pos 2) ⊗ dotE E (from_toE E A)) tt (of_point e (of_point a []))

-- the sphere's sum with the differences of the heights in place of the squared lengths
pub rises_sum : (t : Corners) (e : Point)
    → by_others (lift_rise e t.a) (lift_rise e t.b) (lift_rise e t.c) (lift_rise e t.d) (from_to e t.a) (from_to e t.b) (from_to e t.c) (from_to e t.d) ≡ in_sphere t e
rises_sum t e =
    let a = from_to e t.a in
    let b = from_to e t.b in
    let c = from_to e t.c in
    let d = from_to e t.d in
    let last = sum_of_columns (square_length a) (square_length b) (square_length c) (square_length d) (dot e a) (dot e b) (dot e c) (dot e d)
    (det b c d) (det a c d) (det a b d) (det a b c) in
    (λ i. by_others (rise_is e t.a i) (rise_is e t.b i) (rise_is e t.c i) (rise_is e t.d i) a b c d)
    ∙ last
    ∙ (λ i. sphere_sum_is a b c d i +ℤ pos 2 *ℤ no_fourth_column e a b c d i)
    ∙ plus_none (sphere_sum a b c d)
    ∙ in_sphere_is t e
  where
    plus_none : (z : ℤ) → z +ℤ pos 2 *ℤ pos 0 ≡ z
    plus_none z = omega (arith, ints)

-- the same, with the volumes in place of the determinants
pub rises_volumes : (t : Corners) (e : Point)
    → lift_rise e t.a *ℤ (volumes_of t e).a -ℤ lift_rise e t.b *ℤ (volumes_of t e).b
    +ℤ lift_rise e t.c *ℤ (volumes_of t e).c -ℤ lift_rise e t.d *ℤ (volumes_of t e).d ≡ in_sphere t e
unfolding orient
rises_volumes t e = rises_sum t e

-- ---- in a frame

abbrev scaled : ℤ → Point → Point
scaled s v = record { x = s *ℤ v.x; y = s *ℤ v.y; z = s *ℤ v.z }

abbrev scaledE : Expr → PointE → PointE
scaledE s v = record { x = s ⊗ v.x; y = s ⊗ v.y; z = s ⊗ v.z }

abbrev fifth_power : ℤ → ℤ
fifth_power s = s *ℤ (s *ℤ (s *ℤ (s *ℤ s)))

square_scaled : (s : ℤ) (v : Point) → square_length (scaled s v) ≡ s *ℤ s *ℤ square_length v
unfolding same
square_scaled s v = ring (square_lengthE (scaledE (var 0) (pointE 1))) (var 0 ⊗ var 0 ⊗ square_lengthE (pointE 1)) tt (s ∷ of_point v [])

det_scaled : (s : ℤ) (u v w : Point) → det (scaled s u) (scaled s v) (scaled s w) ≡ s *ℤ s *ℤ s *ℤ det u v w
unfolding same det
det_scaled s u v w =
    let S = var 0 in
    let U = pointE 1 in
    let V = pointE 4 in
    let W = pointE 7 in
    ring (detE (scaledE S U) (scaledE S V) (scaledE S W)) (S ⊗ S ⊗ S ⊗ detE U V W) tt (s ∷ of_point u (of_point v (of_point w [])))

products_scaled : (s k l m n p q r t : ℤ)
    → s *ℤ s *ℤ k *ℤ (s *ℤ s *ℤ s *ℤ p) -ℤ s *ℤ s *ℤ l *ℤ (s *ℤ s *ℤ s *ℤ q) +ℤ s *ℤ s *ℤ m *ℤ (s *ℤ s *ℤ s *ℤ r) -ℤ s *ℤ s *ℤ n *ℤ (s *ℤ s *ℤ s *ℤ t)
    ≡ fifth_power s *ℤ (k *ℤ p -ℤ l *ℤ q +ℤ m *ℤ r -ℤ n *ℤ t)
unfolding same by_othersE
products_scaled s k l m n p q r t =
    let S = var 0 in
    ring
    (by_othersE (S ⊗ S ⊗ var 1) (S ⊗ S ⊗ var 2) (S ⊗ S ⊗ var 3) (S ⊗ S ⊗ var 4) (S ⊗ S ⊗ S ⊗ var 5) (S ⊗ S ⊗ S ⊗ var 6) (S ⊗ S ⊗ S ⊗ var 7) (S ⊗ S ⊗ S ⊗ var 8))
    (S ⊗ (S ⊗ (S ⊗ (S ⊗ S))) ⊗ by_othersE (var 1) (var 2) (var 3) (var 4) (var 5) (var 6) (var 7) (var 8)) tt
    (s ∷ k ∷ l ∷ m ∷ n ∷ p ∷ q ∷ r ∷ t ∷ [])

sphere_sum_scaled : (s : ℤ) (a b c d : Point) → sphere_sum (scaled s a) (scaled s b) (scaled s c) (scaled s d) ≡ fifth_power s *ℤ sphere_sum a b c d
unfolding sphere_sum
sphere_sum_scaled s a b c d =
    (λ i. square_scaled s a i *ℤ det_scaled s b c d i -ℤ square_scaled s b i *ℤ det_scaled s a c d i
    +ℤ square_scaled s c i *ℤ det_scaled s a b d i -ℤ square_scaled s d i *ℤ det_scaled s a b c i)
    ∙ products_scaled s (square_length a) (square_length b) (square_length c) (square_length d) (det b c d) (det a c d) (det a b d) (det a b c)

difference_in_frame : (corner s q r x y : ℤ) → IsStepsFrom corner s q x → IsStepsFrom corner s r y → y -ℤ x ≡ s *ℤ (r -ℤ q)
unfolding same
difference_in_frame corner s q r x y h k =
    (λ i. k i -ℤ h i)
    ∙ ring ((var 0 ⊕ var 1 ⊗ var 3) ⊖ (var 0 ⊕ var 1 ⊗ var 2)) (var 1 ⊗ (var 3 ⊖ var 2)) tt (corner ∷ s ∷ q ∷ r ∷ [])

vector_in_frame : (f : Frame) (q r x y : Point) → IsInFrame f q x → IsInFrame f r y → from_to x y ≡ scaled (pos f.step) (from_to q r)
vector_in_frame f q r x y h k = λ i. record {
  x = difference_in_frame f.corner.x (pos f.step) q.x r.x x.x y.x h.x_is k.x_is i;
  y = difference_in_frame f.corner.y (pos f.step) q.y r.y x.y y.y h.y_is k.y_is i;
  z = difference_in_frame f.corner.z (pos f.step) q.z r.z x.z y.z h.z_is k.z_is i;
}

in_sphere_in_frame : (f : Frame) (q t : Corners) (r e : Point) → AreInFrame f q t → IsInFrame f r e → in_sphere t e ≡ fifth_power (pos f.step) *ℤ in_sphere q r
in_sphere_in_frame f q t r e h k =
    sym (in_sphere_is t e)
    ∙ (λ i. sphere_sum (vector_in_frame f r q.a e t.a k h.a_in i) (vector_in_frame f r q.b e t.b k h.b_in i)
    (vector_in_frame f r q.c e t.c k h.c_in i) (vector_in_frame f r q.d e t.d k h.d_in i))
    ∙ sphere_sum_scaled (pos f.step) (from_to r q.a) (from_to r q.b) (from_to r q.c) (from_to r q.d)
    ∙ ap (λ z. fifth_power (pos f.step) *ℤ z) (in_sphere_is q r)

fifth_power_pos : (s : ℤ) → pos 0 <ℤ s → pos 0 <ℤ fifth_power s
fifth_power_pos s h = mul_pos s (s *ℤ (s *ℤ (s *ℤ s))) h (mul_pos s (s *ℤ (s *ℤ s)) h (mul_pos s (s *ℤ s) h (mul_pos s s h h)))

sign_of_multiple : (sign : Sign) (k z : ℤ) → pos 0 <ℤ k → IsSignOf sign z → IsSignOf sign (k *ℤ z)
sign_of_multiple Below k z h i = mul_neg k z h i
sign_of_multiple Zero k z h i = ap (λ y. k *ℤ y) i ∙ times_none k
  where
    times_none : (k : ℤ) → k *ℤ pos 0 ≡ pos 0
    times_none k = omega (arith, ints)
sign_of_multiple Above k z h i = mul_pos k z h i

-- the sign in a frame is that of the points
pub sphere_sign : (sign : Sign) (q : Corners) (r : Point) → IsSignOf sign (in_sphere q r) → IsSphereSign sign q r
sphere_sign sign q r h f t e some corners point =
    let s = pos f.step in
    let above : pos 0 <ℤ s = omega (arith, ints) in
    subst (IsSignOf sign) (sym (in_sphere_in_frame f q t r e corners point))
    (sign_of_multiple sign (fifth_power s) (in_sphere q r) (fifth_power_pos s above) h)

-- ---- the sides of faces in a frame

abbrev cube : ℤ → ℤ
cube s = s *ℤ s *ℤ s

cube_pos : (s : ℤ) → pos 0 <ℤ s → pos 0 <ℤ cube s
cube_pos s h = mul_pos (s *ℤ s) s (mul_pos s s h h) h

orient_in_frame : (f : Frame) (p q r s a b c d : Point) → IsInFrame f p a → IsInFrame f q b → IsInFrame f r c → IsInFrame f s d
    → orient a b c d ≡ cube (pos f.step) *ℤ orient p q r s
orient_in_frame f p q r s a b c d h i j k =
    sym (orient_is a b c d)
    ∙ (λ t. det (vector_in_frame f p q a b h i t) (vector_in_frame f p r a c h j t) (vector_in_frame f p s a d h k t))
    ∙ det_scaled (pos f.step) (from_to p q) (from_to p r) (from_to p s)
    ∙ ap (λ z. cube (pos f.step) *ℤ z) (orient_is p q r s)

one_sign_of_multiple : (k z : ℤ) → pos 0 <ℤ k → HaveOneSign z (k *ℤ z)
one_sign_of_multiple k z h =
    by_sign z
    (λ i. one_sign Below z (k *ℤ z) i (sign_of_multiple Below k z h i))
    (λ i. one_sign Zero z (k *ℤ z) i (sign_of_multiple Zero k z h i))
    (λ i. one_sign Above z (k *ℤ z) i (sign_of_multiple Above k z h i))

-- the volumes in a frame say on which sides of the faces the point lies
pub sides_in_frame : (f : Frame) (q t : Corners) (r e : Point) → 0 < f.step → AreInFrame f q t → IsInFrame f r e
    → (v : Volumes) → v ≡ volumes_of q r → AreSides v.a (neg_ℤ v.b) v.c (neg_ℤ v.d) t e
sides_in_frame f q t r e some corners point v is =
    let h = corners in
    subst (λ (w : Volumes). AreSides w.a (neg_ℤ w.b) w.c (neg_ℤ w.d) t e) (sym is) (record {
      a_side = at _ _ _ (orient_in_frame f q.b q.d q.c r t.b t.d t.c e h.b_in h.d_in h.c_in point) (side_exchanged q.b q.c q.d r);
      b_side = at _ _ _ (orient_in_frame f q.a q.c q.d r t.a t.c t.d e h.a_in h.c_in h.d_in point) (side_turned q.a q.c q.d r);
      c_side = at _ _ _ (orient_in_frame f q.a q.d q.b r t.a t.d t.b e h.a_in h.d_in h.b_in point) (side_exchanged q.a q.b q.d r);
      d_side = at _ _ _ (orient_in_frame f q.a q.b q.c r t.a t.b t.c e h.a_in h.b_in h.c_in point) (side_turned q.a q.b q.c r);
    })
  where
    k : ℤ
    k = cube (pos f.step)

    k_pos : pos 0 <ℤ k
    k_pos = cube_pos (pos f.step) (omega (arith, ints))

    at : (x y z : ℤ) → y ≡ k *ℤ z → z ≡ x → HaveOneSign x y
    at x y z multiple same = subst (HaveOneSign x) (sym (multiple ∙ ap (λ n. k *ℤ n) same)) (one_sign_of_multiple k x k_pos)

-- ---- coordinates, heights and volumes as the code reads them

-- the difference of two coordinates
pub steps_back : (a b : ℤ) → pos 0 ≤ℤ a → a ≤ℤ pos 1048576 → pos 0 ≤ℤ b → b ≤ℤ pos 1048576
    → to_z w32 (of_z w32 (to_z w32 (of_z w32 b) -ℤ to_z w32 (of_z w32 a))) ≡ b -ℤ a
steps_back a b al ah bl bh = difference_back a b (omega (arith, ints)) (omega (arith, ints)) (omega (arith, ints)) (omega (arith, ints))

pub steps_small : (a b : ℤ) → pos 0 ≤ℤ a → a ≤ℤ pos 1048576 → pos 0 ≤ℤ b → b ≤ℤ pos 1048576
    → unsigned_abs (to_z w32 (of_z w32 (to_z w32 (of_z w32 b) -ℤ to_z w32 (of_z w32 a)))) ≤ 2 ^ 20
steps_small a b al ah bl bh = subst (λ y. unsigned_abs y ≤ 2 ^ 20) (sym (steps_back a b al ah bl bh)) (omega (arith, ints))

pub steps_difference : (a b : ℤ) → pos 0 ≤ℤ a → a ≤ℤ pos 1048576 → pos 0 ≤ℤ b → b ≤ℤ pos 1048576
    → IsDifference (to_z w32 (of_z w32 (to_z w32 (of_z w32 b) -ℤ to_z w32 (of_z w32 a))))
steps_difference a b al ah bl bh = let h = steps_small a b al ah bl bh in omega arith

pub height_small : (q : Point) (h : ℤ) → IsLifted q h → unsigned_abs h ≤ 3 * 2 ^ 40
height_small q h l =
    let n = l.narrow in
    subst (λ y. unsigned_abs y ≤ 3 * 2 ^ 40) l.height_is
    (eval_within (2 ^ 20 ∷ 2 ^ 20 ∷ 2 ^ 20 ∷ []) (q.x ∷ q.y ∷ q.z ∷ []) three_squares
    (size q.x n.x_low n.x_high, (size q.y n.y_low n.y_high, (size q.z n.z_low n.z_high, tt))))
  where
    size : (z : ℤ) → pos 0 ≤ℤ z → z ≤ℤ pos 1048576 → unsigned_abs z ≤ 2 ^ 20
    size z low high = omega (arith, ints)

abbrev pub height_bounds : List ℕ
height_bounds = 3 * 2 ^ 40 ∷ 3 * 2 ^ 40 ∷ []

abbrev pub height_difference : Expr
height_difference = sub (var 1) (var 0)

pub rise_back : (a b : ℤ) → unsigned_abs a ≤ 3 * 2 ^ 40 → unsigned_abs b ≤ 3 * 2 ^ 40
    → to_z w64 (of_z w64 (to_z w64 (of_z w64 b) -ℤ to_z w64 (of_z w64 a))) ≡ b -ℤ a
rise_back a b h k = machine_is w64 height_bounds (a ∷ b ∷ []) height_difference (h, (k, tt)) tt

-- a volume
pub volume_back : (z : ℤ) → unsigned_abs z ≤ 3 * 2 ^ 61 → to_z w64 (of_z w64 z) ≡ z
volume_back z h = back w64 (3 * 2 ^ 61) z tt h

pub volume_as_long : (z : ℤ) → unsigned_abs z ≤ 3 * 2 ^ 61 → to_z w128 (of_z w128 (to_z w64 (of_z w64 z))) ≡ z
volume_as_long z h = ap (λ y. to_z w128 (of_z w128 y)) (volume_back z h) ∙ back w128 (3 * 2 ^ 61) z tt h

pub volume_turned : (z : ℤ) → unsigned_abs z ≤ 3 * 2 ^ 61
    → to_z w128 (of_z w128 (pos 0 -ℤ to_z w128 (of_z w128 (to_z w64 (of_z w64 z))))) ≡ neg_ℤ z
volume_turned z h = ap (λ y. to_z w128 (of_z w128 (pos 0 -ℤ to_z w128 (of_z w128 y)))) (volume_back z h) ∙ turned_back z (omega arith)

-- the steps between two coordinates of the grid
pub steps_in_frame : (step : ℕ) (corner q x : ℤ) → negsuc 536870911 ≤ℤ corner → corner ≤ℤ pos 536870912 → negsuc 536870911 ≤ℤ x → x ≤ℤ pos 536870912
    → IsStepsFrom (to_z w32 (of_z w32 corner)) (pos step) q (to_z w32 (of_z w32 x)) × (pos 0 ≤ℤ q) × (q ≤ℤ pos 1048576)
    → IsStepsFrom corner (pos step) (to_z w32 (of_z w32 q)) x
steps_in_frame step corner q x cl ch xl xh (h, ql, qh) =
    let back_q = grid_back q (omega (arith, ints)) (omega (arith, ints)) in
    sym (grid_back x xl xh) ∙ h ∙ (λ i. grid_back corner cl ch i +ℤ pos step *ℤ sym back_q i)

-- the same, of the coordinates as they are read
pub steps_as_read : (step : ℕ) (corner q x : ℤ) → negsuc 536870911 ≤ℤ corner → corner ≤ℤ pos 536870912 → negsuc 536870911 ≤ℤ x → x ≤ℤ pos 536870912
    → IsStepsFrom corner (pos step) q x → IsStepsFrom (to_z w32 (of_z w32 corner)) (pos step) q (to_z w32 (of_z w32 x))
steps_as_read step corner q x cl ch xl xh h = grid_back x xl xh ∙ h ∙ (λ i. sym (grid_back corner cl ch) i +ℤ pos step *ℤ q)

-- so many units above the corner are whole steps, and no more than the frame has
pub whole_steps : (step units : ℕ) (corner q x : ℤ) → 0 < step → unsigned_abs corner ≤ 2 ^ 29 → unsigned_abs x ≤ 2 ^ 29
    → units ≡ nat_abs (to_z w32 (of_z w32 (to_z w32 (of_z w32 x) -ℤ to_z w32 (of_z w32 corner))))
    → pos 0 ≤ℤ q → q ≤ℤ pos 1048576 → IsStepsFrom corner (pos step) q x
    → (units / step ≤ 1048576) × (units % step ≡ 0)
whole_steps step units corner (negsuc n) x s ch xh u low high is = absurd (omega (arith, ints))
whole_steps step units corner (pos n) x s ch xh u low high is =
    let difference : to_z w32 (of_z w32 (to_z w32 (of_z w32 x) -ℤ to_z w32 (of_z w32 corner))) ≡ x -ℤ corner =
    machine_is w32 (2 ^ 29 ∷ 2 ^ 29 ∷ []) (corner ∷ x ∷ []) (sub (var 1) (var 0)) (ch, (xh, tt)) tt in
    let product = pos-*ℤ-pos step n in
    let steps : x -ℤ corner ≡ pos (step * n) = omega (arith, ints) in
    let whole : units ≡ step * n = u ∙ ap nat_abs (difference ∙ steps) in (
      subst (λ d. d ≤ 1048576) (sym (ap (λ k. k / step) whole ∙ mul-div_cancel_left n s)) (omega (arith, ints)),
      ap (λ k. k % step) whole ∙ mul-mod_right step n,
    )
