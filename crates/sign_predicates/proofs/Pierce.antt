-- A segment that passes the plane of a triangle, or stays on one side of it; and all cases together.
use Rattle.std.proofs.Common.{◌≡◌, ℤ, pos, negsuc, neg_ℤ, ◌+ℤ◌, ◌-ℤ◌, ◌*ℤ◌, ◌<ℤ◌, ◌≤ℤ◌, [], ◌∷◌, subst, ◌∙◌, arith}
use Rattle.std.proofs.lemmas.Int.{ints}
use Rattle.exact_algebra.proofs.Ring.{var, num, neg, ring, ring_given, given, same, ◌⊕◌, ◌⊖◌, ◌⊗◌}
use Rattle.exact_algebra.proofs.Signs.{mul_nonneg, nonneg_of_mul}
use Rattle.sign_predicates.specs.Point.{Point}
use Rattle.sign_predicates.specs.Orientation.{Triangle, side, orient, det}
use Rattle.sign_predicates.specs.Meeting.{segment}
use Rattle.sign_predicates.specs.Turns.{PassesWithin}
use Rattle.sign_predicates.proofs.Terms.{TriangleE, triangleE, pointE, of_triangle, of_point, sideE, orientE, normalE, offsetE}
use Rattle.sign_predicates.proofs.Shared.{Balance, Shared, sum_of_three, balance_side}

-- ---- the one dependence of five points

pierce_x : (f : Triangle) (p q : Point)
    → sum_of_three (orient f.b f.c q p) (orient f.c f.a q p) (orient f.a f.b q p) f.a.x f.b.x f.c.x ≡ sum_of_three (neg_ℤ (side f q)) (side f p) (pos 0) p.x q.x q.x
unfolding same orient det
pierce_x f p q =
    let F = triangleE 0 in
    let P = pointE 9 in
    let Q = pointE 12 in
    ring (orientE F.b F.c Q P ⊗ F.a.x ⊕ orientE F.c F.a Q P ⊗ F.b.x ⊕ orientE F.a F.b Q P ⊗ F.c.x) (neg (sideE F Q) ⊗ P.x ⊕ sideE F P ⊗ Q.x ⊕ num (pos 0) ⊗ Q.x)
    tt (of_triangle f (of_point p (of_point q [])))

pierce_y : (f : Triangle) (p q : Point)
    → sum_of_three (orient f.b f.c q p) (orient f.c f.a q p) (orient f.a f.b q p) f.a.y f.b.y f.c.y ≡ sum_of_three (neg_ℤ (side f q)) (side f p) (pos 0) p.y q.y q.y
unfolding same orient det
pierce_y f p q =
    let F = triangleE 0 in
    let P = pointE 9 in
    let Q = pointE 12 in
    ring (orientE F.b F.c Q P ⊗ F.a.y ⊕ orientE F.c F.a Q P ⊗ F.b.y ⊕ orientE F.a F.b Q P ⊗ F.c.y) (neg (sideE F Q) ⊗ P.y ⊕ sideE F P ⊗ Q.y ⊕ num (pos 0) ⊗ Q.y)
    tt (of_triangle f (of_point p (of_point q [])))

pierce_z : (f : Triangle) (p q : Point)
    → sum_of_three (orient f.b f.c q p) (orient f.c f.a q p) (orient f.a f.b q p) f.a.z f.b.z f.c.z ≡ sum_of_three (neg_ℤ (side f q)) (side f p) (pos 0) p.z q.z q.z
unfolding same orient det
pierce_z f p q =
    let F = triangleE 0 in
    let P = pointE 9 in
    let Q = pointE 12 in
    ring (orientE F.b F.c Q P ⊗ F.a.z ⊕ orientE F.c F.a Q P ⊗ F.b.z ⊕ orientE F.a F.b Q P ⊗ F.c.z) (neg (sideE F Q) ⊗ P.z ⊕ sideE F P ⊗ Q.z ⊕ num (pos 0) ⊗ Q.z)
    tt (of_triangle f (of_point p (of_point q [])))

pierce_total : (f : Triangle) (p q : Point) → orient f.b f.c q p +ℤ orient f.c f.a q p +ℤ orient f.a f.b q p ≡ neg_ℤ (side f q) +ℤ side f p +ℤ pos 0
unfolding same orient det
pierce_total f p q =
    let F = triangleE 0 in
    let P = pointE 9 in
    let Q = pointE 12 in
    ring (orientE F.b F.c Q P ⊕ orientE F.c F.a Q P ⊕ orientE F.a F.b Q P) (neg (sideE F Q) ⊕ sideE F P ⊕ num (pos 0))
    tt (of_triangle f (of_point p (of_point q [])))

pub pierce_balance : (f : Triangle) (p q : Point) → Balance f (segment p q) (orient f.b f.c q p) (orient f.c f.a q p) (orient f.a f.b q p) (neg_ℤ (side f q)) (side f p) (pos 0)
pierce_balance f p q = record { total = pierce_total f p q; x_is = pierce_x f p q; y_is = pierce_y f p q; z_is = pierce_z f p q }

neg_least : (a : ℤ) → a ≤ℤ pos 0 → pos 0 ≤ℤ neg_ℤ a
neg_least a h = omega (arith, ints)

some_of : (s a b : ℤ) → s ≡ neg_ℤ b +ℤ a +ℤ pos 0 → b <ℤ a → pos 0 <ℤ s
some_of s a b e h = omega (arith, ints)

-- p on the upper side and q on the lower one, not both on the plane
pub pierces : (f : Triangle) (p q : Point) → pos 0 ≤ℤ side f p → side f q ≤ℤ pos 0 → side f q <ℤ side f p → PassesWithin p q f → Shared f (segment p q)
pierces f p q hp hq h w = record {
  i = orient f.b f.c q p;
  j = orient f.c f.a q p;
  k = orient f.a f.b q p;
  l = neg_ℤ (side f q);
  m = side f p;
  n = pos 0;
  common = record {
    i_least = w.a_least;
    j_least = w.b_least;
    k_least = w.c_least;
    l_least = neg_least (side f q) hq;
    m_least = hp;
    n_least = omega (arith, ints);
    some = some_of _ (side f p) (side f q) (pierce_total f p q) h;
    balance = pierce_balance f p q;
  };
}

needs_a : (f : Triangle) (p q : Point) (i j k l m n : ℤ) → Balance f (segment p q) i j k l m n → (l +ℤ m +ℤ n) *ℤ orient f.b f.c q p ≡ i *ℤ (side f p -ℤ side f q)
unfolding same orient det
needs_a f p q i j k l m n h =
    let F = triangleE 6 in
    let P = pointE 15 in
    let Q = pointE 18 in
    let S : TriangleE = record { a = F.b; b = F.c; c = P } in
    let T : TriangleE = record { a = F.b; b = F.c; c = Q } in
    let M = normalE S in
    let N = normalE T in
    ring_given ((var 3 ⊕ var 4 ⊕ var 5) ⊗ orientE F.b F.c Q P) (var 0 ⊗ (sideE F P ⊖ sideE F Q))
    (given (offsetE S ⊖ offsetE T) (var 0 ⊕ var 1 ⊕ var 2) (var 3 ⊕ var 4 ⊕ var 5)
    ∷ given (M.x ⊖ N.x) (var 0 ⊗ F.a.x ⊕ var 1 ⊗ F.b.x ⊕ var 2 ⊗ F.c.x) (var 3 ⊗ P.x ⊕ var 4 ⊗ Q.x ⊕ var 5 ⊗ Q.x)
    ∷ given (M.y ⊖ N.y) (var 0 ⊗ F.a.y ⊕ var 1 ⊗ F.b.y ⊕ var 2 ⊗ F.c.y) (var 3 ⊗ P.y ⊕ var 4 ⊗ Q.y ⊕ var 5 ⊗ Q.y)
    ∷ given (M.z ⊖ N.z) (var 0 ⊗ F.a.z ⊕ var 1 ⊗ F.b.z ⊕ var 2 ⊗ F.c.z) (var 3 ⊗ P.z ⊕ var 4 ⊗ Q.z ⊕ var 5 ⊗ Q.z) ∷ [])
    tt (i ∷ j ∷ k ∷ l ∷ m ∷ n ∷ (of_triangle f (of_point p (of_point q [])))) (h.total, (h.x_is, (h.y_is, (h.z_is, tt))))

needs_b : (f : Triangle) (p q : Point) (i j k l m n : ℤ) → Balance f (segment p q) i j k l m n → (l +ℤ m +ℤ n) *ℤ orient f.c f.a q p ≡ j *ℤ (side f p -ℤ side f q)
unfolding same orient det
needs_b f p q i j k l m n h =
    let F = triangleE 6 in
    let P = pointE 15 in
    let Q = pointE 18 in
    let S : TriangleE = record { a = F.c; b = F.a; c = P } in
    let T : TriangleE = record { a = F.c; b = F.a; c = Q } in
    let M = normalE S in
    let N = normalE T in
    ring_given ((var 3 ⊕ var 4 ⊕ var 5) ⊗ orientE F.c F.a Q P) (var 1 ⊗ (sideE F P ⊖ sideE F Q))
    (given (offsetE S ⊖ offsetE T) (var 0 ⊕ var 1 ⊕ var 2) (var 3 ⊕ var 4 ⊕ var 5)
    ∷ given (M.x ⊖ N.x) (var 0 ⊗ F.a.x ⊕ var 1 ⊗ F.b.x ⊕ var 2 ⊗ F.c.x) (var 3 ⊗ P.x ⊕ var 4 ⊗ Q.x ⊕ var 5 ⊗ Q.x)
    ∷ given (M.y ⊖ N.y) (var 0 ⊗ F.a.y ⊕ var 1 ⊗ F.b.y ⊕ var 2 ⊗ F.c.y) (var 3 ⊗ P.y ⊕ var 4 ⊗ Q.y ⊕ var 5 ⊗ Q.y)
    ∷ given (M.z ⊖ N.z) (var 0 ⊗ F.a.z ⊕ var 1 ⊗ F.b.z ⊕ var 2 ⊗ F.c.z) (var 3 ⊗ P.z ⊕ var 4 ⊗ Q.z ⊕ var 5 ⊗ Q.z) ∷ [])
    tt (i ∷ j ∷ k ∷ l ∷ m ∷ n ∷ (of_triangle f (of_point p (of_point q [])))) (h.total, (h.x_is, (h.y_is, (h.z_is, tt))))

needs_c : (f : Triangle) (p q : Point) (i j k l m n : ℤ) → Balance f (segment p q) i j k l m n → (l +ℤ m +ℤ n) *ℤ orient f.a f.b q p ≡ k *ℤ (side f p -ℤ side f q)
unfolding same orient det
needs_c f p q i j k l m n h =
    let F = triangleE 6 in
    let P = pointE 15 in
    let Q = pointE 18 in
    let S : TriangleE = record { a = F.a; b = F.b; c = P } in
    let T : TriangleE = record { a = F.a; b = F.b; c = Q } in
    let M = normalE S in
    let N = normalE T in
    ring_given ((var 3 ⊕ var 4 ⊕ var 5) ⊗ orientE F.a F.b Q P) (var 2 ⊗ (sideE F P ⊖ sideE F Q))
    (given (offsetE S ⊖ offsetE T) (var 0 ⊕ var 1 ⊕ var 2) (var 3 ⊕ var 4 ⊕ var 5)
    ∷ given (M.x ⊖ N.x) (var 0 ⊗ F.a.x ⊕ var 1 ⊗ F.b.x ⊕ var 2 ⊗ F.c.x) (var 3 ⊗ P.x ⊕ var 4 ⊗ Q.x ⊕ var 5 ⊗ Q.x)
    ∷ given (M.y ⊖ N.y) (var 0 ⊗ F.a.y ⊕ var 1 ⊗ F.b.y ⊕ var 2 ⊗ F.c.y) (var 3 ⊗ P.y ⊕ var 4 ⊗ Q.y ⊕ var 5 ⊗ Q.y)
    ∷ given (M.z ⊖ N.z) (var 0 ⊗ F.a.z ⊕ var 1 ⊗ F.b.z ⊕ var 2 ⊗ F.c.z) (var 3 ⊗ P.z ⊕ var 4 ⊗ Q.z ⊕ var 5 ⊗ Q.z) ∷ [])
    tt (i ∷ j ∷ k ∷ l ∷ m ∷ n ∷ (of_triangle f (of_point p (of_point q [])))) (h.total, (h.x_is, (h.y_is, (h.z_is, tt))))

pub passes_of : (f : Triangle) (p q : Point) → Shared f (segment p q) → side f q <ℤ side f p → PassesWithin p q f
passes_of f p q h lower = record {
  a_least = part h.i (orient f.b f.c q p) (needs_a f p q h.i h.j h.k h.l h.m h.n h.common.balance) h.common.i_least;
  b_least = part h.j (orient f.c f.a q p) (needs_b f p q h.i h.j h.k h.l h.m h.n h.common.balance) h.common.j_least;
  c_least = part h.k (orient f.a f.b q p) (needs_c f p q h.i h.j h.k h.l h.m h.n h.common.balance) h.common.k_least;
}
  where
    nonneg : (a b : ℤ) → a ≡ b → pos 0 ≤ℤ b → pos 0 ≤ℤ a
    nonneg a b e h = omega (arith, ints)

    gap : (a b : ℤ) → a <ℤ b → pos 0 ≤ℤ (b -ℤ a)
    gap a b h = omega (arith, ints)

    part : (w t : ℤ) → (h.l +ℤ h.m +ℤ h.n) *ℤ t ≡ w *ℤ (side f p -ℤ side f q) → pos 0 ≤ℤ w → pos 0 ≤ℤ t
    part w t e k = nonneg_of_mul (h.l +ℤ h.m +ℤ h.n) t (subst (λ z. pos 0 <ℤ z) h.common.balance.total h.common.some)
        (nonneg _ _ e (mul_nonneg w (side f p -ℤ side f q) k (gap (side f q) (side f p) lower)))

-- ---- on one side

-- the corners of a triangle lie on its plane
on_own : (f : Triangle) (i j k : ℤ) → pos 0 ≡ sum_of_three i j k (side f f.a) (side f f.b) (side f f.c)
unfolding same orient det
on_own f i j k =
    let F = triangleE 3 in
    ring (num (pos 0)) (var 0 ⊗ sideE F F.a ⊕ var 1 ⊗ sideE F F.b ⊕ var 2 ⊗ sideE F F.c) tt (i ∷ j ∷ k ∷ (of_triangle f []))

less_one : (l a : ℤ) → l *ℤ (a -ℤ pos 1) +ℤ l ≡ l *ℤ a
unfolding same
less_one l a = ring (var 0 ⊗ (var 1 ⊖ num (pos 1)) ⊕ var 0) (var 0 ⊗ var 1) tt (l ∷ a ∷ [])

one : (l a : ℤ) → pos 0 ≤ℤ (l *ℤ (a -ℤ pos 1)) → l ≤ℤ (l *ℤ a)
one l a h = by (less_one l a) h
  where
    by : {x y : ℤ} → x +ℤ l ≡ y → pos 0 ≤ℤ x → l ≤ℤ y
    by {x} {y} e h = omega (arith, ints)

level : (f g : Triangle) (i j k l m n : ℤ) → Balance f g i j k l m n → pos 0 ≡ sum_of_three l m n (side f g.a) (side f g.b) (side f g.c)
level f g i j k l m n h = none ∙ balance_side f f g i j k l m n h
  where
    none : pos 0 ≡ sum_of_three i j k (side f f.a) (side f f.b) (side f f.c)
    none = on_own f i j k

positive_sum : (l m n a b c : ℤ) → pos 0 ≤ℤ l → pos 0 ≤ℤ m → pos 0 ≤ℤ n → pos 0 <ℤ (l +ℤ m +ℤ n) → pos 0 <ℤ a → pos 0 <ℤ b → pos 0 <ℤ c → pos 0 ≡ sum_of_three l m n a b c → ⊥
positive_sum l m n a b c hl hm hn h ha hb hc e =
    clash (l *ℤ a) (m *ℤ b) (n *ℤ c) e (by_one l a hl ha) (by_one m b hm hb) (by_one n c hn hc)
  where
    by_one : (l a : ℤ) → pos 0 ≤ℤ l → pos 0 <ℤ a → l ≤ℤ (l *ℤ a)
    by_one l a h k = grows l a h (omega (arith, ints, k))
      where
        grows : (l a : ℤ) → pos 0 ≤ℤ l → pos 1 ≤ℤ a → l ≤ℤ (l *ℤ a)
        grows l a h k = one l a (mul_nonneg l (a -ℤ pos 1) h (omega (arith, ints, k)))

    clash : (x y z : ℤ) → pos 0 ≡ x +ℤ y +ℤ z → l ≤ℤ x → m ≤ℤ y → n ≤ℤ z → ⊥
    clash x y z e p q r = omega (arith, ints, h)

-- g lies strictly on one side of the plane of f
pub above_apart : (f g : Triangle) → pos 0 <ℤ side f g.a → pos 0 <ℤ side f g.b → pos 0 <ℤ side f g.c → Shared f g → ⊥
above_apart f g ha hb hc h =
    positive_sum h.l h.m h.n (side f g.a) (side f g.b) (side f g.c) h.common.l_least h.common.m_least h.common.n_least
    (subst (λ z. pos 0 <ℤ z) h.common.balance.total h.common.some) ha hb hc (level f g h.i h.j h.k h.l h.m h.n h.common.balance)

negated : (l m n a b c : ℤ) → pos 0 ≡ sum_of_three l m n a b c → pos 0 ≡ sum_of_three l m n (neg_ℤ a) (neg_ℤ b) (neg_ℤ c)
unfolding same
negated l m n a b c e =
    ring_given (num (pos 0)) (var 0 ⊗ neg (var 3) ⊕ var 1 ⊗ neg (var 4) ⊕ var 2 ⊗ neg (var 5)) (given (num (negsuc 0)) (num (pos 0)) (var 0 ⊗ var 3 ⊕ var 1 ⊗ var 4 ⊕ var 2 ⊗ var 5) ∷ [])
    tt (l ∷ m ∷ n ∷ a ∷ b ∷ c ∷ []) (e, tt)

neg_above : (a : ℤ) → a <ℤ pos 0 → pos 0 <ℤ neg_ℤ a
neg_above a h = omega (arith, ints)

pub below_apart : (f g : Triangle) → side f g.a <ℤ pos 0 → side f g.b <ℤ pos 0 → side f g.c <ℤ pos 0 → Shared f g → ⊥
below_apart f g ha hb hc h =
    positive_sum h.l h.m h.n (neg_ℤ (side f g.a)) (neg_ℤ (side f g.b)) (neg_ℤ (side f g.c)) h.common.l_least h.common.m_least h.common.n_least
    (subst (λ z. pos 0 <ℤ z) h.common.balance.total h.common.some) (neg_above (side f g.a) ha) (neg_above (side f g.b) hb) (neg_above (side f g.c) hc)
    (negated h.l h.m h.n (side f g.a) (side f g.b) (side f g.c) (level f g h.i h.j h.k h.l h.m h.n h.common.balance))
