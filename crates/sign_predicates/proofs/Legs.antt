-- Points of a triangle strictly inside a tetrahedron, by their weights; and when a leg has such a point.
use Rattle.std.proofs.Common.{◌≡◌, inl, inr, ℕ, ◌+◌, ◌<◌, ℤ, pos, neg_ℤ, ◌+ℤ◌, ◌-ℤ◌, ◌*ℤ◌, ◌<ℤ◌, ◌≤ℤ◌, List, [], ◌∷◌, refl, sym, subst, arith}
use Rattle.std.specs.Prelude.{◌↔◌}
use Rattle.std.specs.List.{AllByRecursion}
use Rattle.std.proofs.lemmas.Int.{ints}
use Rattle.exact_algebra.proofs.Ring.{var, num, neg, ring, ring_given, given, same, ◌⊕◌, ◌⊖◌, ◌⊗◌}
use Rattle.exact_algebra.proofs.Signs.{mul_nonneg, mul_pos, from_natural, pos_of_mul, by_sign}
use Rattle.sign_predicates.specs.Point.{Point, RationalPoint}
use Rattle.sign_predicates.specs.Orientation.{Triangle, orient, orient_rational, det, side, side_rational, volume, IsPositive, opposite_a, opposite_b, opposite_c, opposite_d}
use Rattle.sign_predicates.specs.declared.tetrahedron.Corners.{Corners}
use Rattle.sign_predicates.specs.declared.entering.Lows.{Lows}
use Rattle.sign_predicates.specs.Meeting.{IsMeanOf, segment, TriangleEnters}
use Rattle.sign_predicates.specs.Entering.{AreLows, FacesOpen, EdgesOpen}
use Rattle.sign_predicates.proofs.Terms.{RationalE, triangleE, rationalE, cornersE, pointE, of_triangle, of_rational, of_corners, of_point, sideE, side_rationalE, normalE, orientE, volumeE, opposite_aE, opposite_bE, opposite_cE, opposite_dE}
use Rattle.sign_predicates.proofs.Shared.{sum_of_three}
use Rattle.sign_predicates.proofs.Exit.{along}
use Rattle.sign_predicates.proofs.Helly.{minor, Opens, Agrees, First, first, above_at, minor_above}

-- the side at h of the combination of the corners of f
abbrev pub weighed : Triangle → Triangle → ℤ → ℤ → ℤ → ℤ
weighed h f i j k = sum_of_three i j k (side h f.a) (side h f.b) (side h f.c)

-- weights of a point of the triangle that is strictly inside the tetrahedron
pub record Within (t : Corners) (f : Triangle) (i j k : ℤ) : Type 0 where
  pub i_least : pos 0 ≤ℤ i
  pub j_least : pos 0 ≤ℤ j
  pub k_least : pos 0 ≤ℤ k
  pub a_above : pos 0 <ℤ weighed (opposite_a t) f i j k
  pub b_above : pos 0 <ℤ weighed (opposite_b t) f i j k
  pub c_above : pos 0 <ℤ weighed (opposite_c t) f i j k
  pub d_above : pos 0 <ℤ weighed (opposite_d t) f i j k

pub record Enters (t : Corners) (f : Triangle) : Type 0 where
  pub i : ℤ
  pub j : ℤ
  pub k : ℤ
  pub within : Within t f i j k

-- ---- points and weights

mul_swap : (a b : ℤ) → a *ℤ b ≡ b *ℤ a
unfolding same
mul_swap a b = ring (var 0 ⊗ var 1) (var 1 ⊗ var 0) tt (a ∷ b ∷ [])

mean_side : (h f : Triangle) (i j k s : ℤ) (x : RationalPoint) → s ≡ i +ℤ j +ℤ k → sum_of_three i j k f.a.x f.b.x f.c.x *ℤ x.w ≡ x.x *ℤ s → sum_of_three i j k f.a.y f.b.y f.c.y *ℤ x.w ≡ x.y *ℤ s
    → sum_of_three i j k f.a.z f.b.z f.c.z *ℤ x.w ≡ x.z *ℤ s → weighed h f i j k *ℤ x.w ≡ side_rational h x *ℤ s
unfolding same det orient orient_rational
mean_side h f i j k s x e ex ey ez =
    let H = triangleE 4 in
    let F = triangleE 13 in
    let X = rationalE 22 in
    let N = normalE H in
    let o = num (pos 0) ⊖ (N.x ⊗ H.a.x ⊕ N.y ⊗ H.a.y ⊕ N.z ⊗ H.a.z) in
    ring_given ((var 0 ⊗ sideE H F.a ⊕ var 1 ⊗ sideE H F.b ⊕ var 2 ⊗ sideE H F.c) ⊗ X.w) (side_rationalE H X ⊗ var 3)
    (given (neg (o ⊗ X.w)) (var 3) (var 0 ⊕ var 1 ⊕ var 2)
    ∷ given N.x ((var 0 ⊗ F.a.x ⊕ var 1 ⊗ F.b.x ⊕ var 2 ⊗ F.c.x) ⊗ X.w) (X.x ⊗ var 3)
    ∷ given N.y ((var 0 ⊗ F.a.y ⊕ var 1 ⊗ F.b.y ⊕ var 2 ⊗ F.c.y) ⊗ X.w) (X.y ⊗ var 3)
    ∷ given N.z ((var 0 ⊗ F.a.z ⊕ var 1 ⊗ F.b.z ⊕ var 2 ⊗ F.c.z) ⊗ X.w) (X.z ⊗ var 3) ∷ [])
    tt (i ∷ j ∷ k ∷ s ∷ (of_triangle h (of_triangle f (of_rational x [])))) (e, (ex, (ey, (ez, tt))))

-- the side of a combination of corners is that of the sides
side_of_point : (h f : Triangle) (i j k s : ℤ) → s ≡ i +ℤ j +ℤ k
    → side_rational h (record { x = sum_of_three i j k f.a.x f.b.x f.c.x; y = sum_of_three i j k f.a.y f.b.y f.c.y; z = sum_of_three i j k f.a.z f.b.z f.c.z; w = s }) ≡ weighed h f i j k
unfolding same det orient orient_rational
side_of_point h f i j k s e =
    let H = triangleE 4 in
    let F = triangleE 13 in
    let N = normalE H in
    let X : RationalE = record { x = var 0 ⊗ F.a.x ⊕ var 1 ⊗ F.b.x ⊕ var 2 ⊗ F.c.x; y = var 0 ⊗ F.a.y ⊕ var 1 ⊗ F.b.y ⊕ var 2 ⊗ F.c.y; z = var 0 ⊗ F.a.z ⊕ var 1 ⊗ F.b.z ⊕ var 2 ⊗ F.c.z; w = var 3 } in
    ring_given (side_rationalE H X) (var 0 ⊗ sideE H F.a ⊕ var 1 ⊗ sideE H F.b ⊕ var 2 ⊗ sideE H F.c)
    (given (num (pos 0) ⊖ (N.x ⊗ H.a.x ⊕ N.y ⊗ H.a.y ⊕ N.z ⊗ H.a.z)) (var 3) (var 0 ⊕ var 1 ⊕ var 2) ∷ [])
    tt (i ∷ j ∷ k ∷ s ∷ (of_triangle h (of_triangle f []))) (e, tt)

none : (i j k a b c : ℤ) → i ≡ pos 0 → j ≡ pos 0 → k ≡ pos 0 → sum_of_three i j k a b c ≡ pos 0
unfolding same
none i j k a b c ei ej ek =
    ring_given (var 0 ⊗ var 3 ⊕ var 1 ⊗ var 4 ⊕ var 2 ⊗ var 5) (num (pos 0)) (given (var 3) (var 0) (num (pos 0)) ∷ given (var 4) (var 1) (num (pos 0)) ∷ given (var 5) (var 2) (num (pos 0)) ∷ []) tt
    (i ∷ j ∷ k ∷ a ∷ b ∷ c ∷ []) (ei, (ej, (ek, tt)))

-- the side of a mean
side_of_mean : (h f : Triangle) (i j k : ℕ) (x : RationalPoint) → IsMeanOf f i j k x → weighed h f (pos i) (pos j) (pos k) *ℤ x.w ≡ side_rational h x *ℤ pos (i + j + k)
side_of_mean h f i j k x m = mean_side h f (pos i) (pos j) (pos k) (pos (i + j + k)) x refl m.x_is m.y_is m.z_is

above_sum : (a w s n : ℤ) → a *ℤ w ≡ s *ℤ n → pos 0 <ℤ w → pos 0 <ℤ s → pos 0 <ℤ n → pos 0 <ℤ a
above_sum a w s n e hw hs hn = pos_of_mul w a hw (moved (mul_swap w a) e (mul_pos s n hs hn))
  where
    moved : {x y z : ℤ} → x ≡ y → y ≡ z → pos 0 <ℤ z → pos 0 <ℤ x
    moved {x} {y} {z} e d h = omega (arith, ints)

nat_least : (n : ℕ) → pos 0 ≤ℤ pos n
nat_least n = omega (arith, ints)

nat_above : (n : ℕ) → 0 < n → pos 0 <ℤ pos n
nat_above n h = omega (arith, ints)

above_nat : (n : ℕ) → pos 0 <ℤ pos n → 0 < n
above_nat n h = omega (arith, ints)

pub enters_of : (t : Corners) (f : Triangle) → TriangleEnters t f → Enters t f
enters_of t f (x, w, (inside, (i, j, k, m))) = record {
  i = pos i;
  j = pos j;
  k = pos k;
  within = record {
    i_least = nat_least i;
    j_least = nat_least j;
    k_least = nat_least k;
    a_above = above_sum (weighed (opposite_a t) f (pos i) (pos j) (pos k)) x.w (side_rational (opposite_a t) x) (pos (i + j + k)) (side_of_mean (opposite_a t) f i j k x m) w inside.0 (nat_above (i + j + k) m.some);
    b_above = above_sum (weighed (opposite_b t) f (pos i) (pos j) (pos k)) x.w (side_rational (opposite_b t) x) (pos (i + j + k)) (side_of_mean (opposite_b t) f i j k x m) w inside.1.0 (nat_above (i + j + k) m.some);
    c_above = above_sum (weighed (opposite_c t) f (pos i) (pos j) (pos k)) x.w (side_rational (opposite_c t) x) (pos (i + j + k)) (side_of_mean (opposite_c t) f i j k x m) w inside.1.1.0 (nat_above (i + j + k) m.some);
    d_above = above_sum (weighed (opposite_d t) f (pos i) (pos j) (pos k)) x.w (side_rational (opposite_d t) x) (pos (i + j + k)) (side_of_mean (opposite_d t) f i j k x m) w inside.1.1.1.0 (nat_above (i + j + k) m.some);
  };
}

-- weights that are all 0 are those of no point
some_weight : (i j k a b c : ℤ) → pos 0 ≤ℤ i → pos 0 ≤ℤ j → pos 0 ≤ℤ k → pos 0 <ℤ sum_of_three i j k a b c → pos 0 <ℤ (i +ℤ j +ℤ k)
some_weight i j k a b c hi hj hk h = by_sign (i +ℤ j +ℤ k) (λ l. absurd (omega (arith, ints))) (λ z. absurd (clash (none i j k a b c (omega (arith, ints)) (omega (arith, ints)) (omega (arith, ints))) h)) (λ g. g)
  where
    clash : {x : ℤ} → x ≡ pos 0 → pos 0 <ℤ x → ⊥
    clash {x} e h = omega (arith, ints)

-- the combination as a rational point
abbrev mean_point : Triangle → ℕ → ℕ → ℕ → RationalPoint
mean_point f i j k = record { x = sum_of_three (pos i) (pos j) (pos k) f.a.x f.b.x f.c.x; y = sum_of_three (pos i) (pos j) (pos k) f.a.y f.b.y f.c.y; z = sum_of_three (pos i) (pos j) (pos k) f.a.z f.b.z f.c.z; w = pos (i + j + k) }

natural_enters : (t : Corners) (f : Triangle) (i j k : ℕ) → Within t f (pos i) (pos j) (pos k) → TriangleEnters t f
natural_enters t f i j k w =
    let some : pos 0 <ℤ pos (i + j + k) = some_weight (pos i) (pos j) (pos k) _ _ _ w.i_least w.j_least w.k_least w.a_above in
    let at = λ (h : Triangle). side_of_point h f (pos i) (pos j) (pos k) (pos (i + j + k)) refl in (
      mean_point f i j k,
      some,
      (
        (
          subst (λ z. pos 0 <ℤ z) (sym (at (opposite_a t))) w.a_above,
          (subst (λ z. pos 0 <ℤ z) (sym (at (opposite_b t))) w.b_above, (subst (λ z. pos 0 <ℤ z) (sym (at (opposite_c t))) w.c_above, (subst (λ z. pos 0 <ℤ z) (sym (at (opposite_d t))) w.d_above, tt))),
        ),
        (i, j, k, record { some = above_nat (i + j + k) some; x_is = refl; y_is = refl; z_is = refl }),
      ),
    )

pub of_enters : (t : Corners) (f : Triangle) → Enters t f → TriangleEnters t f
of_enters t f h = go (from_natural h.i h.within.i_least) (from_natural h.j h.within.j_least) (from_natural h.k h.within.k_least)
  where
    go : (i : ℕ) × (h.i ≡ pos i) → (j : ℕ) × (h.j ≡ pos j) → (k : ℕ) × (h.k ≡ pos k) → TriangleEnters t f
    go (i, ei) (j, ej) (k, ek) =
        natural_enters t f i j k (subst (λ z. Within t f z (pos j) (pos k)) ei (subst (λ z. Within t f h.i z (pos k)) ej (subst (λ z. Within t f h.i h.j z) ek h.within)))

-- ---- two faces and a leg

minor-a_b : (t : Corners) (p q : Point) → minor (side (opposite_a t) p, side (opposite_a t) q) (side (opposite_b t) p, side (opposite_b t) q) ≡ volume t *ℤ orient t.d t.c q p
unfolding same det orient
minor-a_b t p q =
    let W = cornersE 0 in
    let P = pointE 12 in
    let Q = pointE 15 in
    ring (sideE (opposite_aE W) P ⊗ sideE (opposite_bE W) Q ⊖ sideE (opposite_bE W) P ⊗ sideE (opposite_aE W) Q) (volumeE W ⊗ orientE W.d W.c Q P) tt (of_corners t (of_point p (of_point q [])))

minor-a_c : (t : Corners) (p q : Point) → minor (side (opposite_a t) p, side (opposite_a t) q) (side (opposite_c t) p, side (opposite_c t) q) ≡ volume t *ℤ orient t.b t.d q p
unfolding same det orient
minor-a_c t p q =
    let W = cornersE 0 in
    let P = pointE 12 in
    let Q = pointE 15 in
    ring (sideE (opposite_aE W) P ⊗ sideE (opposite_cE W) Q ⊖ sideE (opposite_cE W) P ⊗ sideE (opposite_aE W) Q) (volumeE W ⊗ orientE W.b W.d Q P) tt (of_corners t (of_point p (of_point q [])))

minor-a_d : (t : Corners) (p q : Point) → minor (side (opposite_a t) p, side (opposite_a t) q) (side (opposite_d t) p, side (opposite_d t) q) ≡ volume t *ℤ orient t.c t.b q p
unfolding same det orient
minor-a_d t p q =
    let W = cornersE 0 in
    let P = pointE 12 in
    let Q = pointE 15 in
    ring (sideE (opposite_aE W) P ⊗ sideE (opposite_dE W) Q ⊖ sideE (opposite_dE W) P ⊗ sideE (opposite_aE W) Q) (volumeE W ⊗ orientE W.c W.b Q P) tt (of_corners t (of_point p (of_point q [])))

minor-b_a : (t : Corners) (p q : Point) → minor (side (opposite_b t) p, side (opposite_b t) q) (side (opposite_a t) p, side (opposite_a t) q) ≡ volume t *ℤ orient t.c t.d q p
unfolding same det orient
minor-b_a t p q =
    let W = cornersE 0 in
    let P = pointE 12 in
    let Q = pointE 15 in
    ring (sideE (opposite_bE W) P ⊗ sideE (opposite_aE W) Q ⊖ sideE (opposite_aE W) P ⊗ sideE (opposite_bE W) Q) (volumeE W ⊗ orientE W.c W.d Q P) tt (of_corners t (of_point p (of_point q [])))

minor-b_c : (t : Corners) (p q : Point) → minor (side (opposite_b t) p, side (opposite_b t) q) (side (opposite_c t) p, side (opposite_c t) q) ≡ volume t *ℤ orient t.d t.a q p
unfolding same det orient
minor-b_c t p q =
    let W = cornersE 0 in
    let P = pointE 12 in
    let Q = pointE 15 in
    ring (sideE (opposite_bE W) P ⊗ sideE (opposite_cE W) Q ⊖ sideE (opposite_cE W) P ⊗ sideE (opposite_bE W) Q) (volumeE W ⊗ orientE W.d W.a Q P) tt (of_corners t (of_point p (of_point q [])))

minor-b_d : (t : Corners) (p q : Point) → minor (side (opposite_b t) p, side (opposite_b t) q) (side (opposite_d t) p, side (opposite_d t) q) ≡ volume t *ℤ orient t.a t.c q p
unfolding same det orient
minor-b_d t p q =
    let W = cornersE 0 in
    let P = pointE 12 in
    let Q = pointE 15 in
    ring (sideE (opposite_bE W) P ⊗ sideE (opposite_dE W) Q ⊖ sideE (opposite_dE W) P ⊗ sideE (opposite_bE W) Q) (volumeE W ⊗ orientE W.a W.c Q P) tt (of_corners t (of_point p (of_point q [])))

minor-c_a : (t : Corners) (p q : Point) → minor (side (opposite_c t) p, side (opposite_c t) q) (side (opposite_a t) p, side (opposite_a t) q) ≡ volume t *ℤ orient t.d t.b q p
unfolding same det orient
minor-c_a t p q =
    let W = cornersE 0 in
    let P = pointE 12 in
    let Q = pointE 15 in
    ring (sideE (opposite_cE W) P ⊗ sideE (opposite_aE W) Q ⊖ sideE (opposite_aE W) P ⊗ sideE (opposite_cE W) Q) (volumeE W ⊗ orientE W.d W.b Q P) tt (of_corners t (of_point p (of_point q [])))

minor-c_b : (t : Corners) (p q : Point) → minor (side (opposite_c t) p, side (opposite_c t) q) (side (opposite_b t) p, side (opposite_b t) q) ≡ volume t *ℤ orient t.a t.d q p
unfolding same det orient
minor-c_b t p q =
    let W = cornersE 0 in
    let P = pointE 12 in
    let Q = pointE 15 in
    ring (sideE (opposite_cE W) P ⊗ sideE (opposite_bE W) Q ⊖ sideE (opposite_bE W) P ⊗ sideE (opposite_cE W) Q) (volumeE W ⊗ orientE W.a W.d Q P) tt (of_corners t (of_point p (of_point q [])))

minor-c_d : (t : Corners) (p q : Point) → minor (side (opposite_c t) p, side (opposite_c t) q) (side (opposite_d t) p, side (opposite_d t) q) ≡ volume t *ℤ orient t.b t.a q p
unfolding same det orient
minor-c_d t p q =
    let W = cornersE 0 in
    let P = pointE 12 in
    let Q = pointE 15 in
    ring (sideE (opposite_cE W) P ⊗ sideE (opposite_dE W) Q ⊖ sideE (opposite_dE W) P ⊗ sideE (opposite_cE W) Q) (volumeE W ⊗ orientE W.b W.a Q P) tt (of_corners t (of_point p (of_point q [])))

minor-d_a : (t : Corners) (p q : Point) → minor (side (opposite_d t) p, side (opposite_d t) q) (side (opposite_a t) p, side (opposite_a t) q) ≡ volume t *ℤ orient t.b t.c q p
unfolding same det orient
minor-d_a t p q =
    let W = cornersE 0 in
    let P = pointE 12 in
    let Q = pointE 15 in
    ring (sideE (opposite_dE W) P ⊗ sideE (opposite_aE W) Q ⊖ sideE (opposite_aE W) P ⊗ sideE (opposite_dE W) Q) (volumeE W ⊗ orientE W.b W.c Q P) tt (of_corners t (of_point p (of_point q [])))

minor-d_b : (t : Corners) (p q : Point) → minor (side (opposite_d t) p, side (opposite_d t) q) (side (opposite_b t) p, side (opposite_b t) q) ≡ volume t *ℤ orient t.c t.a q p
unfolding same det orient
minor-d_b t p q =
    let W = cornersE 0 in
    let P = pointE 12 in
    let Q = pointE 15 in
    ring (sideE (opposite_dE W) P ⊗ sideE (opposite_bE W) Q ⊖ sideE (opposite_bE W) P ⊗ sideE (opposite_dE W) Q) (volumeE W ⊗ orientE W.c W.a Q P) tt (of_corners t (of_point p (of_point q [])))

minor-d_c : (t : Corners) (p q : Point) → minor (side (opposite_d t) p, side (opposite_d t) q) (side (opposite_c t) p, side (opposite_c t) q) ≡ volume t *ℤ orient t.a t.b q p
unfolding same det orient
minor-d_c t p q =
    let W = cornersE 0 in
    let P = pointE 12 in
    let Q = pointE 15 in
    ring (sideE (opposite_dE W) P ⊗ sideE (opposite_cE W) Q ⊖ sideE (opposite_cE W) P ⊗ sideE (opposite_dE W) Q) (volumeE W ⊗ orientE W.a W.b Q P) tt (of_corners t (of_point p (of_point q [])))

-- the faces, each by the sides of the leg's two ends
abbrev pub ends : Corners → Point → Point → List (ℤ × ℤ)
ends t p q = (side (opposite_a t) p, side (opposite_a t) q) ∷ (side (opposite_b t) p, side (opposite_b t) q) ∷ (side (opposite_c t) p, side (opposite_c t) q) ∷ (side (opposite_d t) p, side (opposite_d t) q) ∷ []

above_of : (a b c : ℤ) → a ≡ b *ℤ c → pos 0 <ℤ b → pos 0 <ℤ c → pos 0 <ℤ a
above_of a b c e h k = moved e (mul_pos b c h k)
  where
    moved : {x y : ℤ} → x ≡ y → pos 0 <ℤ y → pos 0 <ℤ x
    moved {x} {y} e h = omega (arith, ints)

of_above : (a b c : ℤ) → a ≡ b *ℤ c → pos 0 <ℤ b → pos 0 <ℤ a → pos 0 <ℤ c
of_above a b c e h k = pos_of_mul b c h (moved e k)
  where
    moved : {x y : ℤ} → x ≡ y → pos 0 <ℤ x → pos 0 <ℤ y
    moved {x} {y} e h = omega (arith, ints)

opens_of : (a b : ℤ) → ((a ≤ℤ pos 0) × (b ≤ℤ pos 0) → ⊥) → Opens (a, b)
opens_of a b h = by_sign a (λ l. low (omega (arith, ints))) (λ z. low (omega (arith, ints))) (λ g. inl g)
  where
    low : a ≤ℤ pos 0 → Opens (a, b)
    low k = by_sign b (λ l. absurd (h (k, omega (arith, ints)))) (λ z. absurd (h (k, omega (arith, ints)))) (λ g. inr g)

turned : (e : ℤ × ℤ) → Opens e → Opens (e.1, e.0)
turned e (inl h) = inr h
turned e (inr h) = inl h

-- the leg's tests in the sides of its ends
record LegTests (t : Corners) (p q : Point) : Type 0 where
  opens : AllByRecursion Opens (ends t p q)
  a_b : side (opposite_a t) q ≤ℤ pos 0 → side (opposite_b t) p ≤ℤ pos 0 → pos 0 <ℤ minor (side (opposite_a t) p, side (opposite_a t) q) (side (opposite_b t) p, side (opposite_b t) q)
  a_c : side (opposite_a t) q ≤ℤ pos 0 → side (opposite_c t) p ≤ℤ pos 0 → pos 0 <ℤ minor (side (opposite_a t) p, side (opposite_a t) q) (side (opposite_c t) p, side (opposite_c t) q)
  a_d : side (opposite_a t) q ≤ℤ pos 0 → side (opposite_d t) p ≤ℤ pos 0 → pos 0 <ℤ minor (side (opposite_a t) p, side (opposite_a t) q) (side (opposite_d t) p, side (opposite_d t) q)
  b_a : side (opposite_b t) q ≤ℤ pos 0 → side (opposite_a t) p ≤ℤ pos 0 → pos 0 <ℤ minor (side (opposite_b t) p, side (opposite_b t) q) (side (opposite_a t) p, side (opposite_a t) q)
  b_c : side (opposite_b t) q ≤ℤ pos 0 → side (opposite_c t) p ≤ℤ pos 0 → pos 0 <ℤ minor (side (opposite_b t) p, side (opposite_b t) q) (side (opposite_c t) p, side (opposite_c t) q)
  b_d : side (opposite_b t) q ≤ℤ pos 0 → side (opposite_d t) p ≤ℤ pos 0 → pos 0 <ℤ minor (side (opposite_b t) p, side (opposite_b t) q) (side (opposite_d t) p, side (opposite_d t) q)
  c_a : side (opposite_c t) q ≤ℤ pos 0 → side (opposite_a t) p ≤ℤ pos 0 → pos 0 <ℤ minor (side (opposite_c t) p, side (opposite_c t) q) (side (opposite_a t) p, side (opposite_a t) q)
  c_b : side (opposite_c t) q ≤ℤ pos 0 → side (opposite_b t) p ≤ℤ pos 0 → pos 0 <ℤ minor (side (opposite_c t) p, side (opposite_c t) q) (side (opposite_b t) p, side (opposite_b t) q)
  c_d : side (opposite_c t) q ≤ℤ pos 0 → side (opposite_d t) p ≤ℤ pos 0 → pos 0 <ℤ minor (side (opposite_c t) p, side (opposite_c t) q) (side (opposite_d t) p, side (opposite_d t) q)
  d_a : side (opposite_d t) q ≤ℤ pos 0 → side (opposite_a t) p ≤ℤ pos 0 → pos 0 <ℤ minor (side (opposite_d t) p, side (opposite_d t) q) (side (opposite_a t) p, side (opposite_a t) q)
  d_b : side (opposite_d t) q ≤ℤ pos 0 → side (opposite_b t) p ≤ℤ pos 0 → pos 0 <ℤ minor (side (opposite_d t) p, side (opposite_d t) q) (side (opposite_b t) p, side (opposite_b t) q)
  d_c : side (opposite_d t) q ≤ℤ pos 0 → side (opposite_c t) p ≤ℤ pos 0 → pos 0 <ℤ minor (side (opposite_d t) p, side (opposite_d t) q) (side (opposite_c t) p, side (opposite_c t) q)

leg_tests : (t : Corners) (p q : Point) (lp lq : Lows) → IsPositive t → AreLows t p lp → AreLows t q lq → FacesOpen lp lq → EdgesOpen t p q lp lq → LegTests t p q
leg_tests t p q lp lq v hp hq f e = record {
  opens = (opens_of (side (opposite_a t) p) (side (opposite_a t) q) (λ h. f.a_open (hp.a_low.1 h.0, hq.a_low.1 h.1)), (opens_of (side (opposite_b t) p) (side (opposite_b t) q) (λ h. f.b_open (hp.b_low.1 h.0, hq.b_low.1 h.1)), (opens_of (side (opposite_c t) p) (side (opposite_c t) q) (λ h. f.c_open (hp.c_low.1 h.0, hq.c_low.1 h.1)), (opens_of (side (opposite_d t) p) (side (opposite_d t) q) (λ h. f.d_open (hp.d_low.1 h.0, hq.d_low.1 h.1)), tt))));
  a_b = λ h k. above_of _ (volume t) (orient t.d t.c q p) (minor-a_b t p q) v (e.from_a.0 (hq.a_low.1 h) (hp.b_low.1 k));
  a_c = λ h k. above_of _ (volume t) (orient t.b t.d q p) (minor-a_c t p q) v (e.from_a.1 (hq.a_low.1 h) (hp.c_low.1 k));
  a_d = λ h k. above_of _ (volume t) (orient t.c t.b q p) (minor-a_d t p q) v (e.from_a.2 (hq.a_low.1 h) (hp.d_low.1 k));
  b_a = λ h k. above_of _ (volume t) (orient t.c t.d q p) (minor-b_a t p q) v (e.from_b.0 (hq.b_low.1 h) (hp.a_low.1 k));
  b_c = λ h k. above_of _ (volume t) (orient t.d t.a q p) (minor-b_c t p q) v (e.from_b.2 (hq.b_low.1 h) (hp.c_low.1 k));
  b_d = λ h k. above_of _ (volume t) (orient t.a t.c q p) (minor-b_d t p q) v (e.from_b.1 (hq.b_low.1 h) (hp.d_low.1 k));
  c_a = λ h k. above_of _ (volume t) (orient t.d t.b q p) (minor-c_a t p q) v (e.from_c.1 (hq.c_low.1 h) (hp.a_low.1 k));
  c_b = λ h k. above_of _ (volume t) (orient t.a t.d q p) (minor-c_b t p q) v (e.from_c.2 (hq.c_low.1 h) (hp.b_low.1 k));
  c_d = λ h k. above_of _ (volume t) (orient t.b t.a q p) (minor-c_d t p q) v (e.from_c.0 (hq.c_low.1 h) (hp.d_low.1 k));
  d_a = λ h k. above_of _ (volume t) (orient t.b t.c q p) (minor-d_a t p q) v (e.from_d.2 (hq.d_low.1 h) (hp.a_low.1 k));
  d_b = λ h k. above_of _ (volume t) (orient t.c t.a q p) (minor-d_b t p q) v (e.from_d.1 (hq.d_low.1 h) (hp.b_low.1 k));
  d_c = λ h k. above_of _ (volume t) (orient t.a t.b q p) (minor-d_c t p q) v (e.from_d.0 (hq.d_low.1 h) (hp.c_low.1 k));
}

turned_minor : (a b c d : ℤ) → b *ℤ c -ℤ d *ℤ a ≡ c *ℤ b -ℤ a *ℤ d
unfolding same
turned_minor a b c d = ring (var 1 ⊗ var 2 ⊖ var 3 ⊗ var 0) (var 2 ⊗ var 1 ⊖ var 0 ⊗ var 3) tt (a ∷ b ∷ c ∷ d ∷ [])

-- turned round, two functions change places
minor_turned : (a b c d : ℤ) → pos 0 <ℤ minor (c, d) (a, b) → pos 0 <ℤ minor (b, a) (d, c)
minor_turned a b c d h = moved (turned_minor a b c d) h
  where
    moved : {x y : ℤ} → x ≡ y → pos 0 <ℤ y → pos 0 <ℤ x
    moved {x} {y} e h = omega (arith, ints)

not_both : (a b : ℤ) → Opens (a, b) → a ≤ℤ pos 0 → b ≤ℤ pos 0 → ⊥
not_both a b (inl h) k l = omega (arith, ints)
not_both a b (inr h) k l = omega (arith, ints)

agrees_a : (t : Corners) (p q : Point) → LegTests t p q → side (opposite_a t) q ≤ℤ pos 0 → Agrees (ends t p q) (side (opposite_a t) p, side (opposite_a t) q)
agrees_a t p q s h = (λ k. absurd (not_both _ _ s.opens.0 k h), (λ k. s.a_b h k, (λ k. s.a_c h k, (λ k. s.a_d h k, tt))))

agrees_a-back : (t : Corners) (p q : Point) → LegTests t p q → side (opposite_a t) p ≤ℤ pos 0 → Agrees (ends t q p) (side (opposite_a t) q, side (opposite_a t) p)
agrees_a-back t p q s h = (λ k. absurd (not_both _ _ s.opens.0 h k), (λ k. minor_turned (side (opposite_a t) p) (side (opposite_a t) q) (side (opposite_b t) p) (side (opposite_b t) q) (s.b_a k h), (λ k. minor_turned (side (opposite_a t) p) (side (opposite_a t) q) (side (opposite_c t) p) (side (opposite_c t) q) (s.c_a k h), (λ k. minor_turned (side (opposite_a t) p) (side (opposite_a t) q) (side (opposite_d t) p) (side (opposite_d t) q) (s.d_a k h), tt))))

agrees_b : (t : Corners) (p q : Point) → LegTests t p q → side (opposite_b t) q ≤ℤ pos 0 → Agrees (ends t p q) (side (opposite_b t) p, side (opposite_b t) q)
agrees_b t p q s h = (λ k. s.b_a h k, (λ k. absurd (not_both _ _ s.opens.1.0 k h), (λ k. s.b_c h k, (λ k. s.b_d h k, tt))))

agrees_b-back : (t : Corners) (p q : Point) → LegTests t p q → side (opposite_b t) p ≤ℤ pos 0 → Agrees (ends t q p) (side (opposite_b t) q, side (opposite_b t) p)
agrees_b-back t p q s h = (λ k. minor_turned (side (opposite_b t) p) (side (opposite_b t) q) (side (opposite_a t) p) (side (opposite_a t) q) (s.a_b k h), (λ k. absurd (not_both _ _ s.opens.1.0 h k), (λ k. minor_turned (side (opposite_b t) p) (side (opposite_b t) q) (side (opposite_c t) p) (side (opposite_c t) q) (s.c_b k h), (λ k. minor_turned (side (opposite_b t) p) (side (opposite_b t) q) (side (opposite_d t) p) (side (opposite_d t) q) (s.d_b k h), tt))))

agrees_c : (t : Corners) (p q : Point) → LegTests t p q → side (opposite_c t) q ≤ℤ pos 0 → Agrees (ends t p q) (side (opposite_c t) p, side (opposite_c t) q)
agrees_c t p q s h = (λ k. s.c_a h k, (λ k. s.c_b h k, (λ k. absurd (not_both _ _ s.opens.1.1.0 k h), (λ k. s.c_d h k, tt))))

agrees_c-back : (t : Corners) (p q : Point) → LegTests t p q → side (opposite_c t) p ≤ℤ pos 0 → Agrees (ends t q p) (side (opposite_c t) q, side (opposite_c t) p)
agrees_c-back t p q s h = (λ k. minor_turned (side (opposite_c t) p) (side (opposite_c t) q) (side (opposite_a t) p) (side (opposite_a t) q) (s.a_c k h), (λ k. minor_turned (side (opposite_c t) p) (side (opposite_c t) q) (side (opposite_b t) p) (side (opposite_b t) q) (s.b_c k h), (λ k. absurd (not_both _ _ s.opens.1.1.0 h k), (λ k. minor_turned (side (opposite_c t) p) (side (opposite_c t) q) (side (opposite_d t) p) (side (opposite_d t) q) (s.d_c k h), tt))))

agrees_d : (t : Corners) (p q : Point) → LegTests t p q → side (opposite_d t) q ≤ℤ pos 0 → Agrees (ends t p q) (side (opposite_d t) p, side (opposite_d t) q)
agrees_d t p q s h = (λ k. s.d_a h k, (λ k. s.d_b h k, (λ k. s.d_c h k, (λ k. absurd (not_both _ _ s.opens.1.1.1.0 k h), tt))))

agrees_d-back : (t : Corners) (p q : Point) → LegTests t p q → side (opposite_d t) p ≤ℤ pos 0 → Agrees (ends t q p) (side (opposite_d t) q, side (opposite_d t) p)
agrees_d-back t p q s h = (λ k. minor_turned (side (opposite_d t) p) (side (opposite_d t) q) (side (opposite_a t) p) (side (opposite_a t) q) (s.a_d k h), (λ k. minor_turned (side (opposite_d t) p) (side (opposite_d t) q) (side (opposite_b t) p) (side (opposite_b t) q) (s.b_d k h), (λ k. minor_turned (side (opposite_d t) p) (side (opposite_d t) q) (side (opposite_c t) p) (side (opposite_c t) q) (s.c_d k h), (λ k. absurd (not_both _ _ s.opens.1.1.1.0 h k), tt))))

third_none : (i j a b : ℤ) → sum_of_three i j (pos 0) a b b ≡ along i j (a, b)
unfolding same
third_none i j a b = ring (var 0 ⊗ var 2 ⊕ var 1 ⊗ var 3 ⊕ num (pos 0) ⊗ var 3) (var 0 ⊗ var 2 ⊕ var 1 ⊗ var 3) tt (i ∷ j ∷ a ∷ b ∷ [])

two_weights : (i j a b : ℤ) → pos 0 <ℤ along i j (a, b) → pos 0 <ℤ sum_of_three i j (pos 0) a b b
two_weights i j a b h = moved (third_none i j a b) h
  where
    moved : {x y : ℤ} → x ≡ y → pos 0 <ℤ y → pos 0 <ℤ x
    moved {x} {y} e h = omega (arith, ints)

leg_weights : (t : Corners) (p q : Point) → LegTests t p q → Enters t (segment p q)
leg_weights t p q s = from r r'
  where
    r : First (ends t p q) (ends t p q)
    r = first (ends t p q) s.opens (ends t p q) s.opens (agrees_a t p q s, (agrees_b t p q s, (agrees_c t p q s, (agrees_d t p q s, tt))))

    back : AllByRecursion Opens (ends t q p)
    back = (turned _ s.opens.0, (turned _ s.opens.1.0, (turned _ s.opens.1.1.0, (turned _ s.opens.1.1.1.0, tt))))

    r' : First (ends t q p) (ends t q p)
    r' = first (ends t q p) back (ends t q p) back (agrees_a-back t p q s, (agrees_b-back t p q s, (agrees_c-back t p q s, (agrees_d-back t p q s, tt))))

    from : First (ends t p q) (ends t p q) → First (ends t q p) (ends t q p) → Enters t (segment p q)
    from r r' = record {
      i = neg_ℤ r.e.1 +ℤ r'.e.0;
      j = r.e.0 -ℤ r'.e.1;
      k = pos 0;
      within = record {
        i_least = omega (arith, ints, r.ends, r'.starts);
        j_least = omega (arith, ints, r.starts, r'.ends);
        k_least = omega (arith, ints);
        a_above = two_weights (neg_ℤ r.e.1 +ℤ r'.e.0) (r.e.0 -ℤ r'.e.1) (side (opposite_a t) p) (side (opposite_a t) q)
            (above_at r.e.0 r.e.1 r'.e.0 r'.e.1 r.starts r.ends r'.starts r'.ends (side (opposite_a t) p, side (opposite_a t) q) s.opens.0 r.agrees.0 r.before.0 r'.agrees.0 r'.before.0);
        b_above = two_weights (neg_ℤ r.e.1 +ℤ r'.e.0) (r.e.0 -ℤ r'.e.1) (side (opposite_b t) p) (side (opposite_b t) q)
            (above_at r.e.0 r.e.1 r'.e.0 r'.e.1 r.starts r.ends r'.starts r'.ends (side (opposite_b t) p, side (opposite_b t) q) s.opens.1.0 r.agrees.1.0 r.before.1.0 r'.agrees.1.0 r'.before.1.0);
        c_above = two_weights (neg_ℤ r.e.1 +ℤ r'.e.0) (r.e.0 -ℤ r'.e.1) (side (opposite_c t) p) (side (opposite_c t) q)
            (above_at r.e.0 r.e.1 r'.e.0 r'.e.1 r.starts r.ends r'.starts r'.ends (side (opposite_c t) p, side (opposite_c t) q) s.opens.1.1.0 r.agrees.1.1.0 r.before.1.1.0 r'.agrees.1.1.0 r'.before.1.1.0);
        d_above = two_weights (neg_ℤ r.e.1 +ℤ r'.e.0) (r.e.0 -ℤ r'.e.1) (side (opposite_d t) p) (side (opposite_d t) q)
            (above_at r.e.0 r.e.1 r'.e.0 r'.e.1 r.starts r.ends r'.starts r'.ends (side (opposite_d t) p, side (opposite_d t) q) s.opens.1.1.1.0 r.agrees.1.1.1.0 r.before.1.1.1.0 r'.agrees.1.1.1.0 r'.before.1.1.1.0);
      };
    }

-- ---- and the other direction

sum_as_leg : (i j k a b : ℤ) → sum_of_three i j k a b b ≡ along i (j +ℤ k) (a, b)
unfolding same
sum_as_leg i j k a b = ring (var 0 ⊗ var 3 ⊕ var 1 ⊗ var 4 ⊕ var 2 ⊗ var 4) (var 0 ⊗ var 3 ⊕ (var 1 ⊕ var 2) ⊗ var 4) tt (i ∷ j ∷ k ∷ a ∷ b ∷ [])

negated : (i j k a b : ℤ) → i *ℤ neg_ℤ a +ℤ j *ℤ neg_ℤ b +ℤ k *ℤ neg_ℤ b ≡ neg_ℤ (sum_of_three i j k a b b)
unfolding same
negated i j k a b = ring (var 0 ⊗ neg (var 3) ⊕ var 1 ⊗ neg (var 4) ⊕ var 2 ⊗ neg (var 4)) (neg (var 0 ⊗ var 3 ⊕ var 1 ⊗ var 4 ⊕ var 2 ⊗ var 4)) tt (i ∷ j ∷ k ∷ a ∷ b ∷ [])

both_low : (i j k a b : ℤ) → pos 0 ≤ℤ i → pos 0 ≤ℤ j → pos 0 ≤ℤ k → a ≤ℤ pos 0 → b ≤ℤ pos 0 → pos 0 <ℤ sum_of_three i j k a b b → ⊥
both_low i j k a b hi hj hk ha hb h =
    clash (negated i j k a b) (mul_nonneg i (neg_ℤ a) hi (flip a ha)) (mul_nonneg j (neg_ℤ b) hj (flip b hb)) (mul_nonneg k (neg_ℤ b) hk (flip b hb)) h
  where
    flip : (x : ℤ) → x ≤ℤ pos 0 → pos 0 ≤ℤ neg_ℤ x
    flip x h = omega (arith, ints)

    clash : {x y z w : ℤ} → x +ℤ y +ℤ z ≡ neg_ℤ w → pos 0 ≤ℤ x → pos 0 ≤ℤ y → pos 0 ≤ℤ z → pos 0 <ℤ w → ⊥
    clash {x} {y} {z} {w} e p q r s = omega (arith, ints)

faces_of : (t : Corners) (p q : Point) (lp lq : Lows) → AreLows t p lp → AreLows t q lq → Enters t (segment p q) → FacesOpen lp lq
faces_of t p q lp lq hp hq h = record {
  a_open = λ k. both_low h.i h.j h.k (side (opposite_a t) p) (side (opposite_a t) q) h.within.i_least h.within.j_least h.within.k_least (hp.a_low.0 k.0) (hq.a_low.0 k.1) h.within.a_above;
  b_open = λ k. both_low h.i h.j h.k (side (opposite_b t) p) (side (opposite_b t) q) h.within.i_least h.within.j_least h.within.k_least (hp.b_low.0 k.0) (hq.b_low.0 k.1) h.within.b_above;
  c_open = λ k. both_low h.i h.j h.k (side (opposite_c t) p) (side (opposite_c t) q) h.within.i_least h.within.j_least h.within.k_least (hp.c_low.0 k.0) (hq.c_low.0 k.1) h.within.c_above;
  d_open = λ k. both_low h.i h.j h.k (side (opposite_d t) p) (side (opposite_d t) q) h.within.i_least h.within.j_least h.within.k_least (hp.d_low.0 k.0) (hq.d_low.0 k.1) h.within.d_above;
}

edges_of : (t : Corners) (p q : Point) (lp lq : Lows) → IsPositive t → AreLows t p lp → AreLows t q lq → Enters t (segment p q) → EdgesOpen t p q lp lq
edges_of t p q lp lq v hp hq h = record {
  from_a = (λ x y. of_above _ (volume t) (orient t.d t.c q p) (minor-a_b t p q) v (leg_minor (side (opposite_a t) p, side (opposite_a t) q) (side (opposite_b t) p, side (opposite_b t) q) h.within.a_above h.within.b_above (hq.a_low.0 x) (hp.b_low.0 y)), λ x y. of_above _ (volume t) (orient t.b t.d q p) (minor-a_c t p q) v (leg_minor (side (opposite_a t) p, side (opposite_a t) q) (side (opposite_c t) p, side (opposite_c t) q) h.within.a_above h.within.c_above (hq.a_low.0 x) (hp.c_low.0 y)), λ x y. of_above _ (volume t) (orient t.c t.b q p) (minor-a_d t p q) v (leg_minor (side (opposite_a t) p, side (opposite_a t) q) (side (opposite_d t) p, side (opposite_d t) q) h.within.a_above h.within.d_above (hq.a_low.0 x) (hp.d_low.0 y)));
  from_b = (λ x y. of_above _ (volume t) (orient t.c t.d q p) (minor-b_a t p q) v (leg_minor (side (opposite_b t) p, side (opposite_b t) q) (side (opposite_a t) p, side (opposite_a t) q) h.within.b_above h.within.a_above (hq.b_low.0 x) (hp.a_low.0 y)), λ x y. of_above _ (volume t) (orient t.a t.c q p) (minor-b_d t p q) v (leg_minor (side (opposite_b t) p, side (opposite_b t) q) (side (opposite_d t) p, side (opposite_d t) q) h.within.b_above h.within.d_above (hq.b_low.0 x) (hp.d_low.0 y)), λ x y. of_above _ (volume t) (orient t.d t.a q p) (minor-b_c t p q) v (leg_minor (side (opposite_b t) p, side (opposite_b t) q) (side (opposite_c t) p, side (opposite_c t) q) h.within.b_above h.within.c_above (hq.b_low.0 x) (hp.c_low.0 y)));
  from_c = (λ x y. of_above _ (volume t) (orient t.b t.a q p) (minor-c_d t p q) v (leg_minor (side (opposite_c t) p, side (opposite_c t) q) (side (opposite_d t) p, side (opposite_d t) q) h.within.c_above h.within.d_above (hq.c_low.0 x) (hp.d_low.0 y)), λ x y. of_above _ (volume t) (orient t.d t.b q p) (minor-c_a t p q) v (leg_minor (side (opposite_c t) p, side (opposite_c t) q) (side (opposite_a t) p, side (opposite_a t) q) h.within.c_above h.within.a_above (hq.c_low.0 x) (hp.a_low.0 y)), λ x y. of_above _ (volume t) (orient t.a t.d q p) (minor-c_b t p q) v (leg_minor (side (opposite_c t) p, side (opposite_c t) q) (side (opposite_b t) p, side (opposite_b t) q) h.within.c_above h.within.b_above (hq.c_low.0 x) (hp.b_low.0 y)));
  from_d = (λ x y. of_above _ (volume t) (orient t.a t.b q p) (minor-d_c t p q) v (leg_minor (side (opposite_d t) p, side (opposite_d t) q) (side (opposite_c t) p, side (opposite_c t) q) h.within.d_above h.within.c_above (hq.d_low.0 x) (hp.c_low.0 y)), λ x y. of_above _ (volume t) (orient t.c t.a q p) (minor-d_b t p q) v (leg_minor (side (opposite_d t) p, side (opposite_d t) q) (side (opposite_b t) p, side (opposite_b t) q) h.within.d_above h.within.b_above (hq.d_low.0 x) (hp.b_low.0 y)), λ x y. of_above _ (volume t) (orient t.b t.c q p) (minor-d_a t p q) v (leg_minor (side (opposite_d t) p, side (opposite_d t) q) (side (opposite_a t) p, side (opposite_a t) q) h.within.d_above h.within.a_above (hq.d_low.0 x) (hp.a_low.0 y)));
}
  where
    least : (a b : ℤ) → pos 0 ≤ℤ a → pos 0 ≤ℤ b → pos 0 ≤ℤ (a +ℤ b)
    least a b h k = omega (arith, ints)

    leg_minor : (e d : ℤ × ℤ) → pos 0 <ℤ sum_of_three h.i h.j h.k e.0 e.1 e.1 → pos 0 <ℤ sum_of_three h.i h.j h.k d.0 d.1 d.1 → e.1 ≤ℤ pos 0 → d.0 ≤ℤ pos 0 → pos 0 <ℤ minor e d
    leg_minor e d he hd le ld =
        minor_above h.i (h.j +ℤ h.k) e d h.within.i_least (least h.j h.k h.within.j_least h.within.k_least)
        (subst (λ z. pos 0 <ℤ z) (sum_as_leg h.i h.j h.k e.0 e.1) he) (subst (λ z. pos 0 <ℤ z) (sum_as_leg h.i h.j h.k d.0 d.1) hd) le ld

-- A leg has a point strictly inside a positive tetrahedron
pub leg_law : (t : Corners) (p q : Point) (lp lq : Lows) → IsPositive t → AreLows t p lp → AreLows t q lq → (FacesOpen lp lq × EdgesOpen t p q lp lq) ↔ TriangleEnters t (segment p q)
leg_law t p q lp lq v hp hq = (
  λ h. of_enters t (segment p q) (leg_weights t p q (leg_tests t p q lp lq v hp hq h.0 h.1)),
  λ h. (faces_of t p q lp lq hp hq (enters_of t (segment p q) h), edges_of t p q lp lq v hp hq (enters_of t (segment p q) h)),
)

negated_three : (i j k a b c : ℤ) → i *ℤ neg_ℤ a +ℤ j *ℤ neg_ℤ b +ℤ k *ℤ neg_ℤ c ≡ neg_ℤ (sum_of_three i j k a b c)
unfolding same
negated_three i j k a b c = ring (var 0 ⊗ neg (var 3) ⊕ var 1 ⊗ neg (var 4) ⊕ var 2 ⊗ neg (var 5)) (neg (var 0 ⊗ var 3 ⊕ var 1 ⊗ var 4 ⊕ var 2 ⊗ var 5)) tt (i ∷ j ∷ k ∷ a ∷ b ∷ c ∷ [])

three_low : (i j k a b c : ℤ) → pos 0 ≤ℤ i → pos 0 ≤ℤ j → pos 0 ≤ℤ k → a ≤ℤ pos 0 → b ≤ℤ pos 0 → c ≤ℤ pos 0 → pos 0 <ℤ sum_of_three i j k a b c → ⊥
three_low i j k a b c hi hj hk ha hb hc h =
    clash (negated_three i j k a b c) (mul_nonneg i (neg_ℤ a) hi (flip a ha)) (mul_nonneg j (neg_ℤ b) hj (flip b hb)) (mul_nonneg k (neg_ℤ c) hk (flip c hc)) h
  where
    flip : (x : ℤ) → x ≤ℤ pos 0 → pos 0 ≤ℤ neg_ℤ x
    flip x h = omega (arith, ints)

    clash : {x y z w : ℤ} → x +ℤ y +ℤ z ≡ neg_ℤ w → pos 0 ≤ℤ x → pos 0 ≤ℤ y → pos 0 ≤ℤ z → pos 0 <ℤ w → ⊥
    clash {x} {y} {z} {w} e p q r s = omega (arith, ints)

-- a triangle that is on or beyond one face doesn't enter
module _ (t : Corners) (f : Triangle) (enters : TriangleEnters t f) where
  abbrev LiesBeyond : Triangle → Type 0
  LiesBeyond face = (side face f.a ≤ℤ pos 0) × (side face f.b ≤ℤ pos 0) × (side face f.c ≤ℤ pos 0)

  pub not_beyond_a : LiesBeyond (opposite_a t) → ⊥
  not_beyond_a k =
      let h = enters_of t f enters in
      three_low h.i h.j h.k (side (opposite_a t) f.a) (side (opposite_a t) f.b) (side (opposite_a t) f.c) h.within.i_least h.within.j_least h.within.k_least k.0 k.1 k.2 h.within.a_above

  pub not_beyond_b : LiesBeyond (opposite_b t) → ⊥
  not_beyond_b k =
      let h = enters_of t f enters in
      three_low h.i h.j h.k (side (opposite_b t) f.a) (side (opposite_b t) f.b) (side (opposite_b t) f.c) h.within.i_least h.within.j_least h.within.k_least k.0 k.1 k.2 h.within.b_above

  pub not_beyond_c : LiesBeyond (opposite_c t) → ⊥
  not_beyond_c k =
      let h = enters_of t f enters in
      three_low h.i h.j h.k (side (opposite_c t) f.a) (side (opposite_c t) f.b) (side (opposite_c t) f.c) h.within.i_least h.within.j_least h.within.k_least k.0 k.1 k.2 h.within.c_above

  pub not_beyond_d : LiesBeyond (opposite_d t) → ⊥
  not_beyond_d k =
      let h = enters_of t f enters in
      three_low h.i h.j h.k (side (opposite_d t) f.a) (side (opposite_d t) f.b) (side (opposite_d t) f.c) h.within.i_least h.within.j_least h.within.k_least k.0 k.1 k.2 h.within.d_above
