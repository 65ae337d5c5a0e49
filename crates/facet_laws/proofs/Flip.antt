-- A side that the leg from x to y passes through: the rays from x and y cross it alike, but for what its two ends say and once more.
use Rattle.std.proofs.Common.{[], ◌∷◌, ◌≡◌, Bool, true, false, refl, ap, sym, ◌∙◌, arith}
use Rattle.std.proofs.lemmas.Int.{ints}
use Rattle.std.specs.Prelude.{ℤ, pos, neg_ℤ, ◌+ℤ◌, ◌-ℤ◌, ◌*ℤ◌, ◌<ℤ◌, ◌≤ℤ◌, int_lt, int_le, not}
use Rattle.exact_algebra.proofs.Signs.{mul_pos, mul_nonneg, by_sign, mul_neg, zero_of_mul}
use Rattle.exact_algebra.proofs.Ring.{num, var, neg, ring_given, given, same, ◌⊕◌, ◌⊗◌}
use Rattle.facet_laws.specs.Parity.{Spot, spot_turn, rise, is_crossing, crosses, xor}
use Rattle.facet_laws.proofs.SpotTerms.{at_x, at_y, rise-parts, rise-between, rise-turned, level-first}
use Rattle.facet_laws.proofs.Products.{neg_pos, neg_pos_lt, neg_neg_lt, above_of}
use Rattle.facet_laws.proofs.SideLaw.{at_least_test, below_test, is_above, is_under, alike, above_test, under_test, beside}

-- ---- the tests alone

-- l: x turns left to the side; the ends below x are a and b, and below y are c and d
flip : (l a b c d : Bool)
    → ¬ ((a ≡ true) × (b ≡ true) × (c ≡ true) × (d ≡ true)) → ¬ ((a ≡ false) × (b ≡ false) × (c ≡ false) × (d ≡ false))
    → ¬ ((a ≡ true) × (b ≡ false) × (c ≡ false) × (d ≡ true)) → ¬ ((a ≡ false) × (b ≡ true) × (c ≡ true) × (d ≡ false))
    → xor (is_crossing a b l (not l)) (is_crossing c d (not l) l) ≡ not (xor (is_crossing c a l (not l)) (is_crossing d b (not l) l))
flip l true true true true n1 n2 n3 n4 = absurd (n1 (refl, refl, refl, refl))
flip true true true true false n1 n2 n3 n4 = refl
flip false true true true false n1 n2 n3 n4 = refl
flip true true true false true n1 n2 n3 n4 = refl
flip false true true false true n1 n2 n3 n4 = refl
flip true true true false false n1 n2 n3 n4 = refl
flip false true true false false n1 n2 n3 n4 = refl
flip true true false true true n1 n2 n3 n4 = refl
flip false true false true true n1 n2 n3 n4 = refl
flip true true false true false n1 n2 n3 n4 = refl
flip false true false true false n1 n2 n3 n4 = refl
flip l true false false true n1 n2 n3 n4 = absurd (n3 (refl, refl, refl, refl))
flip true true false false false n1 n2 n3 n4 = refl
flip false true false false false n1 n2 n3 n4 = refl
flip true false true true true n1 n2 n3 n4 = refl
flip false false true true true n1 n2 n3 n4 = refl
flip l false true true false n1 n2 n3 n4 = absurd (n4 (refl, refl, refl, refl))
flip true false true false true n1 n2 n3 n4 = refl
flip false false true false true n1 n2 n3 n4 = refl
flip true false true false false n1 n2 n3 n4 = refl
flip false false true false false n1 n2 n3 n4 = refl
flip true false false true true n1 n2 n3 n4 = refl
flip false false false true true n1 n2 n3 n4 = refl
flip true false false true false n1 n2 n3 n4 = refl
flip false false false true false n1 n2 n3 n4 = refl
flip true false false false true n1 n2 n3 n4 = refl
flip false false false false true n1 n2 n3 n4 = refl
flip l false false false false n1 n2 n3 n4 = absurd (n2 (refl, refl, refl, refl))

-- ---- a leg that passes through a side

-- x and y lie on either side of the line through p and q, and p and q on either side of the line through x and y, x to the left
pub record Passes (x y p q : Spot) : Type 0 where
  pub x_weight : pos 0 <ℤ x.weight
  pub y_weight : pos 0 <ℤ y.weight
  pub p_weight : pos 0 <ℤ p.weight
  pub q_weight : pos 0 <ℤ q.weight
  pub x_left : pos 0 <ℤ spot_turn x p q
  pub y_right : spot_turn y p q <ℤ pos 0
  pub p_right : spot_turn x y p <ℤ pos 0
  pub q_left : pos 0 <ℤ spot_turn x y q

-- the same, on either hand
pub record PassesBack (x y p q : Spot) : Type 0 where
  pub x_weight : pos 0 <ℤ x.weight
  pub y_weight : pos 0 <ℤ y.weight
  pub p_weight : pos 0 <ℤ p.weight
  pub q_weight : pos 0 <ℤ q.weight
  pub x_right : spot_turn x p q <ℤ pos 0
  pub y_left : pos 0 <ℤ spot_turn y p q
  pub p_left : pos 0 <ℤ spot_turn x y p
  pub q_right : spot_turn x y q <ℤ pos 0

weak : (n : ℤ) → pos 0 <ℤ n → pos 0 ≤ℤ n
weak n h = omega (arith, ints)

weak_below : (n : ℤ) → n <ℤ pos 0 → n ≤ℤ pos 0
weak_below n h = omega (arith, ints)

abbrev below : Spot → Spot → Bool
below x p = int_le (pos 0) (rise x p)

-- y is above x where p is below y and not below x
leg_rises : (x y p : Spot) → pos 0 <ℤ x.weight → pos 0 <ℤ y.weight → pos 0 <ℤ p.weight → rise x p <ℤ pos 0 → pos 0 ≤ℤ rise y p → pos 0 <ℤ rise y x
leg_rises x y p wx wy wp a c =
    above_of (rise y x) p.weight (weak _ wp)
    (less _ _ _ (rise-between x y p) (mul_nonneg (rise y p) x.weight c (weak _ wx)) (neg_pos_lt (rise x p) y.weight a wy))
  where
    less : (m n s : ℤ) → m -ℤ n ≡ s → pos 0 ≤ℤ m → n <ℤ pos 0 → pos 0 <ℤ s
    less m n s e h k = omega (arith, ints)

-- x is not both above and below y
not_twisted : (x y p q : Spot) → pos 0 <ℤ x.weight → pos 0 <ℤ y.weight → pos 0 <ℤ p.weight → pos 0 <ℤ q.weight
    → rise x p <ℤ pos 0 → pos 0 ≤ℤ rise y p → pos 0 ≤ℤ rise x q → rise y q <ℤ pos 0 → ⊥
not_twisted x y p q wx wy wp wq a c b d = twisted (rise y x) (rise x y) (leg_rises x y p wx wy wp a c) (leg_rises y x q wy wx wq d b) (rise-turned x y)
  where
    twisted : (m n : ℤ) → pos 0 <ℤ m → pos 0 <ℤ n → n ≡ neg_ℤ m → ⊥
    twisted m n h k e = omega (arith, ints)

-- the two ends of a side are not both above both ends of the leg
not_above : (C D A B u v s t r : ℤ) → C <ℤ pos 0 → pos 0 <ℤ D → pos 0 <ℤ A → B <ℤ pos 0
    → C *ℤ u -ℤ D *ℤ v ≡ A *ℤ r → C *ℤ s -ℤ D *ℤ t ≡ B *ℤ r → u <ℤ pos 0 → v <ℤ pos 0 → s <ℤ pos 0 → t <ℤ pos 0 → ⊥
unfolding same
not_above C D A B u v s t r c d a b e f hu hv hs ht =
    by_sign r
    (λ n. omega (arith, ints, mul_neg A r a n, neg_neg_lt C u c hu, mul_neg D v d hv, e))
    (λ z. omega (arith, ints, no A r z, neg_neg_lt C u c hu, mul_neg D v d hv, e))
    (λ p. omega (arith, ints, neg_pos_lt B r b p, neg_neg_lt C s c hs, mul_neg D t d ht, f))
  where
    no : (A r : ℤ) → r ≡ pos 0 → A *ℤ r ≡ pos 0
    no A r z = ap (λ n. A *ℤ n) z ∙ ring_given (var 0 ⊗ num (pos 0)) (num (pos 0)) [] tt (A ∷ []) tt

-- and where both are at most as high as both, they are at the level of x
level : (C D A B u v s t r : ℤ) → C <ℤ pos 0 → pos 0 <ℤ D → pos 0 <ℤ A → B <ℤ pos 0
    → C *ℤ u -ℤ D *ℤ v ≡ A *ℤ r → C *ℤ s -ℤ D *ℤ t ≡ B *ℤ r → pos 0 ≤ℤ u → pos 0 ≤ℤ v → pos 0 ≤ℤ s → pos 0 ≤ℤ t
    → (u ≡ pos 0) × (v ≡ pos 0)
unfolding same
level C D A B u v s t r c d a b e f hu hv hs ht =
    by_sign r
    (λ n. absurd (omega (arith, ints, neg_neg_lt B r b n, neg_pos C s (weak_below C c) hs, mul_nonneg D t (weak D d) ht, f)))
    (λ z. both (no A r z))
    (λ p. absurd (omega (arith, ints, mul_pos A r a p, neg_pos C u (weak_below C c) hu, mul_nonneg D v (weak D d) hv, e)))
  where
    no : (A r : ℤ) → r ≡ pos 0 → A *ℤ r ≡ pos 0
    no A r z = ap (λ n. A *ℤ n) z ∙ ring_given (var 0 ⊗ num (pos 0)) (num (pos 0)) [] tt (A ∷ []) tt

    both : A *ℤ r ≡ pos 0 → (u ≡ pos 0) × (v ≡ pos 0)
    both z = (
      by_sign u (λ n. absurd (omega (arith, ints))) (λ k. k) (λ g. absurd (omega (arith, ints, z, e, neg_pos_lt C u c g, mul_nonneg D v (weak D d) hv))),
      by_sign v (λ n. absurd (omega (arith, ints))) (λ k. k) (λ g. absurd (omega (arith, ints, z, e, neg_pos C u (weak_below C c) hu, mul_pos D v d g))),
    )

-- then x does not turn to the side
no_turn : (x p q : Spot) → pos 0 <ℤ x.weight → rise x p ≡ pos 0 → rise x q ≡ pos 0 → spot_turn x p q ≡ pos 0
unfolding same
no_turn x p q w a b = sym (level-first x p q) ∙ gone (rise x q) (rise x p) (rise q p) p.first q.first x.first b a
    (zero_of_mul x.weight (rise q p) w (swapped (rise q p) x.weight (sym (rise-parts x p q) ∙ gone_two (rise x p) (rise x q) q.weight p.weight a b)))
  where
    swapped : (m n : ℤ) → m *ℤ n ≡ pos 0 → n *ℤ m ≡ pos 0
    swapped m n e = ring_given (var 1 ⊗ var 0) (num (pos 0)) (given (num (pos 1)) (var 0 ⊗ var 1) (num (pos 0)) ∷ []) tt (m ∷ n ∷ []) (e, tt)

    gone_two : (a b m n : ℤ) → a ≡ pos 0 → b ≡ pos 0 → a *ℤ m -ℤ b *ℤ n ≡ pos 0
    gone_two a b m n e f = ring_given (var 0 ⊗ var 2 ⊕ neg (var 1 ⊗ var 3)) (num (pos 0)) (given (var 2) (var 0) (num (pos 0)) ∷ given (neg (var 3)) (var 1) (num (pos 0)) ∷ []) tt (a ∷ b ∷ m ∷ n ∷ []) (e, (f, tt))

    gone : (a b c l m n : ℤ) → a ≡ pos 0 → b ≡ pos 0 → c ≡ pos 0 → neg_ℤ a *ℤ l +ℤ b *ℤ m -ℤ c *ℤ n ≡ pos 0
    gone a b c l m n e f g =
        ring_given (neg (var 0) ⊗ var 3 ⊕ var 1 ⊗ var 4 ⊕ neg (var 2 ⊗ var 5)) (num (pos 0))
        (given (neg (var 3)) (var 0) (num (pos 0)) ∷ given (var 4) (var 1) (num (pos 0)) ∷ given (neg (var 5)) (var 2) (num (pos 0)) ∷ [])
        tt (a ∷ b ∷ c ∷ l ∷ m ∷ n ∷ []) (e, (f, (g, tt)))

above_false : (z : ℤ) → z <ℤ pos 0 → int_lt (pos 0) z ≡ false
above_false z h = alike _ _ (λ e. absurd (omega (arith, ints, above_test z e))) (λ e. cc)

under_false : (z : ℤ) → pos 0 <ℤ z → int_lt z (pos 0) ≡ false
under_false z h = alike _ _ (λ e. absurd (omega (arith, ints, under_test z e))) (λ e. cc)

not_zero : (n : ℤ) → pos 0 <ℤ n → n ≡ pos 0 → ⊥
not_zero n h e = omega (arith, ints)

-- the rays from x and y cross a side that the leg passes through alike, but for what its ends say and once more
pub passed_parity : (x y p q : Spot) → Passes x y p q → xor (crosses x p q) (crosses y p q) ≡ not (xor (beside x y p) (beside x y q))
passed_parity x y p q h =
    (λ j. xor (is_crossing (below x p) (below x q) (is_above _ h.x_left j) (under_false _ h.x_left j)) (is_crossing (below y p) (below y q) (above_false _ h.y_right j) (is_under _ h.y_right j)))
    ∙ flip true (below x p) (below x q) (below y p) (below y q)
    (λ e. let l = level _ _ _ _ _ _ _ _ _ h.p_right h.q_left h.x_left h.y_right (at_x x y p q) (at_y x y p q) (at_least_test _ e.1) (at_least_test _ e.0) (at_least_test _ e.3) (at_least_test _ e.2) in
    not_zero _ h.x_left (no_turn x p q h.x_weight l.1 l.0))
    (λ e. not_above _ _ _ _ _ _ _ _ _ h.p_right h.q_left h.x_left h.y_right (at_x x y p q) (at_y x y p q) (below_test _ e.1) (below_test _ e.0) (below_test _ e.3) (below_test _ e.2))
    (λ e. not_twisted x y q p h.x_weight h.y_weight h.q_weight h.p_weight (below_test _ e.1) (at_least_test _ e.3) (at_least_test _ e.0) (below_test _ e.2))
    (λ e. not_twisted x y p q h.x_weight h.y_weight h.p_weight h.q_weight (below_test _ e.0) (at_least_test _ e.2) (at_least_test _ e.1) (below_test _ e.3))
    ∙ (λ j. not (xor (is_crossing (below y p) (below x p) (sym (is_under _ h.p_right) j) (sym (above_false _ h.p_right) j)) (is_crossing (below y q) (below x q) (sym (under_false _ h.q_left) j) (sym (is_above _ h.q_left) j))))
