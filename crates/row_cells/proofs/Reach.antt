-- A row reaches into a slab exactly where its closed tetrahedron meets it.
use Rattle.std.proofs.Common.{◌≡◌, ◌⊎◌, inl, inr, ℕ, ◌<◌, ◌≤◌, ℤ, pos, neg_ℤ, ◌+ℤ◌, ◌-ℤ◌, ◌*ℤ◌, ◌<ℤ◌, ◌≤ℤ◌, Bool, true, ◌&&◌, [], ◌∷◌, sym, subst, ◌∙◌, arith}
use Rattle.std.specs.Prelude.{min, max}
use Rattle.std.proofs.lemmas.Int.{ints}
use Rattle.std.proofs.lemmas.Bool.{leb-true, le-leb, cases_lt}
use Rattle.exact_algebra.proofs.Ring.{var, num, neg, ring, same, ◌⊕◌, ◌⊗◌}
use Rattle.exact_algebra.proofs.Signs.{mul_le, mul_nonneg, le_of_mul}
use Rattle.sign_predicates.specs.Point.{Point, RationalPoint, as_rational}
use Rattle.sign_predicates.specs.declared.tetrahedron.Corners.{Corners}
use Rattle.sign_predicates.specs.Orientation.{Triangle, volume, side, side_rational, opposite_a, opposite_b, opposite_c, opposite_d, IsPositive, InClosed}
use Rattle.geo_laws.proofs.Determinants.{side_rational-as_rational}
use Rattle.geo_laws.proofs.Members.{both_true}
use Rattle.crossing_laws.proofs.Cramer.{weights-w, weights-x, side-a_a, side-a_b, side-a_c, side-a_d, side-b_a, side-b_b, side-b_c, side-b_d, side-c_a, side-c_b, side-c_c, side-c_d, side-d_a, side-d_b, side-d_c, side-d_d}
use Rattle.crossing_laws.proofs.Identities.{leg_point, side_rational-leg_point}
use Rattle.row_cells.specs.Boxes.{ahead, box_of, AreOnGrid}
use Rattle.row_cells.specs.Parts.{reaches, cell_end, MeetsSlab, ReachLaw}
use Rattle.row_cells.specs.declared.parts.Axis.TheVariants.{X}
use Rattle.row_cells.proofs.Along.{Weighs, most, least, ahead_is, low_end, high_end}

two_true : (a b : Bool) → a ≡ true → b ≡ true → (a && b) ≡ true
two_true a b e f = λ i. e i && f i

-- ---- the corners and the legs between them lie in the closed tetrahedron

weak : (n : ℤ) → pos 0 <ℤ n → pos 0 ≤ℤ n
weak n h = omega (arith, ints)

at_least : (f : Triangle) (p : Point) (n : ℤ) → side f p ≡ n → pos 0 ≤ℤ n → pos 0 ≤ℤ side_rational f (as_rational p)
at_least f p n is h = subst (λ (k : ℤ). pos 0 ≤ℤ k) (sym (side_rational-as_rational f p ∙ is)) h

zero_least : pos 0 ≤ℤ pos 0
zero_least = omega (arith, ints)

corner_a : (t : Corners) → IsPositive t → InClosed t (as_rational t.a)
corner_a t p = (at_least _ t.a _ (side-a_a t) (weak _ p), (at_least _ t.a _ (side-b_a t) zero_least, (at_least _ t.a _ (side-c_a t) zero_least, (at_least _ t.a _ (side-d_a t) zero_least, tt))))

corner_b : (t : Corners) → IsPositive t → InClosed t (as_rational t.b)
corner_b t p = (at_least _ t.b _ (side-a_b t) zero_least, (at_least _ t.b _ (side-b_b t) (weak _ p), (at_least _ t.b _ (side-c_b t) zero_least, (at_least _ t.b _ (side-d_b t) zero_least, tt))))

corner_c : (t : Corners) → IsPositive t → InClosed t (as_rational t.c)
corner_c t p = (at_least _ t.c _ (side-a_c t) zero_least, (at_least _ t.c _ (side-b_c t) zero_least, (at_least _ t.c _ (side-c_c t) (weak _ p), (at_least _ t.c _ (side-d_c t) zero_least, tt))))

corner_d : (t : Corners) → IsPositive t → InClosed t (as_rational t.d)
corner_d t p = (at_least _ t.d _ (side-a_d t) zero_least, (at_least _ t.d _ (side-b_d t) zero_least, (at_least _ t.d _ (side-c_d t) zero_least, (at_least _ t.d _ (side-d_d t) (weak _ p), tt))))

sum_least : (k l : ℤ) → pos 0 ≤ℤ k → pos 0 ≤ℤ l → pos 0 ≤ℤ (k +ℤ l)
sum_least k l p q = omega (arith, ints)

leg_least : (f : Triangle) (m n : ℤ) (p q : RationalPoint) → pos 0 ≤ℤ m → pos 0 ≤ℤ n → pos 0 ≤ℤ side_rational f p → pos 0 ≤ℤ side_rational f q → pos 0 ≤ℤ side_rational f (leg_point m n p q)
leg_least f m n p q hm hn hp hq =
    subst (λ (k : ℤ). pos 0 ≤ℤ k) (sym (side_rational-leg_point f m n p q)) (sum_least (m *ℤ side_rational f p) (n *ℤ side_rational f q) (mul_nonneg m (side_rational f p) hm hp) (mul_nonneg n (side_rational f q) hn hq))

leg_closed : (t : Corners) (m n : ℤ) (p q : RationalPoint) → pos 0 ≤ℤ m → pos 0 ≤ℤ n → InClosed t p → InClosed t q → InClosed t (leg_point m n p q)
leg_closed t m n p q hm hn hp hq =
    (leg_least (opposite_a t) m n p q hm hn hp.0 hq.0, (leg_least (opposite_b t) m n p q hm hn hp.1.0 hq.1.0, (leg_least (opposite_c t) m n p q hm hn hp.1.1.0 hq.1.1.0, (leg_least (opposite_d t) m n p q hm hn hp.1.1.1.0 hq.1.1.1.0, tt))))

-- ---- a corner that is not right of the slab, and one that is not left of it

record Low (t : Corners) (r : ℤ) : Type 0 where
  at : Point
  closed : InClosed t (as_rational at)
  is : at.x ≤ℤ r

record High (t : Corners) (l : ℤ) : Type 0 where
  at : Point
  closed : InClosed t (as_rational at)
  is : l ≤ℤ at.x

under : (x : ℤ) (n r : ℕ) → pos n ≡ x +ℤ pos 536870912 → n ≤ r → x ≤ℤ (pos r -ℤ pos 536870912)
under x n r e h = omega (arith, ints)

over : (x : ℤ) (n l : ℕ) → pos n ≡ x +ℤ pos 536870912 → l ≤ n → (pos l -ℤ pos 536870912) ≤ℤ x
over x n l e h = omega (arith, ints)

low_corner : (t : Corners) (r : ℕ) → IsPositive t → AreOnGrid t → min (min (min (ahead t.a.x) (ahead t.b.x)) (ahead t.c.x)) (ahead t.d.x) ≤ r → Low t (pos r -ℤ pos 536870912)
low_corner t r p grid h = go (cases_lt r (ahead t.a.x)) (cases_lt r (ahead t.b.x)) (cases_lt r (ahead t.c.x)) (cases_lt r (ahead t.d.x))
  where
    none : (a b c d : ℕ) → min (min (min a b) c) d ≤ r → r < a → r < b → r < c → r < d → ⊥
    none a b c d h p q u v = omega arith

    go : (r < ahead t.a.x) ⊎ (ahead t.a.x ≤ r) → (r < ahead t.b.x) ⊎ (ahead t.b.x ≤ r) → (r < ahead t.c.x) ⊎ (ahead t.c.x ≤ r) → (r < ahead t.d.x) ⊎ (ahead t.d.x ≤ r) → Low t (pos r -ℤ pos 536870912)
    go (inr k) _ _ _ = record { at = t.a; closed = corner_a t p; is = under t.a.x (ahead t.a.x) r (ahead_is t.a.x grid.a.x_low) k }
    go (inl i) (inr k) _ _ = record { at = t.b; closed = corner_b t p; is = under t.b.x (ahead t.b.x) r (ahead_is t.b.x grid.b.x_low) k }
    go (inl i) (inl j) (inr k) _ = record { at = t.c; closed = corner_c t p; is = under t.c.x (ahead t.c.x) r (ahead_is t.c.x grid.c.x_low) k }
    go (inl i) (inl j) (inl m) (inr k) = record { at = t.d; closed = corner_d t p; is = under t.d.x (ahead t.d.x) r (ahead_is t.d.x grid.d.x_low) k }
    go (inl i) (inl j) (inl m) (inl k) = absurd (none (ahead t.a.x) (ahead t.b.x) (ahead t.c.x) (ahead t.d.x) h i j m k)

high_corner : (t : Corners) (l : ℕ) → IsPositive t → AreOnGrid t → l ≤ max (max (max (ahead t.a.x) (ahead t.b.x)) (ahead t.c.x)) (ahead t.d.x) → High t (pos l -ℤ pos 536870912)
high_corner t l p grid h = go (cases_lt (ahead t.a.x) l) (cases_lt (ahead t.b.x) l) (cases_lt (ahead t.c.x) l) (cases_lt (ahead t.d.x) l)
  where
    none : (a b c d : ℕ) → l ≤ max (max (max a b) c) d → a < l → b < l → c < l → d < l → ⊥
    none a b c d h p q u v = omega arith

    go : (ahead t.a.x < l) ⊎ (l ≤ ahead t.a.x) → (ahead t.b.x < l) ⊎ (l ≤ ahead t.b.x) → (ahead t.c.x < l) ⊎ (l ≤ ahead t.c.x) → (ahead t.d.x < l) ⊎ (l ≤ ahead t.d.x) → High t (pos l -ℤ pos 536870912)
    go (inr k) _ _ _ = record { at = t.a; closed = corner_a t p; is = over t.a.x (ahead t.a.x) l (ahead_is t.a.x grid.a.x_low) k }
    go (inl i) (inr k) _ _ = record { at = t.b; closed = corner_b t p; is = over t.b.x (ahead t.b.x) l (ahead_is t.b.x grid.b.x_low) k }
    go (inl i) (inl j) (inr k) _ = record { at = t.c; closed = corner_c t p; is = over t.c.x (ahead t.c.x) l (ahead_is t.c.x grid.c.x_low) k }
    go (inl i) (inl j) (inl m) (inr k) = record { at = t.d; closed = corner_d t p; is = over t.d.x (ahead t.d.x) l (ahead_is t.d.x grid.d.x_low) k }
    go (inl i) (inl j) (inl m) (inl k) = absurd (none (ahead t.a.x) (ahead t.b.x) (ahead t.c.x) (ahead t.d.x) h i j m k)

-- ---- a common point

-- the point of a leg on the plane x = l
on_plane : (l v u : ℤ) → (u +ℤ neg_ℤ l) *ℤ v +ℤ (l +ℤ neg_ℤ v) *ℤ u ≡ l *ℤ ((u +ℤ neg_ℤ l) *ℤ pos 1 +ℤ (l +ℤ neg_ℤ v) *ℤ pos 1)
unfolding same
on_plane l v u =
    ring ((var 2 ⊕ neg (var 0)) ⊗ var 1 ⊕ (var 0 ⊕ neg (var 1)) ⊗ var 2) (var 0 ⊗ ((var 2 ⊕ neg (var 0)) ⊗ num (pos 1) ⊕ (var 0 ⊕ neg (var 1)) ⊗ num (pos 1))) tt (l ∷ v ∷ u ∷ [])

swap : (a b : ℤ) → a *ℤ b ≡ b *ℤ a
unfolding same
swap a b = ring (var 0 ⊗ var 1) (var 1 ⊗ var 0) tt (a ∷ b ∷ [])

le_at : (a b c d : ℤ) → a ≤ℤ b → a ≡ c → b ≡ d → c ≤ℤ d
le_at a b c d h e f = omega (arith, ints)

right_of : (l r w x : ℤ) → pos 0 ≤ℤ w → l ≤ℤ r → x ≡ l *ℤ w → x ≤ℤ (r *ℤ w)
right_of l r w x hw h is = le_at (w *ℤ l) (w *ℤ r) x (r *ℤ w) (mul_le w l r hw h) (swap w l ∙ sym is) (swap w r)

common : (from to : ℕ) (t : Corners) → from ≤ to → Low t (cell_end to) → High t (cell_end from) → MeetsSlab from to t
common from to t ends low high = go (low.at.x) (high.at.x) (test (cell_end from) low.at.x)
  where
    test : (l v : ℤ) → (l ≤ℤ v) ⊎ (v <ℤ l)
    test l v = grind (arith, ints)

    once : (k x : ℤ) → k ≤ℤ x → (k *ℤ pos 1) ≤ℤ x
    once k x h = omega (arith, ints)

    once_right : (k x : ℤ) → x ≤ℤ k → x ≤ℤ (k *ℤ pos 1)
    once_right k x h = omega (arith, ints)

    wide : (pos from -ℤ pos 536870912) ≤ℤ (pos to -ℤ pos 536870912)
    wide = omega (arith, ints)

    some : (l v u : ℤ) → v <ℤ l → l ≤ℤ u → pos 0 <ℤ ((u +ℤ neg_ℤ l) *ℤ pos 1 +ℤ (l +ℤ neg_ℤ v) *ℤ pos 1)
    some l v u h k = omega (arith, ints)

    gap : (l u : ℤ) → l ≤ℤ u → pos 0 ≤ℤ (u +ℤ neg_ℤ l)
    gap l u h = omega (arith, ints)

    strict : (l v : ℤ) → v <ℤ l → v ≤ℤ l
    strict l v h = omega (arith, ints)

    low_at : (l n : ℤ) → n ≡ l → l ≤ℤ n
    low_at l n e = omega (arith, ints)

    go : (v u : ℤ) → (cell_end from ≤ℤ low.at.x) ⊎ (low.at.x <ℤ cell_end from) → MeetsSlab from to t
    go v u (inl h) = (as_rational low.at, omega (arith, ints), (low.closed, record { left = once (cell_end from) low.at.x h; right = once_right (cell_end to) low.at.x low.is }))
    go v u (inr h) =
        let l = cell_end from in
        let m = high.at.x +ℤ neg_ℤ l in
        let n = l +ℤ neg_ℤ low.at.x in
        let z = leg_point m n (as_rational low.at) (as_rational high.at) in
        let plane = on_plane l low.at.x high.at.x in
        let w = some l low.at.x high.at.x h high.is in (
          z,
          w,
          (
            leg_closed t m n (as_rational low.at) (as_rational high.at) (gap l high.at.x high.is) (gap low.at.x l (strict l low.at.x h)) low.closed high.closed,
            record { left = low_at (l *ℤ z.w) z.x plane; right = right_of l (cell_end to) z.w z.x (weak z.w w) wide plane },
          ),
        )

-- ---- both ways

cancel : (a b w x : ℤ) → pos 0 <ℤ w → (a *ℤ w) ≤ℤ x → x ≤ℤ (b *ℤ w) → a ≤ℤ b
cancel a b w x hw p q = le_of_mul w a b hw (go (a *ℤ w) (b *ℤ w) (w *ℤ a) (w *ℤ b) p q (swap a w) (swap b w))
  where
    go : (k m n o : ℤ) → k ≤ℤ x → x ≤ℤ m → k ≡ n → m ≡ o → n ≤ℤ o
    go k m n o p q e f = omega (arith, ints)

numbers : (a b : ℕ) → (pos a -ℤ pos 536870912) ≤ℤ (pos b -ℤ pos 536870912) → a ≤ b
numbers a b h = omega (arith, ints)

pub reach_law : ReachLaw
reach_law place from to t ends p grid = (there, back)
  where
    there : reaches X from to (box_of place t) ≡ true → MeetsSlab from to t
    there h =
        let both = both_true _ _ h in
        common from to t ends (low_corner t to p grid (leb-true _ _ both.0)) (high_corner t from p grid (leb-true _ _ both.1))

    back : MeetsSlab from to t → reaches X from to (box_of place t) ≡ true
    back m =
        let x = m.0 in
        let inside = m.2.0 in
        let slab = m.2.1 in
        let low : ℕ = min (min (min (ahead t.a.x) (ahead t.b.x)) (ahead t.c.x)) (ahead t.d.x) in
        let high : ℕ = max (max (max (ahead t.a.x) (ahead t.b.x)) (ahead t.c.x)) (ahead t.d.x) in
        let weighs : Weighs (side_rational (opposite_a t) x) (side_rational (opposite_b t) x) (side_rational (opposite_c t) x) (side_rational (opposite_d t) x) t.a.x t.b.x t.c.x t.d.x (volume t) x.w x.x =
        record { a_least = inside.0; b_least = inside.1.0; c_least = inside.1.1.0; d_least = inside.1.1.1.0; whole = weights-w t x; sum = weights-x t x; positive = p } in
        let least_x = least _ _ _ _ t.a.x t.b.x t.c.x t.d.x (volume t) x.w x.x (pos low -ℤ pos 536870912) weighs
        (low_end t.a.x low (ahead t.a.x) (omega arith) (ahead_is t.a.x grid.a.x_low)) (low_end t.b.x low (ahead t.b.x) (omega arith) (ahead_is t.b.x grid.b.x_low))
        (low_end t.c.x low (ahead t.c.x) (omega arith) (ahead_is t.c.x grid.c.x_low)) (low_end t.d.x low (ahead t.d.x) (omega arith) (ahead_is t.d.x grid.d.x_low)) in
        let most_x = most _ _ _ _ t.a.x t.b.x t.c.x t.d.x (volume t) x.w x.x (pos high -ℤ pos 536870912) weighs
        (high_end t.a.x high (ahead t.a.x) (omega arith) (ahead_is t.a.x grid.a.x_low)) (high_end t.b.x high (ahead t.b.x) (omega arith) (ahead_is t.b.x grid.b.x_low))
        (high_end t.c.x high (ahead t.c.x) (omega arith) (ahead_is t.c.x grid.c.x_low)) (high_end t.d.x high (ahead t.d.x) (omega arith) (ahead_is t.d.x grid.d.x_low)) in
        two_true _ _ (le-leb low to (numbers low to (cancel (pos low -ℤ pos 536870912) (cell_end to) x.w x.x m.1 least_x slab.right)))
        (le-leb from high (numbers from high (cancel (cell_end from) (pos high -ℤ pos 536870912) x.w x.x m.1 slab.left most_x)))
