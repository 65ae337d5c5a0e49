-- Near a point x of a closed tetrahedron there is one strictly inside and off all the given planes, on the side of x where x is off a plane.
-- By induction over the planes: let y be good for the planes so far, and f the next. Where x is off f, a large multiple of x plus y is good. Where both
-- are on f, some corner v is off f, and a large multiple of y plus v is good. A multiple is large once it exceeds the sides at the planes so far.
use Rattle.std.proofs.Common.{◌≡◌, ◌≢◌, ◌⊎◌, inl, inr, ℕ, ◌+◌, ◌<◌, ◌≤◌, ℤ, pos, negsuc, neg_ℤ, nat_abs, ◌+ℤ◌, ◌*ℤ◌, ◌<ℤ◌, ◌≤ℤ◌, List, [], ◌∷◌, refl, ap, sym, ◌∙◌, arith}
use Rattle.std.specs.List.{AllByRecursion}
use Rattle.std.proofs.lemmas.Int.{ints}
use lib.IntN.{*ℤ-zero}
use Rattle.exact_algebra.proofs.Signs.{pos_not_neg, neg_of_negated, mul_pos, mul_nonneg, sign_of, zero_or_not, nonneg_of_pos, pos_not_zero, pos_same, neg_same, nonneg_same, squares_zero, zero_of_mul, multiple_above, multiple_below}
use Rattle.sign_predicates.specs.Point.{RationalPoint, SomeRational, as_rational}
use Rattle.sign_predicates.specs.Orientation.{Triangle, volume, normal, side, side_rational, IsPositive, StrictlyInside, InClosed, SpansPlane}
use Rattle.sign_predicates.specs.declared.tetrahedron.Corners.{Corners}
use Rattle.geo_laws.specs.Laws.{KeepsSide, NudgeLaw}
use Rattle.sign_predicates.proofs.Places.{Place, A, B, C, D, IsOther, same_or_other, corner, opposite, side-own, side-other}
use Rattle.geo_laws.proofs.Places.{at_face, all_faces, sum-none}
use Rattle.geo_laws.proofs.Determinants.{combined, middle, off_plane, side-middle, weights-side, side_rational-combined, side_rational-as_rational, side_rational-off_plane}

-- ---- a corner off a plane

-- each corner lies in the closed tetrahedron
closed_corner : (t : Corners) → IsPositive t → (v : Place) → InClosed t (as_rational (corner t v))
closed_corner t p v = all_faces (λ f. pos 0 ≤ℤ side_rational f (as_rational (corner t v))) t (λ u. by u (same_or_other u v))
  where
    by : (u : Place) → (u ≡ v) ⊎ IsOther u v → pos 0 ≤ℤ side_rational (opposite t u) (as_rational (corner t v))
    by u (inl e) = nonneg_same _ _ (side_rational-as_rational (opposite t u) (corner t v) ∙ ap (λ w. side (opposite t w) (corner t v)) e ∙ side-own t v) (nonneg_of_pos (volume t) p)
    by u (inr o) = nonneg_same _ (pos 0) (side_rational-as_rational (opposite t u) (corner t v) ∙ side-other t u v o) (omega (arith, ints))

-- where all corners lie on a plane, so does every point, and then it is no plane
no_plane : (t : Corners) (f : Triangle) → IsPositive t → SpansPlane f → ((u : Place) → side f (corner t u) ≡ pos 0) → ⊥
no_plane t f p spans on =
    let x = off_plane f in
    let part = λ (u : Place). side_rational (opposite t u) x *ℤ side f (corner t u) in
    let none = sum-none part (λ u. ap (λ n. side_rational (opposite t u) x *ℤ n) (on u) ∙ *ℤ-zero (side_rational (opposite t u) x)) in
    spans (squares_zero (normal f).x (normal f).y (normal f).z (sym (side_rational-off_plane f) ∙ zero_of_mul (volume t) (side_rational f x) p (sym (weights-side t f x) ∙ none)))

-- so some corner is off a plane
corner_off : (t : Corners) (f : Triangle) → IsPositive t → SpansPlane f → (v : Place) × (side f (corner t v) ≢ pos 0)
corner_off t f p spans = go (zero_or_not (side f t.a)) (zero_or_not (side f t.b)) (zero_or_not (side f t.c)) (zero_or_not (side f t.d))
  where
    all : side f t.a ≡ pos 0 → side f t.b ≡ pos 0 → side f t.c ≡ pos 0 → side f t.d ≡ pos 0 → (u : Place) → side f (corner t u) ≡ pos 0
    all a b c d A = a
    all a b c d B = b
    all a b c d C = c
    all a b c d D = d

    go : (side f t.a ≡ pos 0) ⊎ (side f t.a ≢ pos 0) → (side f t.b ≡ pos 0) ⊎ (side f t.b ≢ pos 0) → (side f t.c ≡ pos 0) ⊎ (side f t.c ≢ pos 0) → (side f t.d ≡ pos 0) ⊎ (side f t.d ≢ pos 0)
        → (v : Place) × (side f (corner t v) ≢ pos 0)
    go (inr h) b c d = (A, h)
    go (inl a) (inr h) c d = (B, h)
    go (inl a) (inl b) (inr h) d = (C, h)
    go (inl a) (inl b) (inl c) (inr h) = (D, h)
    go (inl a) (inl b) (inl c) (inl d) = absurd (no_plane t f p spans (all a b c d))

-- ---- combinations

-- a sum of a number above 0 and one that is at least 0
positive_sum : (s m b : ℤ) → s ≡ m +ℤ b → pos 0 <ℤ m → pos 0 ≤ℤ b → pos 0 <ℤ s
positive_sum s m b e h k = omega (arith, ints)

sum_positive : (s m b : ℤ) → s ≡ m +ℤ b → pos 0 ≤ℤ m → pos 0 <ℤ b → pos 0 <ℤ s
sum_positive s m b e h k = omega (arith, ints)

natural_at_least : (n : ℕ) (a : ℤ) → pos 0 ≤ℤ a → pos 0 ≤ℤ (pos n *ℤ a)
natural_at_least n a h = mul_nonneg (pos n) a (omega (arith, ints)) h

-- the side of a combination: one part above 0 and the other at least 0
above-first : (f : Triangle) (n : ℕ) (x y : RationalPoint) → 0 < n → pos 0 <ℤ side_rational f x → pos 0 ≤ℤ side_rational f y → pos 0 <ℤ side_rational f (combined (pos n) x y)
above-first f n x y l h k =
    positive_sum (side_rational f (combined (pos n) x y)) (pos n *ℤ side_rational f x) (side_rational f y) (side_rational-combined f (pos n) x y)
    (mul_pos (pos n) (side_rational f x) (omega (arith, ints)) h) k

above-second : (f : Triangle) (n : ℕ) (x y : RationalPoint) → pos 0 ≤ℤ side_rational f x → pos 0 <ℤ side_rational f y → pos 0 <ℤ side_rational f (combined (pos n) x y)
above-second f n x y h k =
    sum_positive (side_rational f (combined (pos n) x y)) (pos n *ℤ side_rational f x) (side_rational f y) (side_rational-combined f (pos n) x y)
    (natural_at_least n (side_rational f x) h) k

-- a multiple of a point strictly inside, and a point of the closed tetrahedron
inside-closed : (t : Corners) (n : ℕ) (x y : RationalPoint) → 0 < n → StrictlyInside t x → InClosed t y → StrictlyInside t (combined (pos n) x y)
inside-closed t n x y l h k =
    all_faces (λ f. pos 0 <ℤ side_rational f (combined (pos n) x y)) t (λ u. above-first (opposite t u) n x y l (at_face (λ f. pos 0 <ℤ side_rational f x) t h u) (at_face (λ f. pos 0 ≤ℤ side_rational f y) t k u))

-- a multiple of a point of the closed tetrahedron, and a point strictly inside
closed-inside : (t : Corners) (n : ℕ) (x y : RationalPoint) → InClosed t x → StrictlyInside t y → StrictlyInside t (combined (pos n) x y)
closed-inside t n x y h k =
    all_faces (λ f. pos 0 <ℤ side_rational f (combined (pos n) x y)) t (λ u. above-second (opposite t u) n x y (at_face (λ f. pos 0 ≤ℤ side_rational f x) t h u) (at_face (λ f. pos 0 <ℤ side_rational f y) t k u))

-- the denominator stays above 0
combined_w : (n : ℕ) (x y : RationalPoint) → pos 0 <ℤ x.w → pos 0 <ℤ y.w → pos 0 <ℤ (combined (pos n) x y).w
combined_w n x y h k = sum_positive (pos n *ℤ x.w +ℤ y.w) (pos n *ℤ x.w) y.w refl (natural_at_least n x.w (nonneg_of_pos x.w h)) k

-- ---- what a combination keeps

-- a number above or below 0 is not 0
is_off : (s : ℤ) → (pos 0 <ℤ s) ⊎ (s <ℤ pos 0) → s ≢ pos 0
is_off s (inl h) = λ e. omega (arith, ints)
is_off s (inr h) = λ e. omega (arith, ints)

-- a large multiple keeps a side that is not 0
keeps-large : (f : Triangle) (n : ℕ) (x y : RationalPoint) → nat_abs (side_rational f y) < n → side_rational f x ≢ pos 0 → KeepsSide x (combined (pos n) x y) f
keeps-large f n x y l off = record {
  off = is_off (side_rational f (combined (pos n) x y)) (go (sign_of (side_rational f x)));
  above = λ h. pos_same (side_rational f (combined (pos n) x y)) _ e (multiple_above n (side_rational f x) (side_rational f y) l h);
  below = λ h. neg_same (side_rational f (combined (pos n) x y)) _ e (multiple_below n (side_rational f x) (side_rational f y) l h);
}
  where
    e : side_rational f (combined (pos n) x y) ≡ pos n *ℤ side_rational f x +ℤ side_rational f y
    e = side_rational-combined f (pos n) x y

    go : (pos 0 <ℤ side_rational f x) ⊎ ((side_rational f x ≡ pos 0) ⊎ (pos 0 <ℤ neg_ℤ (side_rational f x)))
        → (pos 0 <ℤ side_rational f (combined (pos n) x y)) ⊎ (side_rational f (combined (pos n) x y) <ℤ pos 0)
    go (inl h) = inl (pos_same (side_rational f (combined (pos n) x y)) _ e (multiple_above n (side_rational f x) (side_rational f y) l h))
    go (inr (inl z)) = absurd (off z)
    go (inr (inr h)) = inr (neg_same (side_rational f (combined (pos n) x y)) _ e (multiple_below n (side_rational f x) (side_rational f y) l (neg_of_negated (side_rational f x) h)))

-- to keep the side of a point that keeps it
keeps-trans : (f : Triangle) (x y z : RationalPoint) → KeepsSide x y f → KeepsSide y z f → KeepsSide x z f
keeps-trans f x y z h k = record { off = k.off; above = λ a. k.above (h.above a); below = λ b. k.below (h.below b) }

-- a combination with a point that keeps the side of x keeps it
keeps-toward : (f : Triangle) (n : ℕ) (x y : RationalPoint) → KeepsSide x y f → KeepsSide x (combined (pos n) x y) f
keeps-toward f n x y k = go (sign_of (side_rational f x))
  where
    e : side_rational f (combined (pos n) x y) ≡ pos n *ℤ side_rational f x +ℤ side_rational f y
    e = side_rational-combined f (pos n) x y

    zero_part : (m b s : ℤ) → s ≡ m +ℤ b → m ≡ pos 0 → s ≡ b
    zero_part m b s e z = omega (arith, ints)

    below_sum : (s m b : ℤ) → s ≡ m +ℤ b → m ≤ℤ pos 0 → b <ℤ pos 0 → s <ℤ pos 0
    below_sum s m b e h k = omega (arith, ints)

    not_below : (s : ℤ) → s ≡ pos 0 → s <ℤ pos 0 → ⊥
    not_below s e h = omega (arith, ints)

    product_zero : side_rational f x ≡ pos 0 → pos n *ℤ side_rational f x ≡ pos 0
    product_zero z = ap (λ q. pos n *ℤ q) z ∙ *ℤ-zero (pos n)

    natural_at_most : (n : ℕ) (a : ℤ) → a <ℤ pos 0 → (pos n *ℤ a) ≤ℤ pos 0
    natural_at_most n (pos m) h = absurd (omega (arith, ints))
    natural_at_most n (negsuc m) h = omega (arith, ints)

    go : (pos 0 <ℤ side_rational f x) ⊎ ((side_rational f x ≡ pos 0) ⊎ (pos 0 <ℤ neg_ℤ (side_rational f x))) → KeepsSide x (combined (pos n) x y) f
    go (inl h) =
        let a = above-second f n x y (nonneg_of_pos (side_rational f x) h) (k.above h) in
        record { off = is_off _ (inl a); above = λ _. a; below = λ b. absurd (pos_not_neg _ h b) }
    go (inr (inl z)) =
        let s = zero_part (pos n *ℤ side_rational f x) (side_rational f y) (side_rational f (combined (pos n) x y)) e (product_zero z) in
        record { off = λ w. k.off (sym s ∙ w); above = λ a. absurd (pos_not_zero _ a z); below = λ b. absurd (not_below _ z b) }
    go (inr (inr h)) =
        let b = below_sum (side_rational f (combined (pos n) x y)) (pos n *ℤ side_rational f x) (side_rational f y) e (natural_at_most n (side_rational f x) (neg_of_negated (side_rational f x) h)) (k.below (neg_of_negated (side_rational f x) h)) in
        record { off = is_off _ (inr b); above = λ a. absurd (pos_not_neg _ a (neg_of_negated (side_rational f x) h)); below = λ _. b }

-- ---- lists of planes

-- more than the size of each side of y
bound : List Triangle → RationalPoint → ℕ
bound [] y = 1
bound (f ∷ fs) y = nat_abs (side_rational f y) + 1 + bound fs y

bound_above : (fs : List Triangle) (y : RationalPoint) → 0 < bound fs y
unfolding bound
bound_above [] y = omega arith
bound_above (f ∷ fs) y = omega arith

-- a combination toward x keeps all the planes
all-toward : (fs : List Triangle) (n : ℕ) (x y : RationalPoint) → AllByRecursion (KeepsSide x y) fs → AllByRecursion (KeepsSide x (combined (pos n) x y)) fs
all-toward [] n x y k = tt
-- a combination toward x keeps all the planes
all-toward (f ∷ fs) n x y k = (keeps-toward f n x y k.0, all-toward fs n x y k.1)

-- and so does a large multiple of a good point with any other point
all-large : (fs : List Triangle) (n : ℕ) (x y z : RationalPoint) → bound fs z ≤ n → AllByRecursion (KeepsSide x y) fs → AllByRecursion (KeepsSide x (combined (pos n) y z)) fs
unfolding bound
all-large [] n x y z l k = tt
-- and so does a large multiple of a good point with any other point
all-large (f ∷ fs) n x y z l k =
    (keeps-trans f x y (combined (pos n) y z) k.0 (keeps-large f n y z (omega arith) k.0.off), all-large fs n x y z (omega arith) k.1)

-- the middle is strictly inside
middle_inside : (t : Corners) → IsPositive t → StrictlyInside t (middle t)
middle_inside t p = all_faces (λ f. pos 0 <ℤ side_rational f (middle t)) t (λ u. pos_same _ _ (side-middle t u) p)

-- where the first part is 0 the second is the sum
only_second : (n a b s : ℤ) → s ≡ n *ℤ a +ℤ b → a ≡ pos 0 → b ≡ s
only_second n a b s e z = drop_zero (n *ℤ a) b s e (ap (λ q. n *ℤ q) z ∙ *ℤ-zero n)
  where
    drop_zero : (m b s : ℤ) → s ≡ m +ℤ b → m ≡ pos 0 → b ≡ s
    drop_zero m b s e z = omega (arith, ints)

pub law_nudge : NudgeLaw
law_nudge t p [] spans x w closed = (combined (pos 1) x (middle t), combined_w 1 x (middle t) w (omega (arith, ints)), (closed-inside t 1 x (middle t) closed (middle_inside t p), tt))
law_nudge t p (f ∷ fs) spans x w closed = go (law_nudge t p fs spans.1 x w closed)
  where
    go : SomeRational (λ y. StrictlyInside t y × AllByRecursion (KeepsSide x y) fs) → SomeRational (λ y. StrictlyInside t y × AllByRecursion (KeepsSide x y) (f ∷ fs))
    go some = by_side (zero_or_not (side_rational f x)) (zero_or_not (side_rational f some.0))
      where
        y : RationalPoint
        y = some.0

        -- x lies on the plane
        on_plane : side_rational f x ≡ pos 0 → (z : RationalPoint) → side_rational f z ≢ pos 0 → KeepsSide x z f
        on_plane e z off = record { off = off; above = λ a. absurd (pos_not_zero (side_rational f x) a e); below = λ b. absurd (no_below (side_rational f x) e b) }
          where
            no_below : (s : ℤ) → s ≡ pos 0 → s <ℤ pos 0 → ⊥
            no_below s e h = omega (arith, ints)

        by_side : (side_rational f x ≡ pos 0) ⊎ (side_rational f x ≢ pos 0) → (side_rational f some.0 ≡ pos 0) ⊎ (side_rational f some.0 ≢ pos 0)
            → SomeRational (λ y. StrictlyInside t y × AllByRecursion (KeepsSide x y) (f ∷ fs))
        by_side (inr off) _ =
            let n = nat_abs (side_rational f some.0) + 1 in (
              combined (pos n) x some.0,
              combined_w n x some.0 w some.1,
              (
                closed-inside t n x some.0 closed some.2.0,
                (keeps-large f n x some.0 (omega arith) off, all-toward fs n x some.0 some.2.1),
              ),
            )
        by_side (inl on) (inr off) = (some.0, some.1, (some.2.0, (on_plane on some.0 off, some.2.1)))
        by_side (inl on) (inl on_y) =
            let c = corner_off t f p spans.0 in
            let v = as_rational (corner t c.0) in
            let n = bound fs v in
            let off_v : side_rational f (combined (pos n) some.0 v) ≢ pos 0 = λ e. c.1 (sym (side_rational-as_rational f (corner t c.0)) ∙ only_second (pos n) (side_rational f some.0) (side_rational f v) _ (side_rational-combined f (pos n) some.0 v) on_y ∙ e) in (
              combined (pos n) some.0 v,
              combined_w n some.0 v some.1 (omega (arith, ints)),
              (inside-closed t n some.0 v (bound_above fs v) some.2.0 (closed_corner t p c.0), (on_plane on (combined (pos n) some.0 v) off_v, all-large fs n x some.0 v (omega arith) some.2.1)),
            )
