-- A triangle has a point strictly inside a tetrahedron where one of its sides has, or where its plane cuts the tetrahedron within the triangle.
use Rattle.std.proofs.Common.{◌≡◌, ◌⊎◌, inl, inr, ℤ, pos, neg_ℤ, ◌+ℤ◌, ◌*ℤ◌, ◌<ℤ◌, ◌≤ℤ◌, List, [], ◌∷◌, sym, ap, subst, ◌∙◌, arith}
use Rattle.std.specs.Prelude.{◌↔◌}
use Rattle.std.specs.List.{AllByRecursion}
use Rattle.std.proofs.lemmas.Int.{ints}
use Rattle.exact_algebra.proofs.Ring.{Expr, var, num, neg, ring, ring_given, given, same, ◌⊕◌, ◌⊗◌}
use Rattle.exact_algebra.proofs.Signs.{mul_nonneg, mul_pos, by_sign, zero_of_mul}
use Rattle.sign_predicates.specs.Point.{Point}
use Rattle.sign_predicates.specs.Orientation.{Triangle, orient, det, side, dot, normal, volume, IsPositive, SpansPlane, opposite_a, opposite_b, opposite_c, opposite_d}
use Rattle.sign_predicates.specs.declared.tetrahedron.Corners.{Corners}
use Rattle.sign_predicates.specs.Meeting.{segment, TriangleEnters}
use Rattle.sign_predicates.specs.Turns.{PassesWithin, IsZeroVector}
use Rattle.sign_predicates.specs.Entering.{CrossesWithin, CrossesFrom, SectionWithin, Straddles, SideEnters, SomeAbove, SomeBelow}
use Rattle.sign_predicates.proofs.Terms.{triangleE, of_triangle, sideE, normalE, dotE, PointE}
use Rattle.sign_predicates.proofs.Shared.{sum_of_three, balance_side}
use Rattle.sign_predicates.proofs.Exit.{Exit, along, SomeOf, Leaves, exit}
use Rattle.sign_predicates.proofs.Moves.{zero_least, add_least, no_a, no_b, no_c, side_ab, side_bc, side_ca}
use Rattle.sign_predicates.proofs.Flat.{zero_or_long}
use Rattle.sign_predicates.proofs.Pierce.{pierce_balance}
use Rattle.sign_predicates.proofs.Places.{Place, A, B, C, D, IsOther, same_or_other, corner, opposite, side-own, corner_least, sides-weigh}
use Rattle.sign_predicates.proofs.Legs.{weighed, Within, Enters, enters_of, of_enters}

-- ---- the point in which an edge passes the plane

-- its side at any plane
edge_side : (h f : Triangle) (p q : Point) → weighed h f (orient f.b f.c q p) (orient f.c f.a q p) (orient f.a f.b q p) ≡ sum_of_three (neg_ℤ (side f q)) (side f p) (pos 0) (side h p) (side h q) (side h q)
edge_side h f p q = balance_side h f (segment p q) (orient f.b f.c q p) (orient f.c f.a q p) (orient f.a f.b q p) (neg_ℤ (side f q)) (side f p) (pos 0) (pierce_balance f p q)

neg_least : (a : ℤ) → a ≤ℤ pos 0 → pos 0 ≤ℤ neg_ℤ a
neg_least a h = omega (arith, ints)

neg_above : (a : ℤ) → a <ℤ pos 0 → pos 0 <ℤ neg_ℤ a
neg_above a h = omega (arith, ints)

weak : (a : ℤ) → pos 0 <ℤ a → pos 0 ≤ℤ a
weak a h = omega (arith, ints)

below_weak : (a : ℤ) → a <ℤ pos 0 → a ≤ℤ pos 0
below_weak a h = omega (arith, ints)

none_of : (x : ℤ) → pos 0 *ℤ x ≡ pos 0
unfolding same
none_of x = ring (num (pos 0) ⊗ var 0) (num (pos 0)) tt (x ∷ [])

two_least : (a b x y : ℤ) → pos 0 ≤ℤ a → pos 0 ≤ℤ b → pos 0 ≤ℤ x → pos 0 ≤ℤ y → pos 0 ≤ℤ sum_of_three a b (pos 0) x y y
two_least a b x y ha hb hx hy = add (mul_nonneg a x ha hx) (mul_nonneg b y hb hy) (none_of y)
  where
    add : {u v w : ℤ} → pos 0 ≤ℤ u → pos 0 ≤ℤ v → w ≡ pos 0 → pos 0 ≤ℤ (u +ℤ v +ℤ w)
    add {u} {v} {w} h k e = omega (arith, ints)

first_above : (a b x y : ℤ) → pos 0 <ℤ a → pos 0 ≤ℤ b → pos 0 <ℤ x → pos 0 ≤ℤ y → pos 0 <ℤ sum_of_three a b (pos 0) x y y
first_above a b x y ha hb hx hy = add (mul_pos a x ha hx) (mul_nonneg b y hb hy) (none_of y)
  where
    add : {u v w : ℤ} → pos 0 <ℤ u → pos 0 ≤ℤ v → w ≡ pos 0 → pos 0 <ℤ (u +ℤ v +ℤ w)
    add {u} {v} {w} h k e = omega (arith, ints)

second_above : (a b x y : ℤ) → pos 0 ≤ℤ a → pos 0 <ℤ b → pos 0 ≤ℤ x → pos 0 <ℤ y → pos 0 <ℤ sum_of_three a b (pos 0) x y y
second_above a b x y ha hb hx hy = add (mul_nonneg a x ha hx) (mul_pos b y hb hy) (none_of y)
  where
    add : {u v w : ℤ} → pos 0 ≤ℤ u → pos 0 <ℤ v → w ≡ pos 0 → pos 0 <ℤ (u +ℤ v +ℤ w)
    add {u} {v} {w} h k e = omega (arith, ints)

-- an edge from above the plane to not above it passes the plane in the closed tetrahedron
edge_least : (t : Corners) (f : Triangle) → IsPositive t → (u v w : Place) → pos 0 <ℤ side f (corner t u) → side f (corner t v) ≤ℤ pos 0
    → pos 0 ≤ℤ weighed (opposite t w) f (orient f.b f.c (corner t v) (corner t u)) (orient f.c f.a (corner t v) (corner t u)) (orient f.a f.b (corner t v) (corner t u))
edge_least t f p u v w hu hv = subst (λ z. pos 0 ≤ℤ z) (sym (edge_side (opposite t w) f (corner t u) (corner t v)))
    (two_least (neg_ℤ (side f (corner t v))) (side f (corner t u)) (side (opposite t w) (corner t u)) (side (opposite t w) (corner t v)) (neg_least _ hv) (weak _ hu) (corner_least t p w u) (corner_least t p w v))

-- ---- points of the section

-- a point of the triangle in the closed tetrahedron, and off the face opposite this corner
record ConeAt (t : Corners) (f : Triangle) (l : Place) : Type 0 where
  i : ℤ
  j : ℤ
  k : ℤ
  i_least : pos 0 ≤ℤ i
  j_least : pos 0 ≤ℤ j
  k_least : pos 0 ≤ℤ k
  least : (w : Place) → pos 0 ≤ℤ weighed (opposite t w) f i j k
  above : pos 0 <ℤ weighed (opposite t l) f i j k

own_above : (t : Corners) → IsPositive t → (u : Place) → pos 0 <ℤ side (opposite t u) (corner t u)
own_above t p u = subst (λ z. pos 0 <ℤ z) (sym (side-own t u)) p

-- at the upper end of an edge with its lower end strictly below, and at the lower end of any
cone_up : (t : Corners) (f : Triangle) → IsPositive t → (u v : Place) → pos 0 <ℤ side f (corner t u) → side f (corner t v) <ℤ pos 0 → PassesWithin (corner t u) (corner t v) f → ConeAt t f u
cone_up t f p u v hu hv w = record {
  i = orient f.b f.c (corner t v) (corner t u);
  j = orient f.c f.a (corner t v) (corner t u);
  k = orient f.a f.b (corner t v) (corner t u);
  i_least = w.a_least;
  j_least = w.b_least;
  k_least = w.c_least;
  least = λ l. edge_least t f p u v l hu (below_weak _ hv);
  above = subst (λ z. pos 0 <ℤ z) (sym (edge_side (opposite t u) f (corner t u) (corner t v)))
      (first_above (neg_ℤ (side f (corner t v))) (side f (corner t u)) (side (opposite t u) (corner t u)) (side (opposite t u) (corner t v)) (neg_above _ hv) (weak _ hu) (own_above t p u) (corner_least t p u v));
}

cone_down : (t : Corners) (f : Triangle) → IsPositive t → (u v : Place) → pos 0 <ℤ side f (corner t u) → side f (corner t v) ≤ℤ pos 0 → PassesWithin (corner t u) (corner t v) f → ConeAt t f v
cone_down t f p u v hu hv w = record {
  i = orient f.b f.c (corner t v) (corner t u);
  j = orient f.c f.a (corner t v) (corner t u);
  k = orient f.a f.b (corner t v) (corner t u);
  i_least = w.a_least;
  j_least = w.b_least;
  k_least = w.c_least;
  least = λ l. edge_least t f p u v l hu hv;
  above = subst (λ z. pos 0 <ℤ z) (sym (edge_side (opposite t v) f (corner t u) (corner t v)))
      (second_above (neg_ℤ (side f (corner t v))) (side f (corner t u)) (side (opposite t v) (corner t u)) (side (opposite t v) (corner t v)) (neg_least _ hv) hu (corner_least t p v u) (own_above t p v));
}

abbrev EdgesWithin : Corners → Triangle → Type 0
EdgesWithin t f = (u v : Place) → IsOther u v → CrossesWithin f (corner t u) (corner t v)

edges_within : (t : Corners) (f : Triangle) → SectionWithin t f → EdgesWithin t f
edges_within t f s A A o = absurd o
edges_within t f s A B o = s.from_a.0
edges_within t f s A C o = s.from_a.1
edges_within t f s A D o = s.from_a.2
edges_within t f s B A o = s.from_b.0
edges_within t f s B B o = absurd o
edges_within t f s B C o = s.from_b.1
edges_within t f s B D o = s.from_b.2
edges_within t f s C A o = s.from_c.1
edges_within t f s C B o = s.from_c.2
edges_within t f s C C o = absurd o
edges_within t f s C D o = s.from_c.0
edges_within t f s D A o = s.from_d.1
edges_within t f s D B o = s.from_d.2
edges_within t f s D C o = s.from_d.0
edges_within t f s D D o = absurd o

signs_differ : (t : Corners) (f : Triangle) (u v : Place) → pos 0 <ℤ side f (corner t u) → side f (corner t v) ≤ℤ pos 0 → IsOther u v
signs_differ t f u v hu hv = by (same_or_other u v)
  where
    clash : (a b : ℤ) → a ≡ b → pos 0 <ℤ a → b ≤ℤ pos 0 → ⊥
    clash a b e h k = omega (arith, ints)

    by : (u ≡ v) ⊎ IsOther u v → IsOther u v
    by (inl e) = absurd (clash (side f (corner t u)) (side f (corner t v)) (ap (λ w. side f (corner t w)) e) hu hv)
    by (inr o) = o

cone_at : (t : Corners) (f : Triangle) → IsPositive t → EdgesWithin t f → (u : Place) → pos 0 <ℤ side f (corner t u) → (d : Place) → side f (corner t d) <ℤ pos 0 → (l : Place) → ConeAt t f l
cone_at t f p s u hu d hd l = by_sign (side f (corner t l)) (λ h. low (below_weak _ h)) (λ z. low (omega (arith, ints))) high
  where
    low : side f (corner t l) ≤ℤ pos 0 → ConeAt t f l
    low h = cone_down t f p u l hu h (s u l (signs_differ t f u l hu h) hu h)

    high : pos 0 <ℤ side f (corner t l) → ConeAt t f l
    high h = cone_up t f p l d h hd (s l d (signs_differ t f l d h (below_weak _ hd)) h (below_weak _ hd))

-- the sum of four such points is strictly inside

sum4_weighed : (i1 i2 i3 i4 j1 j2 j3 j4 k1 k2 k3 k4 a b c : ℤ)
    → sum_of_three (i1 +ℤ i2 +ℤ i3 +ℤ i4) (j1 +ℤ j2 +ℤ j3 +ℤ j4) (k1 +ℤ k2 +ℤ k3 +ℤ k4) a b c
    ≡ sum_of_three i1 j1 k1 a b c +ℤ sum_of_three i2 j2 k2 a b c +ℤ sum_of_three i3 j3 k3 a b c +ℤ sum_of_three i4 j4 k4 a b c
unfolding same
sum4_weighed i1 i2 i3 i4 j1 j2 j3 j4 k1 k2 k3 k4 a b c =
    let w = λ (i j k : Expr). i ⊗ var 12 ⊕ j ⊗ var 13 ⊕ k ⊗ var 14 in
    ring (w (var 0 ⊕ var 1 ⊕ var 2 ⊕ var 3) (var 4 ⊕ var 5 ⊕ var 6 ⊕ var 7) (var 8 ⊕ var 9 ⊕ var 10 ⊕ var 11))
    (w (var 0) (var 4) (var 8) ⊕ w (var 1) (var 5) (var 9) ⊕ w (var 2) (var 6) (var 10) ⊕ w (var 3) (var 7) (var 11))
    tt (i1 ∷ i2 ∷ i3 ∷ i4 ∷ j1 ∷ j2 ∷ j3 ∷ j4 ∷ k1 ∷ k2 ∷ k3 ∷ k4 ∷ a ∷ b ∷ c ∷ [])

least4 : (a b c d : ℤ) → pos 0 ≤ℤ a → pos 0 ≤ℤ b → pos 0 ≤ℤ c → pos 0 ≤ℤ d → pos 0 ≤ℤ (a +ℤ b +ℤ c +ℤ d)
least4 a b c d ha hb hc hd = omega (arith, ints)

above4_a : {e a b c d : ℤ} → e ≡ a +ℤ b +ℤ c +ℤ d → pos 0 <ℤ a → pos 0 ≤ℤ b → pos 0 ≤ℤ c → pos 0 ≤ℤ d → pos 0 <ℤ e
above4_a {e} {a} {b} {c} {d} q ha hb hc hd = omega (arith, ints)

above4_b : {e a b c d : ℤ} → e ≡ a +ℤ b +ℤ c +ℤ d → pos 0 ≤ℤ a → pos 0 <ℤ b → pos 0 ≤ℤ c → pos 0 ≤ℤ d → pos 0 <ℤ e
above4_b {e} {a} {b} {c} {d} q ha hb hc hd = omega (arith, ints)

above4_c : {e a b c d : ℤ} → e ≡ a +ℤ b +ℤ c +ℤ d → pos 0 ≤ℤ a → pos 0 ≤ℤ b → pos 0 <ℤ c → pos 0 ≤ℤ d → pos 0 <ℤ e
above4_c {e} {a} {b} {c} {d} q ha hb hc hd = omega (arith, ints)

above4_d : {e a b c d : ℤ} → e ≡ a +ℤ b +ℤ c +ℤ d → pos 0 ≤ℤ a → pos 0 ≤ℤ b → pos 0 ≤ℤ c → pos 0 <ℤ d → pos 0 <ℤ e
above4_d {e} {a} {b} {c} {d} q ha hb hc hd = omega (arith, ints)

sum_of_cones : (t : Corners) (f : Triangle) → ConeAt t f A → ConeAt t f B → ConeAt t f C → ConeAt t f D → Enters t f
sum_of_cones t f a b c d = record {
  i = a.i +ℤ b.i +ℤ c.i +ℤ d.i;
  j = a.j +ℤ b.j +ℤ c.j +ℤ d.j;
  k = a.k +ℤ b.k +ℤ c.k +ℤ d.k;
  within = record {
    i_least = least4 a.i b.i c.i d.i a.i_least b.i_least c.i_least d.i_least;
    j_least = least4 a.j b.j c.j d.j a.j_least b.j_least c.j_least d.j_least;
    k_least = least4 a.k b.k c.k d.k a.k_least b.k_least c.k_least d.k_least;
    a_above = above4_a (sum4_weighed a.i b.i c.i d.i a.j b.j c.j d.j a.k b.k c.k d.k (side (opposite_a t) f.a) (side (opposite_a t) f.b) (side (opposite_a t) f.c)) a.above (b.least A) (c.least A) (d.least A);
    b_above = above4_b (sum4_weighed a.i b.i c.i d.i a.j b.j c.j d.j a.k b.k c.k d.k (side (opposite_b t) f.a) (side (opposite_b t) f.b) (side (opposite_b t) f.c)) (a.least B) b.above (c.least B) (d.least B);
    c_above = above4_c (sum4_weighed a.i b.i c.i d.i a.j b.j c.j d.j a.k b.k c.k d.k (side (opposite_c t) f.a) (side (opposite_c t) f.b) (side (opposite_c t) f.c)) (a.least C) (b.least C) c.above (d.least C);
    d_above = above4_d (sum4_weighed a.i b.i c.i d.i a.j b.j c.j d.j a.k b.k c.k d.k (side (opposite_d t) f.a) (side (opposite_d t) f.b) (side (opposite_d t) f.c)) (a.least D) (b.least D) (c.least D) d.above;
  };
}

section_enters : (t : Corners) (f : Triangle) → IsPositive t → SectionWithin t f → (u : Place) → pos 0 <ℤ side f (corner t u) → (d : Place) → side f (corner t d) <ℤ pos 0 → Enters t f
section_enters t f p s u hu d hd =
    let at = cone_at t f p (edges_within t f s) u hu d hd in
    sum_of_cones t f (at A) (at B) (at C) (at D)

-- ---- a point strictly inside has corners on both sides of its plane

above_place : (t : Corners) (f : Triangle) → Straddles t f → (u : Place) × (pos 0 <ℤ side f (corner t u))
above_place t f s = go s.0
  where
    go : (pos 0 <ℤ side f t.a) ⊎ ((pos 0 <ℤ side f t.b) ⊎ ((pos 0 <ℤ side f t.c) ⊎ (pos 0 <ℤ side f t.d))) → (u : Place) × (pos 0 <ℤ side f (corner t u))
    go (inl h) = (A, h)
    go (inr (inl h)) = (B, h)
    go (inr (inr (inl h))) = (C, h)
    go (inr (inr (inr h))) = (D, h)

below_place : (t : Corners) (f : Triangle) → Straddles t f → (u : Place) × (side f (corner t u) <ℤ pos 0)
below_place t f s = go s.1
  where
    go : (side f t.a <ℤ pos 0) ⊎ ((side f t.b <ℤ pos 0) ⊎ ((side f t.c <ℤ pos 0) ⊎ (side f t.d <ℤ pos 0))) → (u : Place) × (side f (corner t u) <ℤ pos 0)
    go (inl h) = (A, h)
    go (inr (inl h)) = (B, h)
    go (inr (inr (inl h))) = (C, h)
    go (inr (inr (inr h))) = (D, h)

-- four numbers with weights above 0 that add up to nothing: none has a sign alone
abbrev four : ℤ → ℤ → ℤ → ℤ → ℤ → ℤ → ℤ → ℤ → ℤ
four wa wb wc wd a b c d = wa *ℤ a +ℤ wb *ℤ b +ℤ wc *ℤ c +ℤ wd *ℤ d

part_least : (w a : ℤ) → pos 0 <ℤ w → pos 0 ≤ℤ a → pos 0 ≤ℤ (w *ℤ a)
part_least w a h k = mul_nonneg w a (weak w h) k

all_least_zero : (wa wb wc wd a b c d : ℤ) → pos 0 <ℤ wa → pos 0 <ℤ wb → pos 0 <ℤ wc → pos 0 <ℤ wd → pos 0 ≤ℤ a → pos 0 ≤ℤ b → pos 0 ≤ℤ c → pos 0 ≤ℤ d
    → four wa wb wc wd a b c d ≡ pos 0 → (a ≡ pos 0) × (b ≡ pos 0) × (c ≡ pos 0) × (d ≡ pos 0)
all_least_zero wa wb wc wd a b c d ha hb hc hd ka kb kc kd e =
    let z = zeros (part_least wa a ha ka) (part_least wb b hb kb) (part_least wc c hc kc) (part_least wd d hd kd) e in
    (zero_of_mul wa a ha z.0, zero_of_mul wb b hb z.1, zero_of_mul wc c hc z.2, zero_of_mul wd d hd z.3)
  where
    zeros : {x y z w : ℤ} → pos 0 ≤ℤ x → pos 0 ≤ℤ y → pos 0 ≤ℤ z → pos 0 ≤ℤ w → x +ℤ y +ℤ z +ℤ w ≡ pos 0 → (x ≡ pos 0) × (y ≡ pos 0) × (z ≡ pos 0) × (w ≡ pos 0)
    zeros {x} {y} {z} {w} hx hy hz hw e = (omega (arith, ints), omega (arith, ints), omega (arith, ints), omega (arith, ints))

zero_right : (v : ℤ) → v *ℤ pos 0 ≡ pos 0
unfolding same
zero_right v = ring (var 0 ⊗ num (pos 0)) (num (pos 0)) tt (v ∷ [])

times_none : (v : ℤ) {x : ℤ} → x ≡ pos 0 → v *ℤ x ≡ pos 0
times_none v {x} e = ap (λ z. v *ℤ z) e ∙ zero_right v

on_own : (f : Triangle) → (side f f.a ≡ pos 0) × (side f f.b ≡ pos 0) × (side f f.c ≡ pos 0)
unfolding same det orient
on_own f =
    let F = triangleE 0 in
    (ring (sideE F F.a) (num (pos 0)) tt (of_triangle f []), ring (sideE F F.b) (num (pos 0)) tt (of_triangle f []), ring (sideE F F.c) (num (pos 0)) tt (of_triangle f []))

on_plane_sum : (i j k aa ab ac ba bb bc ca cb cc' da db dc a b c d : ℤ)
    → aa *ℤ a +ℤ ba *ℤ b +ℤ ca *ℤ c +ℤ da *ℤ d ≡ pos 0 → ab *ℤ a +ℤ bb *ℤ b +ℤ cb *ℤ c +ℤ db *ℤ d ≡ pos 0 → ac *ℤ a +ℤ bc *ℤ b +ℤ cc' *ℤ c +ℤ dc *ℤ d ≡ pos 0
    → four (sum_of_three i j k aa ab ac) (sum_of_three i j k ba bb bc) (sum_of_three i j k ca cb cc') (sum_of_three i j k da db dc) a b c d ≡ pos 0
unfolding same
on_plane_sum i j k aa ab ac ba bb bc ca cb cc' da db dc a b c d e g h =
    let w = λ (x y z : Expr). var 0 ⊗ x ⊕ var 1 ⊗ y ⊕ var 2 ⊗ z in
    ring_given (w (var 3) (var 4) (var 5) ⊗ var 15 ⊕ w (var 6) (var 7) (var 8) ⊗ var 16 ⊕ w (var 9) (var 10) (var 11) ⊗ var 17 ⊕ w (var 12) (var 13) (var 14) ⊗ var 18) (num (pos 0))
    (given (var 0) (var 3 ⊗ var 15 ⊕ var 6 ⊗ var 16 ⊕ var 9 ⊗ var 17 ⊕ var 12 ⊗ var 18) (num (pos 0))
    ∷ given (var 1) (var 4 ⊗ var 15 ⊕ var 7 ⊗ var 16 ⊕ var 10 ⊗ var 17 ⊕ var 13 ⊗ var 18) (num (pos 0))
    ∷ given (var 2) (var 5 ⊗ var 15 ⊕ var 8 ⊗ var 16 ⊕ var 11 ⊗ var 17 ⊕ var 14 ⊗ var 18) (num (pos 0)) ∷ [])
    tt (i ∷ j ∷ k ∷ aa ∷ ab ∷ ac ∷ ba ∷ bb ∷ bc ∷ ca ∷ cb ∷ cc' ∷ da ∷ db ∷ dc ∷ a ∷ b ∷ c ∷ d ∷ []) (e, (g, (h, tt)))

-- the corners' sides at the plane, weighed by a point of the plane, add up to nothing
on_plane : (t : Corners) (f : Triangle) (i j k : ℤ)
    → four (weighed (opposite_a t) f i j k) (weighed (opposite_b t) f i j k) (weighed (opposite_c t) f i j k) (weighed (opposite_d t) f i j k) (side f t.a) (side f t.b) (side f t.c) (side f t.d) ≡ pos 0
on_plane t f i j k =
    on_plane_sum i j k
    (side (opposite_a t) f.a) (side (opposite_a t) f.b) (side (opposite_a t) f.c)
    (side (opposite_b t) f.a) (side (opposite_b t) f.b) (side (opposite_b t) f.c)
    (side (opposite_c t) f.a) (side (opposite_c t) f.b) (side (opposite_c t) f.c)
    (side (opposite_d t) f.a) (side (opposite_d t) f.b) (side (opposite_d t) f.c)
    (side f t.a) (side f t.b) (side f t.c) (side f t.d)
    (sides-weigh t f f.a ∙ times_none (volume t) (on_own f).0) (sides-weigh t f f.b ∙ times_none (volume t) (on_own f).1) (sides-weigh t f f.c ∙ times_none (volume t) (on_own f).2)

-- a point off the plane
abbrev off_plane : Triangle → Point
off_plane f = record { x = f.a.x +ℤ (normal f).x; y = f.a.y +ℤ (normal f).y; z = f.a.z +ℤ (normal f).z }

side-off_plane : (f : Triangle) → side f (off_plane f) ≡ dot (normal f) (normal f)
unfolding same det orient
side-off_plane f =
    let F = triangleE 0 in
    let N = normalE F in
    let P : PointE = record { x = F.a.x ⊕ N.x; y = F.a.y ⊕ N.y; z = F.a.z ⊕ N.z } in
    ring (sideE F P) (dotE N N) tt (of_triangle f [])

-- not all four corners lie on one plane
not_flat : (t : Corners) (f : Triangle) → IsPositive t → SpansPlane f → side f t.a ≡ pos 0 → side f t.b ≡ pos 0 → side f t.c ≡ pos 0 → side f t.d ≡ pos 0 → ⊥
not_flat t f p spans ea eb ec ed = by (zero_or_long (normal f))
  where
    clash : (a : ℤ) → a ≡ pos 0 → pos 0 <ℤ a → ⊥
    clash a e h = omega (arith, ints)

    sum_none : {x y z w : ℤ} → x ≡ pos 0 → y ≡ pos 0 → z ≡ pos 0 → w ≡ pos 0 → x +ℤ y +ℤ z +ℤ w ≡ pos 0
    sum_none {x} {y} {z} {w} a b c d = omega (arith, ints)

    by : IsZeroVector (normal f) ⊎ (pos 0 <ℤ dot (normal f) (normal f)) → ⊥
    by (inl z) = spans (z.x_is, z.y_is, z.z_is)
    by (inr h) =
        let y = off_plane f in
        let v : volume t *ℤ side f y ≡ pos 0 = sym (sides-weigh t f y) ∙ sum_none (times_none (side (opposite_a t) y) ea) (times_none (side (opposite_b t) y) eb) (times_none (side (opposite_c t) y) ec) (times_none (side (opposite_d t) y) ed) in
        clash (dot (normal f) (normal f)) (sym (side-off_plane f) ∙ zero_of_mul (volume t) (side f y) p v) h

not_all_least : (t : Corners) (f : Triangle) → IsPositive t → SpansPlane f → Enters t f → pos 0 ≤ℤ side f t.a → pos 0 ≤ℤ side f t.b → pos 0 ≤ℤ side f t.c → pos 0 ≤ℤ side f t.d → ⊥
not_all_least t f p spans h ha hb hc hd =
    let w = h.within in
    let z = all_least_zero _ _ _ _ (side f t.a) (side f t.b) (side f t.c) (side f t.d) w.a_above w.b_above w.c_above w.d_above ha hb hc hd (on_plane t f h.i h.j h.k) in
    not_flat t f p spans z.0 z.1 z.2 z.3

negated : (wa wb wc wd a b c d : ℤ) → four wa wb wc wd a b c d ≡ pos 0 → four wa wb wc wd (neg_ℤ a) (neg_ℤ b) (neg_ℤ c) (neg_ℤ d) ≡ pos 0
unfolding same
negated wa wb wc wd a b c d e =
    ring_given (var 0 ⊗ neg (var 4) ⊕ var 1 ⊗ neg (var 5) ⊕ var 2 ⊗ neg (var 6) ⊕ var 3 ⊗ neg (var 7)) (num (pos 0))
    (given (neg (num (pos 1))) (var 0 ⊗ var 4 ⊕ var 1 ⊗ var 5 ⊕ var 2 ⊗ var 6 ⊕ var 3 ⊗ var 7) (num (pos 0)) ∷ []) tt (wa ∷ wb ∷ wc ∷ wd ∷ a ∷ b ∷ c ∷ d ∷ []) (e, tt)

not_all_most : (t : Corners) (f : Triangle) → IsPositive t → SpansPlane f → Enters t f → side f t.a ≤ℤ pos 0 → side f t.b ≤ℤ pos 0 → side f t.c ≤ℤ pos 0 → side f t.d ≤ℤ pos 0 → ⊥
not_all_most t f p spans h ha hb hc hd =
    let w = h.within in
    let z = all_least_zero _ _ _ _ (neg_ℤ (side f t.a)) (neg_ℤ (side f t.b)) (neg_ℤ (side f t.c)) (neg_ℤ (side f t.d)) w.a_above w.b_above w.c_above w.d_above
    (neg_least _ ha) (neg_least _ hb) (neg_least _ hc) (neg_least _ hd) (negated _ _ _ _ (side f t.a) (side f t.b) (side f t.c) (side f t.d) (on_plane t f h.i h.j h.k)) in
    not_flat t f p spans (back (side f t.a) z.0) (back (side f t.b) z.1) (back (side f t.c) z.2) (back (side f t.d) z.3)
  where
    back : (a : ℤ) → neg_ℤ a ≡ pos 0 → a ≡ pos 0
    back a e = omega (arith, ints)

above_or_not : (a : ℤ) → (pos 0 <ℤ a) ⊎ (a ≤ℤ pos 0)
above_or_not a = by_sign a (λ l. inr (below_weak a l)) (λ z. inr (omega (arith, ints))) (λ g. inl g)

below_or_not : (a : ℤ) → (a <ℤ pos 0) ⊎ (pos 0 ≤ℤ a)
below_or_not a = by_sign a (λ l. inl l) (λ z. inr (omega (arith, ints))) (λ g. inr (weak a g))

pub straddles_of : (t : Corners) (f : Triangle) → IsPositive t → SpansPlane f → Enters t f → Straddles t f
straddles_of t f p spans h = (
  up (above_or_not (side f t.a)) (above_or_not (side f t.b)) (above_or_not (side f t.c)) (above_or_not (side f t.d)),
  down (below_or_not (side f t.a)) (below_or_not (side f t.b)) (below_or_not (side f t.c)) (below_or_not (side f t.d)),
)
  where
    up : {A B C D : Type 0} → A ⊎ (side f t.a ≤ℤ pos 0) → B ⊎ (side f t.b ≤ℤ pos 0) → C ⊎ (side f t.c ≤ℤ pos 0) → D ⊎ (side f t.d ≤ℤ pos 0) → A ⊎ (B ⊎ (C ⊎ D))
    up (inl a) b c d = inl a
    up (inr a) (inl b) c d = inr (inl b)
    up (inr a) (inr b) (inl c) d = inr (inr (inl c))
    up (inr a) (inr b) (inr c) (inl d) = inr (inr (inr d))
    up (inr a) (inr b) (inr c) (inr d) = absurd (not_all_most t f p spans h a b c d)

    down : {A B C D : Type 0} → A ⊎ (pos 0 ≤ℤ side f t.a) → B ⊎ (pos 0 ≤ℤ side f t.b) → C ⊎ (pos 0 ≤ℤ side f t.c) → D ⊎ (pos 0 ≤ℤ side f t.d) → A ⊎ (B ⊎ (C ⊎ D))
    down (inl a) b c d = inl a
    down (inr a) (inl b) c d = inr (inl b)
    down (inr a) (inr b) (inl c) d = inr (inr (inl c))
    down (inr a) (inr b) (inr c) (inl d) = inr (inr (inr d))
    down (inr a) (inr b) (inr c) (inr d) = absurd (not_all_least t f p spans h a b c d)

-- ---- from a point strictly inside to where an edge passes the plane: it passes within the triangle, or the leg leaves through a side

abbrev edge_changes : Triangle → Point → Point → ℤ → ℤ → ℤ → List (ℤ × ℤ)
edge_changes f p q i j k = (i, orient f.b f.c q p) ∷ (j, orient f.c f.a q p) ∷ (k, orient f.a f.b q p) ∷ []

moved_weighed : (s t i j k di dj dk a b c : ℤ) → sum_of_three (along s t (i, di)) (along s t (j, dj)) (along s t (k, dk)) a b c ≡ s *ℤ sum_of_three i j k a b c +ℤ t *ℤ sum_of_three di dj dk a b c
unfolding same
moved_weighed s t i j k di dj dk a b c =
    let w = λ (x y z : Expr). x ⊗ var 8 ⊕ y ⊗ var 9 ⊕ z ⊗ var 10 in
    ring (w (var 0 ⊗ var 2 ⊕ var 1 ⊗ var 5) (var 0 ⊗ var 3 ⊕ var 1 ⊗ var 6) (var 0 ⊗ var 4 ⊕ var 1 ⊗ var 7)) (var 0 ⊗ w (var 2) (var 3) (var 4) ⊕ var 1 ⊗ w (var 5) (var 6) (var 7))
    tt (s ∷ t ∷ i ∷ j ∷ k ∷ di ∷ dj ∷ dk ∷ a ∷ b ∷ c ∷ [])

moved_above : (s t i j k di dj dk a b c : ℤ) → pos 0 <ℤ s → pos 0 ≤ℤ t → pos 0 <ℤ sum_of_three i j k a b c → pos 0 ≤ℤ sum_of_three di dj dk a b c
    → pos 0 <ℤ sum_of_three (along s t (i, di)) (along s t (j, dj)) (along s t (k, dk)) a b c
moved_above s t i j k di dj dk a b c hs ht h k' = add (moved_weighed s t i j k di dj dk a b c) (mul_pos s (sum_of_three i j k a b c) hs h) (mul_nonneg t (sum_of_three di dj dk a b c) ht k')
  where
    add : {x y z : ℤ} → x ≡ y +ℤ z → pos 0 <ℤ y → pos 0 ≤ℤ z → pos 0 <ℤ x
    add {x} {y} {z} e h k = omega (arith, ints)

reweighed : {x y : ℤ} → x ≡ y → pos 0 <ℤ y → pos 0 <ℤ x
reweighed {x} {y} e h = omega (arith, ints)

side_a : (t : Corners) (f : Triangle) (i j k : ℤ) → Within t f i j k → i ≡ pos 0 → TriangleEnters t (segment f.b f.c)
side_a t f i j k w e = of_enters t (segment f.b f.c) (record {
  i = j;
  j = k;
  k = pos 0;
  within = record {
    i_least = w.j_least;
    j_least = w.k_least;
    k_least = zero_least;
    a_above = reweighed (no_a i j k (side (opposite_a t) f.a) (side (opposite_a t) f.b) (side (opposite_a t) f.c) e) w.a_above;
    b_above = reweighed (no_a i j k (side (opposite_b t) f.a) (side (opposite_b t) f.b) (side (opposite_b t) f.c) e) w.b_above;
    c_above = reweighed (no_a i j k (side (opposite_c t) f.a) (side (opposite_c t) f.b) (side (opposite_c t) f.c) e) w.c_above;
    d_above = reweighed (no_a i j k (side (opposite_d t) f.a) (side (opposite_d t) f.b) (side (opposite_d t) f.c) e) w.d_above;
  };
})

side_b : (t : Corners) (f : Triangle) (i j k : ℤ) → Within t f i j k → j ≡ pos 0 → TriangleEnters t (segment f.c f.a)
side_b t f i j k w e = of_enters t (segment f.c f.a) (record {
  i = k;
  j = i;
  k = pos 0;
  within = record {
    i_least = w.k_least;
    j_least = w.i_least;
    k_least = zero_least;
    a_above = reweighed (no_b i j k (side (opposite_a t) f.a) (side (opposite_a t) f.b) (side (opposite_a t) f.c) e) w.a_above;
    b_above = reweighed (no_b i j k (side (opposite_b t) f.a) (side (opposite_b t) f.b) (side (opposite_b t) f.c) e) w.b_above;
    c_above = reweighed (no_b i j k (side (opposite_c t) f.a) (side (opposite_c t) f.b) (side (opposite_c t) f.c) e) w.c_above;
    d_above = reweighed (no_b i j k (side (opposite_d t) f.a) (side (opposite_d t) f.b) (side (opposite_d t) f.c) e) w.d_above;
  };
})

side_c : (t : Corners) (f : Triangle) (i j k : ℤ) → Within t f i j k → k ≡ pos 0 → TriangleEnters t (segment f.a f.b)
side_c t f i j k w e = of_enters t (segment f.a f.b) (record {
  i = i;
  j = j;
  k = pos 0;
  within = record {
    i_least = w.i_least;
    j_least = w.j_least;
    k_least = zero_least;
    a_above = reweighed (no_c i j k (side (opposite_a t) f.a) (side (opposite_a t) f.b) (side (opposite_a t) f.c) e) w.a_above;
    b_above = reweighed (no_c i j k (side (opposite_b t) f.a) (side (opposite_b t) f.b) (side (opposite_b t) f.c) e) w.b_above;
    c_above = reweighed (no_c i j k (side (opposite_c t) f.a) (side (opposite_c t) f.b) (side (opposite_c t) f.c) e) w.c_above;
    d_above = reweighed (no_c i j k (side (opposite_d t) f.a) (side (opposite_d t) f.b) (side (opposite_d t) f.c) e) w.d_above;
  };
})

moved_within : (t : Corners) (f : Triangle) → IsPositive t → (u v : Place) → pos 0 <ℤ side f (corner t u) → side f (corner t v) ≤ℤ pos 0 → (i j k : ℤ) → Within t f i j k
    → (x : Exit (edge_changes f (corner t u) (corner t v) i j k))
    → Within t f (along x.s x.t (i, orient f.b f.c (corner t v) (corner t u))) (along x.s x.t (j, orient f.c f.a (corner t v) (corner t u))) (along x.s x.t (k, orient f.a f.b (corner t v) (corner t u)))
moved_within t f p u v hu hv i j k w x = record {
  i_least = x.least.0;
  j_least = x.least.1.0;
  k_least = x.least.1.1.0;
  a_above = moved_above x.s x.t i j k _ _ _ (side (opposite_a t) f.a) (side (opposite_a t) f.b) (side (opposite_a t) f.c) x.s_above x.t_least w.a_above (edge_least t f p u v A hu hv);
  b_above = moved_above x.s x.t i j k _ _ _ (side (opposite_b t) f.a) (side (opposite_b t) f.b) (side (opposite_b t) f.c) x.s_above x.t_least w.b_above (edge_least t f p u v B hu hv);
  c_above = moved_above x.s x.t i j k _ _ _ (side (opposite_c t) f.a) (side (opposite_c t) f.b) (side (opposite_c t) f.c) x.s_above x.t_least w.c_above (edge_least t f p u v C hu hv);
  d_above = moved_above x.s x.t i j k _ _ _ (side (opposite_d t) f.a) (side (opposite_d t) f.b) (side (opposite_d t) f.c) x.s_above x.t_least w.d_above (edge_least t f p u v D hu hv);
}

edge_cases : (t : Corners) (f : Triangle) → IsPositive t → Enters t f → (u v : Place) → pos 0 <ℤ side f (corner t u) → side f (corner t v) ≤ℤ pos 0 → PassesWithin (corner t u) (corner t v) f ⊎ SideEnters t f
edge_cases t f p h u v hu hv = go (exit (edge_changes f (corner t u) (corner t v) h.i h.j h.k) (h.within.i_least, (h.within.j_least, (h.within.k_least, tt))))
  where
    go : AllByRecursion (λ (e : ℤ × ℤ). pos 0 ≤ℤ e.1) (edge_changes f (corner t u) (corner t v) h.i h.j h.k) ⊎ Exit (edge_changes f (corner t u) (corner t v) h.i h.j h.k)
        → PassesWithin (corner t u) (corner t v) f ⊎ SideEnters t f
    go (inl all) = inl (record { a_least = all.0; b_least = all.1.0; c_least = all.1.1.0 })
    go (inr x) = inr (hit x.hit)
      where
        w : Within t f (along x.s x.t (h.i, orient f.b f.c (corner t v) (corner t u))) (along x.s x.t (h.j, orient f.c f.a (corner t v) (corner t u))) (along x.s x.t (h.k, orient f.a f.b (corner t v) (corner t u)))
        w = moved_within t f p u v hu hv h.i h.j h.k h.within x

        hit : SomeOf (Leaves x.s x.t) (edge_changes f (corner t u) (corner t v) h.i h.j h.k) → SideEnters t f
        hit (inl e) = inr (inl (side_a t f _ _ _ w e.1))
        hit (inr (inl e)) = inr (inr (side_b t f _ _ _ w e.1))
        hit (inr (inr (inl e))) = inl (side_c t f _ _ _ w e.1)
        hit (inr (inr (inr e))) = absurd e

edge_either : (t : Corners) (f : Triangle) → IsPositive t → Enters t f → (u v : Place) → CrossesWithin f (corner t u) (corner t v) ⊎ SideEnters t f
edge_either t f p h u v = by (above_or_not (side f (corner t u))) (above_or_not (side f (corner t v)))
  where
    clash : (a : ℤ) → pos 0 <ℤ a → a ≤ℤ pos 0 → ⊥
    clash a h k = omega (arith, ints)

    out : PassesWithin (corner t u) (corner t v) f ⊎ SideEnters t f → CrossesWithin f (corner t u) (corner t v) ⊎ SideEnters t f
    out (inl w) = inl (λ _ _. w)
    out (inr s) = inr s

    by : (pos 0 <ℤ side f (corner t u)) ⊎ (side f (corner t u) ≤ℤ pos 0) → (pos 0 <ℤ side f (corner t v)) ⊎ (side f (corner t v) ≤ℤ pos 0) → CrossesWithin f (corner t u) (corner t v) ⊎ SideEnters t f
    by (inr l) _ = inl (λ g _. absurd (clash (side f (corner t u)) g l))
    by (inl g) (inl k) = inl (λ _ l. absurd (clash (side f (corner t v)) k l))
    by (inl g) (inr l) = out (edge_cases t f p h u v g l)

three : {X Y Z S : Type 0} → X ⊎ S → Y ⊎ S → Z ⊎ S → (X × Y × Z) ⊎ S
three (inl x) (inl y) (inl z) = inl (x, y, z)
three (inr s) y z = inr s
three (inl x) (inr s) z = inr s
three (inl x) (inl y) (inr s) = inr s

section_of : (t : Corners) (f : Triangle) {S : Type 0} → CrossesFrom f t.a t.b t.c t.d ⊎ S → CrossesFrom f t.b t.a t.c t.d ⊎ S → CrossesFrom f t.c t.d t.a t.b ⊎ S → CrossesFrom f t.d t.c t.a t.b ⊎ S → SectionWithin t f ⊎ S
section_of t f (inl a) (inl b) (inl c) (inl d) = inl (record { from_a = a; from_b = b; from_c = c; from_d = d })
section_of t f (inr s) b c d = inr s
section_of t f (inl a) (inr s) c d = inr s
section_of t f (inl a) (inl b) (inr s) d = inr s
section_of t f (inl a) (inl b) (inl c) (inr s) = inr s

section_or_side : (t : Corners) (f : Triangle) → IsPositive t → Enters t f → SectionWithin t f ⊎ SideEnters t f
section_or_side t f p h =
    let e = edge_either t f p h in
    section_of t f (three (e A B) (e A C) (e A D)) (three (e B A) (e B C) (e B D)) (three (e C D) (e C A) (e C B)) (three (e D C) (e D A) (e D B))

-- ---- a side's points lie in the triangle

side_weights : (t : Corners) (e f : Triangle) (h : Enters t e) (i j k : ℤ) → pos 0 ≤ℤ i → pos 0 ≤ℤ j → pos 0 ≤ℤ k
    → ((g : Triangle) → weighed g f i j k ≡ weighed g e h.i h.j h.k) → TriangleEnters t f
side_weights t e f h i j k hi hj hk same = of_enters t f (record {
  i = i;
  j = j;
  k = k;
  within = record {
    i_least = hi;
    j_least = hj;
    k_least = hk;
    a_above = reweighed (same (opposite_a t)) h.within.a_above;
    b_above = reweighed (same (opposite_b t)) h.within.b_above;
    c_above = reweighed (same (opposite_c t)) h.within.c_above;
    d_above = reweighed (same (opposite_d t)) h.within.d_above;
  };
})

pub from_side : (t : Corners) (f : Triangle) → SideEnters t f → TriangleEnters t f
from_side t f (inl s) =
    let h = enters_of t (segment f.a f.b) s in
    side_weights t (segment f.a f.b) f h h.i (h.j +ℤ h.k) (pos 0) h.within.i_least (add_least h.j h.k h.within.j_least h.within.k_least) zero_least (λ g. side_ab h.i h.j h.k (side g f.a) (side g f.b) (side g f.c))
from_side t f (inr (inl s)) =
    let h = enters_of t (segment f.b f.c) s in
    side_weights t (segment f.b f.c) f h (pos 0) h.i (h.j +ℤ h.k) zero_least h.within.i_least (add_least h.j h.k h.within.j_least h.within.k_least) (λ g. side_bc h.i h.j h.k (side g f.a) (side g f.b) (side g f.c))
from_side t f (inr (inr s)) =
    let h = enters_of t (segment f.c f.a) s in
    side_weights t (segment f.c f.a) f h (h.j +ℤ h.k) (pos 0) h.i (add_least h.j h.k h.within.j_least h.within.k_least) zero_least h.within.i_least (λ g. side_ca h.i h.j h.k (side g f.a) (side g f.b) (side g f.c))

-- A triangle enters a positive tetrahedron
pub enter_law : (t : Corners) (f : Triangle) → IsPositive t → SpansPlane f → (Straddles t f × (SideEnters t f ⊎ SectionWithin t f)) ↔ TriangleEnters t f
enter_law t f p spans = (to, λ k. (straddles_of t f p spans (enters_of t f k), from (section_or_side t f p (enters_of t f k))))
  where
    to : Straddles t f × (SideEnters t f ⊎ SectionWithin t f) → TriangleEnters t f
    to (s, inl e) = from_side t f e
    to (s, inr w) =
        let u = above_place t f s in
        let d = below_place t f s in
        of_enters t f (section_enters t f p w u.0 u.1 d.0 d.1)

    from : SectionWithin t f ⊎ SideEnters t f → SideEnters t f ⊎ SectionWithin t f
    from (inl w) = inr w
    from (inr e) = inl e

-- the signs of equal numbers
pub same_signs : {a b c d e f g h : ℤ} → a ≡ e → b ≡ f → c ≡ g → d ≡ h → SomeAbove a b c d × SomeBelow a b c d → SomeAbove e f g h × SomeBelow e f g h
same_signs {a} {b} {c} {d} {e} {f} {g} {h} p q r s k =
    subst (λ z. SomeAbove z f g h × SomeBelow z f g h) p
    (subst (λ z. SomeAbove a z g h × SomeBelow a z g h) q
    (subst (λ z. SomeAbove a b z h × SomeBelow a b z h) r
    (subst (λ z. SomeAbove a b c z × SomeBelow a b c z) s k)))

pub signs_back : {a b c d e f g h : ℤ} → a ≡ e → b ≡ f → c ≡ g → d ≡ h → SomeAbove e f g h × SomeBelow e f g h → SomeAbove a b c d × SomeBelow a b c d
signs_back p q r s k = same_signs (sym p) (sym q) (sym r) (sym s) k
