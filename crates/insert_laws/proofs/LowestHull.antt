-- The hull faces of the points and one more, by the pencil of each edge.
use Rattle.std.proofs.Common.{◌≡◌, ◌≢◌, ◌⊎◌, inl, inr, ℕ, ℤ, pos, neg_ℤ, ◌+ℤ◌, ◌*ℤ◌, ◌<ℤ◌, ◌≤ℤ◌, List, length, refl, ap, sym, subst, ◌∙◌, arith}
use Rattle.std.specs.Prelude.{Contains}
use Rattle.std.proofs.lemmas.Int.{ints}
use Rattle.sign_predicates.specs.Point.{Point, RationalPoint}
use Rattle.sign_predicates.specs.declared.tetrahedron.Corners.{Corners}
use Rattle.sign_predicates.specs.Orientation.{volume, side, side_rational, opposite_a, opposite_b, opposite_c, opposite_d}
use Rattle.geo_laws.specs.Delaunay.{point, corners}
use Rattle.geo_laws.specs.Height.{IsLowestAmong}
use Rattle.geo_laws.specs.Height.{places}
use Rattle.geo_laws.specs.declared.tetrahedra.Tet.{Tet}
use Rattle.geo_laws.proofs.Determinants as ring
use Rattle.exact_algebra.proofs.Signs.{sign_of, zero_of_mul, mul_pos}
use lib.IntN.{*ℤ-zero}
use Rattle.geo_laws.proofs.Corners.{IsCorner}
use Rattle.sign_predicates.proofs.Places.{A, B, C, D}
use Rattle.geo_laws.proofs.Lexicographic.{IsLexAbove, lex_same}
use Rattle.geo_laws.specs.OrientedFace.{Face, triangle, reversed, IsOther}
use Rattle.insert_laws.specs.LowestInsertion.{IsLowestHullFace, edge_and, LowestHullEdgeLaw}
use Rattle.insert_laws.proofs.Identities as identity
use Rattle.geo_laws.proofs.Lexicographic.{IsLexBelow}
use Rattle.insert_laws.proofs.Pencil.{IsSet, IsPencil, IsLow, IsLowUnder, IsBare, IsBareUnder, IsFirst, turned, first_of, neighbor, low_unique, above_not_zero, below_not_zero}
use Rattle.insert_laws.proofs.FacePencil.{side_of, gap_of, face_pencil}
use Rattle.insert_laws.proofs.LowestBridge
use Rattle.insert_laws.proofs.EdgePencil as edge
use Rattle.insert_laws.proofs.EdgePencil.{edge_face, edge_side, edge_gap, edge_places, IsHullOn, IsSome}
use Rattle.insert_laws.proofs.LowestInsert as insert

-- the hull face of the edge and o is low in the pencil of the edge
abbrev pub IsEdgeLow : (ℕ → ℤ) → List Point → RationalPoint → (ℕ → Type 0) → ℕ → ℕ → ℕ → Type 0
IsEdgeLow lifts ps mid S i j o = IsLow (edge_face i j) (edge_side ps mid i j) (edge_gap lifts ps mid i j) (edge_places (length ps)) S o

-- and for the edge turned
abbrev pub IsEdgeLowUnder : (ℕ → ℤ) → List Point → RationalPoint → (ℕ → Type 0) → ℕ → ℕ → ℕ → Type 0
IsEdgeLowUnder lifts ps mid S i j o = IsLowUnder (edge_face i j) (edge_side ps mid i j) (edge_gap lifts ps mid i j) (edge_places (length ps)) S o

no_clash : (n : ℤ) → pos 0 <ℤ n → pos 0 <ℤ neg_ℤ n → ⊥
no_clash n h k = omega (arith, ints)

no_zero_clash : (n : ℤ) → pos 0 <ℤ n → n ≡ pos 0 → ⊥
no_zero_clash n h e = omega (arith, ints)

not_above_product : (w s : ℤ) → pos 0 <ℤ w → ¬ (pos 0 <ℤ s) → ¬ (pos 0 <ℤ (w *ℤ s))
not_above_product w s hw hs h = go (sign_of s)
  where
    clash : (n m : ℤ) → neg_ℤ n ≡ m → pos 0 <ℤ m → pos 0 <ℤ n → ⊥
    clash n m e k l = omega (arith, ints)

    go : (pos 0 <ℤ s) ⊎ ((s ≡ pos 0) ⊎ (pos 0 <ℤ neg_ℤ s)) → ⊥
    go (inl k) = hs k
    go (inr (inl e)) = no_zero_clash (w *ℤ s) h (ap (λ n. w *ℤ n) e ∙ *ℤ-zero w)
    go (inr (inr k)) = clash (w *ℤ s) (w *ℤ neg_ℤ s) (identity.neg-times_right w s) (mul_pos w (neg_ℤ s) hw k) h

above_of_product : (v n : ℤ) → pos 0 <ℤ v → pos 0 <ℤ neg_ℤ (v *ℤ n) → pos 0 <ℤ neg_ℤ n
above_of_product v n hv h = go (sign_of n)
  where
    go : (pos 0 <ℤ n) ⊎ ((n ≡ pos 0) ⊎ (pos 0 <ℤ neg_ℤ n)) → pos 0 <ℤ neg_ℤ n
    go (inl k) = absurd (no_clash (v *ℤ n) (mul_pos v n hv k) h)
    go (inr (inl e)) = absurd (zero_clash (v *ℤ n) (ap (λ m. v *ℤ m) e ∙ *ℤ-zero v) h)
      where
        zero_clash : (m : ℤ) → m ≡ pos 0 → pos 0 <ℤ neg_ℤ m → ⊥
        zero_clash m e k = omega (arith, ints)
    go (inr (inr k)) = k

-- a point strictly inside a row is below each hull face
pub center_below : (lifts : ℕ → ℤ) (ps : List Point) (S : ℕ → Type 0) (t : Tet) (mid : RationalPoint) (f : Face) (a : ℕ) → IsSome ps S t mid → IsHullOn lifts ps S f a → pos 0 <ℤ neg_ℤ (side_rational (triangle ps f) mid)
center_below lifts ps S t mid f a some h =
    above_of_product (volume (corners ps t)) (side_rational (triangle ps f) mid) some.positive (subst (λ n. pos 0 <ℤ neg_ℤ n) (identity.sides-combine (corners ps t) (triangle ps f) mid)
    (edge.sum_below (side_rational (opposite_a c) mid *ℤ side_of ps f t.a) (side_rational (opposite_b c) mid *ℤ side_of ps f t.b) (side_rational (opposite_c c) mid *ℤ side_of ps f t.c) (side_rational (opposite_d c) mid *ℤ side_of ps f t.d)
    (not_above_product _ _ some.inside.0 (bare t.a (A, refl))) (not_above_product _ _ some.inside.1.0 (bare t.b (B, refl)))
    (not_above_product _ _ some.inside.1.1.0 (bare t.c (C, refl))) (not_above_product _ _ some.inside.1.1.1.0 (bare t.d (D, refl))) flat))
  where
    c : Corners
    c = corners ps t

    bare : (i : ℕ) → IsCorner t i → ¬ (pos 0 <ℤ side_of ps f i)
    bare i k = h.bare i (some.on i k)

    flat : ¬ ((side_rational (opposite_a (corners ps t)) mid *ℤ side_of ps f t.a ≡ pos 0) × (side_rational (opposite_b (corners ps t)) mid *ℤ side_of ps f t.b ≡ pos 0)
        × (side_rational (opposite_c (corners ps t)) mid *ℤ side_of ps f t.c ≡ pos 0) × (side_rational (opposite_d (corners ps t)) mid *ℤ side_of ps f t.d ≡ pos 0))
    flat z = at (insert.off_plane ps f a t some.positive (below_not_zero (side_of ps f a) h.low.under))
      where
        by : (e : ℕ) → IsCorner t e → side_of ps f e ≡ pos 0
        by e (A, d) = ap (side_of ps f) d ∙ zero_of_mul (side_rational (opposite_a (corners ps t)) mid) (side_of ps f t.a) some.inside.0 z.0
        by e (B, d) = ap (side_of ps f) d ∙ zero_of_mul (side_rational (opposite_b (corners ps t)) mid) (side_of ps f t.b) some.inside.1.0 z.1
        by e (C, d) = ap (side_of ps f) d ∙ zero_of_mul (side_rational (opposite_c (corners ps t)) mid) (side_of ps f t.c) some.inside.1.1.0 z.2
        by e (D, d) = ap (side_of ps f) d ∙ zero_of_mul (side_rational (opposite_d (corners ps t)) mid) (side_of ps f t.d) some.inside.1.1.1.0 z.3

        at : (e : ℕ) × IsCorner t e × (side_of ps f e ≢ pos 0) → ⊥
        at r = r.2 (by r.0 r.1)

-- a hull face is low on its edge
pub edge_of_hull : (lifts : ℕ → ℤ) (ps : List Point) (S : ℕ → Type 0) (t : Tet) (mid : RationalPoint) (f : Face) (a : ℕ) → IsSome ps S t mid → IsHullOn lifts ps S f a → IsEdgeLow lifts ps mid S f.a f.b f.c
edge_of_hull lifts ps S t mid f a some h = record { on = h.on.on_c; over = below; others = λ e l o d. edge.edge_above lifts ps mid f a e below h.low.under (go e l o d (sign_of (side_of ps f e))) }
  where
    below : pos 0 <ℤ neg_ℤ (side_rational (triangle ps f) mid)
    below = center_below lifts ps S t mid f a some h

    go : (e : ℕ) → S e → IsOther (edge_face f.a f.b) e → e ≢ f.c → (pos 0 <ℤ side_of ps f e) ⊎ ((side_of ps f e ≡ pos 0) ⊎ (pos 0 <ℤ neg_ℤ (side_of ps f e)))
        → (pos 0 <ℤ neg_ℤ (side_of ps f e)) ⊎ ((side_of ps f e ≡ pos 0) × IsLexBelow (gap_of lifts ps f a e) (places (length ps)))
    go e l o d (inl k) = absurd (h.bare e l k)
    go e l o d (inr (inl z)) = inr (z, h.low.others e l (record { not_a = o.not_a; not_b = o.not_b; not_c = d }) (λ q. below_not_zero (side_of ps f a) h.low.under (sym (ap (side_of ps f) q) ∙ z)))
    go e l o d (inr (inr k)) = inl k

-- and a low face on an edge is a hull face
pub hull_of_edge : (lifts : ℕ → ℤ) (ps : List Point) (S : ℕ → Type 0) (t : Tet) (mid : RationalPoint) (i j o : ℕ) → IsSet S (length ps) → IsSome ps S t mid → S i → S j → IsEdgeLow lifts ps mid S i j o → (a : ℕ) × IsHullOn lifts ps S (edge_and i j o) a
hull_of_edge lifts ps S t mid i j o within some hi hj low = go (first_of (turned f (side_of ps f) (gap_of lifts ps f) (places (length ps)) (length ps) (face_pencil lifts ps f)) S within)
  where
    f : Face
    f = edge_and i j o

    corner : (e : ℕ) → side_of ps (edge_and i j o) e ≢ pos 0 → IsOther (edge_and i j o) e
    corner e h = (face_pencil lifts ps (edge_and i j o)).other e h

    above : (e : ℕ) → S e → IsOther (edge_and i j o) e → IsLexAbove (edge_gap lifts ps mid i j o e) (edge_places (length ps))
    above e l h = low.others e l (record { not_a = h.not_a; not_b = h.not_b; not_c = h.not_b }) h.not_c

    bare : IsBare (side_of ps (edge_and i j o)) S
    bare e l k = clash (edge.of_places (edge_gap lifts ps mid i j o e) (places (length ps)) (above e l (corner e (above_not_zero (side_of ps (edge_and i j o) e) k))))
      where
        of_neg : (n : ℤ) → neg_ℤ n ≡ pos 0 → n ≡ pos 0
        of_neg n e = omega (arith, ints)

        clash : (pos 0 <ℤ neg_ℤ (side_of ps (edge_and i j o) e)) ⊎ ((neg_ℤ (side_of ps (edge_and i j o) e) ≡ pos 0) × IsLexAbove (edge.edge_rest lifts ps mid i j o e) (places (length ps))) → ⊥
        clash (inl b) = no_clash (side_of ps (edge_and i j o) e) k b
        clash (inr b) = no_zero_clash (side_of ps (edge_and i j o) e) k (of_neg (side_of ps (edge_and i j o) e) b.0)

    -- some corner of t is strictly below
    some_below : IsBareUnder (side_of ps (edge_and i j o)) S → ⊥
    some_below none = total (side_rational (opposite_a c) mid *ℤ side_of ps f t.a) (side_rational (opposite_b c) mid *ℤ side_of ps f t.b) (side_rational (opposite_c c) mid *ℤ side_of ps f t.c) (side_rational (opposite_d c) mid *ℤ side_of ps f t.d)
        (volume c *ℤ neg_ℤ (side_rational (triangle ps f) mid)) (ap neg_ℤ (identity.sides-combine c (triangle ps f) mid) ∙ identity.neg-times_right (volume c) (side_rational (triangle ps f) mid))
        (mul_pos (volume c) (neg_ℤ (side_rational (triangle ps f) mid)) some.positive low.over)
        (at_least _ _ some.inside.0 (none t.a (some.on t.a (A, refl)))) (at_least _ _ some.inside.1.0 (none t.b (some.on t.b (B, refl))))
        (at_least _ _ some.inside.1.1.0 (none t.c (some.on t.c (C, refl)))) (at_least _ _ some.inside.1.1.1.0 (none t.d (some.on t.d (D, refl))))
      where
        c : Corners
        c = corners ps t

        at_least : (w n : ℤ) → pos 0 <ℤ w → ¬ (pos 0 <ℤ neg_ℤ n) → pos 0 ≤ℤ (w *ℤ n)
        at_least w n hw h = split (sign_of n)
          where
            above : (n : ℤ) → pos 0 <ℤ n → pos 0 ≤ℤ n
            above n h = omega (arith, ints)

            zero : (n : ℤ) → n ≡ pos 0 → pos 0 ≤ℤ n
            zero n h = omega (arith, ints)

            split : (pos 0 <ℤ n) ⊎ ((n ≡ pos 0) ⊎ (pos 0 <ℤ neg_ℤ n)) → pos 0 ≤ℤ (w *ℤ n)
            split (inl k) = above (w *ℤ n) (mul_pos w n hw k)
            split (inr (inl k)) = zero (w *ℤ n) (ap (λ m. w *ℤ m) k ∙ *ℤ-zero w)
            split (inr (inr k)) = absurd (h k)

        total : (a b c d v : ℤ) → neg_ℤ (a +ℤ (b +ℤ (c +ℤ d))) ≡ v → pos 0 <ℤ v → pos 0 ≤ℤ a → pos 0 ≤ℤ b → pos 0 ≤ℤ c → pos 0 ≤ℤ d → ⊥
        total a b c d v e h ha hb hc hd = omega (arith, ints)

    go : IsBareUnder (side_of ps (edge_and i j o)) S ⊎ ((a : ℕ) × IsFirst (λ e. neg_ℤ (side_of ps (edge_and i j o) e)) (λ e q k. neg_ℤ (gap_of lifts ps (edge_and i j o) e q k)) (places (length ps)) S a)
        → (a : ℕ) × IsHullOn lifts ps S (edge_and i j o) a
    go (inl none) = absurd (some_below none)
    go (inr r) = (r.0, record { on = record { on_a = hi; on_b = hj; on_c = low.on }; bare = bare; low = record { on = r.1.on; under = r.1.over; others = λ e l h d. at e l h d (sign_of (side_of ps (edge_and i j o) e)) } })
      where
        at : (e : ℕ) → S e → IsOther (edge_and i j o) e → e ≢ r.0 → (pos 0 <ℤ side_of ps (edge_and i j o) e) ⊎ ((side_of ps (edge_and i j o) e ≡ pos 0) ⊎ (pos 0 <ℤ neg_ℤ (side_of ps (edge_and i j o) e)))
            → IsLexBelow (gap_of lifts ps (edge_and i j o) r.0 e) (places (length ps))
        at e l h d (inl k) = absurd (bare e l k)
        at e l h d (inr (inr k)) = r.1.ahead e l k d
        at e l h d (inr (inl z)) = tied (edge.of_edge_above lifts ps mid (edge_and i j o) r.0 e low.over r.1.over (above e l h))
          where
            clash : (n : ℤ) → n ≡ pos 0 → pos 0 <ℤ neg_ℤ n → ⊥
            clash n e h = omega (arith, ints)

            tied : (pos 0 <ℤ neg_ℤ (side_of ps (edge_and i j o) e)) ⊎ ((side_of ps (edge_and i j o) e ≡ pos 0) × IsLexBelow (gap_of lifts ps (edge_and i j o) r.0 e) (places (length ps)))
                → IsLexBelow (gap_of lifts ps (edge_and i j o) r.0 e) (places (length ps))
            tied (inl k) = absurd (clash (side_of ps (edge_and i j o) e) z k)
            tied (inr k) = k.1

-- ---- both sides of the plane through an edge and the middle of a row have points

module _ (a b c d : ℤ) (sum : a +ℤ (b +ℤ (c +ℤ d)) ≡ pos 0) where
  some_above : ¬ ((a ≡ pos 0) × (b ≡ pos 0) × (c ≡ pos 0) × (d ≡ pos 0)) → ¬ (pos 0 <ℤ a) → ¬ (pos 0 <ℤ b) → ¬ (pos 0 <ℤ c) → ¬ (pos 0 <ℤ d) → ⊥
  some_above n ha hb hc hd = clash (a +ℤ (b +ℤ (c +ℤ d))) sum (edge.sum_below a b c d ha hb hc hd n)
    where
      clash : (n : ℤ) → n ≡ pos 0 → pos 0 <ℤ neg_ℤ n → ⊥
      clash n e h = omega (arith, ints)

edge_not_flat : (ps : List Point) (S : ℕ → Type 0) (t : Tet) (mid : RationalPoint) (i j x : ℕ) → IsSome ps S t mid → edge_side ps mid i j x ≢ pos 0
    → ¬ ((edge_side ps mid i j t.a ≡ pos 0) × (edge_side ps mid i j t.b ≡ pos 0) × (edge_side ps mid i j t.c ≡ pos 0) × (edge_side ps mid i j t.d ≡ pos 0))
edge_not_flat ps S t mid i j x some off z =
    let c = corners ps t in
    let y = point ps x in
    off (zero_of_mul (volume c) (edge_side ps mid i j x) some.positive
    (sym (identity.edge-combine (point ps i) (point ps j) mid c y)
    ∙ (λ k. side (opposite_a c) y *ℤ z.0 k +ℤ (side (opposite_b c) y *ℤ z.1 k +ℤ (side (opposite_c c) y *ℤ z.2 k +ℤ side (opposite_d c) y *ℤ z.3 k)))
    ∙ identity.sum-zero (side (opposite_a c) y) (side (opposite_b c) y) (side (opposite_c c) y) (side (opposite_d c) y)))

-- some point lies on each side of the plane through an edge and the center
pub edge_not_bare : (ps : List Point) (S : ℕ → Type 0) (t : Tet) (mid : RationalPoint) (i j x : ℕ) → IsSome ps S t mid → edge_side ps mid i j x ≢ pos 0 → IsBare (edge_side ps mid i j) S → ⊥
edge_not_bare ps S t mid i j x some off bare =
    some_above (side_rational (opposite_a c) mid *ℤ edge_side ps mid i j t.a) (side_rational (opposite_b c) mid *ℤ edge_side ps mid i j t.b) (side_rational (opposite_c c) mid *ℤ edge_side ps mid i j t.c) (side_rational (opposite_d c) mid *ℤ edge_side ps mid i j t.d)
    (identity.edge-center (point ps i) (point ps j) mid c)
    (λ z. edge_not_flat ps S t mid i j x some off (zero_of_mul _ _ some.inside.0 z.0, zero_of_mul _ _ some.inside.1.0 z.1, zero_of_mul _ _ some.inside.1.1.0 z.2, zero_of_mul _ _ some.inside.1.1.1.0 z.3))
    (not_above_product _ _ some.inside.0 (bare t.a (some.on t.a (A, refl)))) (not_above_product _ _ some.inside.1.0 (bare t.b (some.on t.b (B, refl))))
    (not_above_product _ _ some.inside.1.1.0 (bare t.c (some.on t.c (C, refl)))) (not_above_product _ _ some.inside.1.1.1.0 (bare t.d (some.on t.d (D, refl))))
  where
    c : Corners
    c = corners ps t

pub edge_not_bare_under : (ps : List Point) (S : ℕ → Type 0) (t : Tet) (mid : RationalPoint) (i j x : ℕ) → IsSome ps S t mid → edge_side ps mid i j x ≢ pos 0 → IsBareUnder (edge_side ps mid i j) S → ⊥
edge_not_bare_under ps S t mid i j x some off bare = edge_not_bare ps S t mid j i x some (λ z. off (of_neg (edge_side ps mid i j x) (sym (edge.edge_side-turned ps mid i j x) ∙ z)))
    (λ e l k. bare e l (subst (λ n. pos 0 <ℤ n) (edge.edge_side-turned ps mid i j e) k))
  where
    of_neg : (n : ℤ) → neg_ℤ n ≡ pos 0 → n ≡ pos 0
    of_neg n e = omega (arith, ints)

-- ---- the edge turned

-- to turn the edge turns the pencil
pub edge_under_of : (lifts : ℕ → ℤ) (ps : List Point) (mid : RationalPoint) (S : ℕ → Type 0) (i j o : ℕ) → IsEdgeLow lifts ps mid S j i o → IsEdgeLowUnder lifts ps mid S i j o
edge_under_of lifts ps mid S i j o low = record {
  on = low.on;
  under = subst (λ n. pos 0 <ℤ n) (edge.edge_side-turned ps mid i j o) low.over;
  others = λ e l h d. lex_same (edge_gap lifts ps mid j i o e) (λ k. neg_ℤ (edge_gap lifts ps mid i j o e k)) (edge_places (length ps)) (λ k. edge.edge_gap-turned lifts ps mid i j o e k)
      (low.others e l (record { not_a = h.not_b; not_b = h.not_a; not_c = h.not_a }) d);
}

pub edge_of_under : (lifts : ℕ → ℤ) (ps : List Point) (mid : RationalPoint) (S : ℕ → Type 0) (i j o : ℕ) → IsEdgeLowUnder lifts ps mid S i j o → IsEdgeLow lifts ps mid S j i o
edge_of_under lifts ps mid S i j o low = record {
  on = low.on;
  over = subst (λ n. pos 0 <ℤ n) (sym (edge.edge_side-turned ps mid i j o)) low.under;
  others = λ e l h d. lex_same (λ k. neg_ℤ (edge_gap lifts ps mid i j o e k)) (edge_gap lifts ps mid j i o e) (edge_places (length ps)) (λ k. sym (edge.edge_gap-turned lifts ps mid i j o e k))
      (low.others e l (record { not_a = h.not_b; not_b = h.not_a; not_c = h.not_a }) d);
}

-- ---- from hull faces of a list and back

-- a hull face, with the tetrahedron behind it as a low one
pub hull_on : (lifts : ℕ → ℤ) (ps : List Point) (ms : List ℕ) (S : ℕ → Type 0) → (of : LowestBridge.IsOf ps ms S) → (f : Face) → (h : IsLowestHullFace lifts ps ms f) → IsHullOn lifts ps S f (LowestBridge.row_on lifts ps ms S of (reversed f) h.behind h.is_row h.is_face).apex
hull_on lifts ps ms S of f h = record {
  on = LowestBridge.reversed_on S (reversed f) (LowestBridge.row_on lifts ps ms S of (reversed f) h.behind h.is_row h.is_face).on;
  bare = λ e l k. h.none_beyond e (of.to e l) k;
  low = LowestBridge.under_of lifts ps S f (LowestBridge.row_on lifts ps ms S of (reversed f) h.behind h.is_row h.is_face).apex (LowestBridge.row_on lifts ps ms S of (reversed f) h.behind h.is_row h.is_face).low;
}

pub some_hull_on : (lifts : ℕ → ℤ) (ps : List Point) (ms : List ℕ) (S : ℕ → Type 0) → LowestBridge.IsOf ps ms S → (f : Face) → IsLowestHullFace lifts ps ms f → (a : ℕ) × IsHullOn lifts ps S f a
some_hull_on lifts ps ms S of f h = ((LowestBridge.row_on lifts ps ms S of (reversed f) h.behind h.is_row h.is_face).apex, hull_on lifts ps ms S of f h)

-- and back
pub hull_from : (lifts : ℕ → ℤ) (ps : List Point) (ms : List ℕ) (S : ℕ → Type 0) → LowestBridge.IsOf ps ms S → (f : Face) (a : ℕ) → IsHullOn lifts ps S f a → IsLowestHullFace lifts ps ms f
hull_from lifts ps ms S of f a h = record { behind = r.row; is_row = r.is_row; is_face = r.is_face; none_beyond = λ e l k. h.bare e (of.from e l) k }
  where
    r : LowestBridge.HasRowOn lifts ps ms (reversed f) a
    r = LowestBridge.row_of lifts ps ms S of (reversed f) a (LowestBridge.reversed_on S f h.on) (LowestBridge.of_under lifts ps S f a h.low)

-- the center: the middle of a tetrahedron
abbrev pub middle_of : List Point → Tet → RationalPoint
middle_of qs t = ring.middle (corners qs t)

-- it lies strictly behind each hull face
pub some_on : (lifts : ℕ → ℤ) (ps : List Point) (ms : List ℕ) (S : ℕ → Type 0) → LowestBridge.IsOf ps ms S → (t : Tet) → IsLowestAmong ps ms lifts t → IsSome ps S t (middle_of ps t)
some_on lifts ps ms S of t d =
    let low = LowestBridge.low_of_lowest lifts ps ms S of t d in
    let c = corners ps t in
    record {
      on = low.on;
      positive = low.positive;
      inside = (same_above _ _ (ring.side-middle c A) low.positive, (same_above _ _ (ring.side-middle c B) low.positive, (same_above _ _ (ring.side-middle c C) low.positive, (same_above _ _ (ring.side-middle c D) low.positive, tt))));
    }
  where
    same_above : (a b : ℤ) → a ≡ b → pos 0 <ℤ b → pos 0 <ℤ a
    same_above a b e h = omega (arith, ints)

-- ---- each edge of a hull face has another

-- the neighbor in the pencil of the edge is the next face, and it is unique there
pub law_hull_edge : LowestHullEdgeLaw
law_hull_edge lifts ps ms within i j o h = (across (first_of (edge_pencil' j i) (Contains ms) (LowestBridge.list_set ps ms within)), unique)
  where
    some : IsSome ps (Contains ms) h.behind (middle_of ps h.behind)
    some = some_on lifts ps ms (Contains ms) (LowestBridge.of_list ps ms within) h.behind h.is_row

    edge_pencil' : (i j : ℕ) → IsPencil (edge_face i j) (edge_side ps (middle_of ps h.behind) i j) (edge_gap lifts ps (middle_of ps h.behind) i j) (edge_places (length ps)) (length ps)
    edge_pencil' i j = edge.edge_pencil lifts ps (middle_of ps h.behind) i j

    low_of : (q : ℕ) → IsLowestHullFace lifts ps ms (edge_and i j q) → IsEdgeLow lifts ps (middle_of ps h.behind) (Contains ms) i j q
    low_of q k = edge_of_hull lifts ps (Contains ms) h.behind (middle_of ps h.behind) (edge_and i j q) _ some (hull_on lifts ps ms (Contains ms) (LowestBridge.of_list ps ms within) (edge_and i j q) k)

    low : IsEdgeLow lifts ps (middle_of ps h.behind) (Contains ms) i j o
    low = low_of o h

    below : (m : ℕ) → IsLowestHullFace lifts ps ms (edge_and i j o) → IsHullOn lifts ps (Contains ms) (edge_and i j o) (LowestBridge.row_on lifts ps ms (Contains ms) (LowestBridge.of_list ps ms within) (reversed (edge_and i j o)) h.behind h.is_row h.is_face).apex
    below m k = hull_on lifts ps ms (Contains ms) (LowestBridge.of_list ps ms within) (edge_and i j o) h

    across : IsBare (edge_side ps (middle_of ps h.behind) j i) (Contains ms) ⊎ ((q : ℕ) × IsFirst (edge_side ps (middle_of ps h.behind) j i) (edge_gap lifts ps (middle_of ps h.behind) j i) (edge_places (length ps)) (Contains ms) q)
        → (q : ℕ) × IsLowestHullFace lifts ps ms (edge_and j i q)
    across (inl bare) = absurd (edge_not_bare_under ps (Contains ms) h.behind (middle_of ps h.behind) i j o some (above_not_zero (edge_side ps (middle_of ps h.behind) i j o) low.over) (λ e l k. bare e l (subst (λ n. pos 0 <ℤ n) (sym (edge.edge_side-turned ps (middle_of ps h.behind) i j e)) k)))
    across (inr q) =
        let on = (below 0 h).on in
        let r = hull_of_edge lifts ps (Contains ms) h.behind (middle_of ps h.behind) j i q.0 (LowestBridge.list_set ps ms within) some on.on_b on.on_a (neighbor (edge_pencil' j i) o q.0 (edge_under_of lifts ps (middle_of ps h.behind) (Contains ms) j i o low) q.1) in
        (q.0, hull_from lifts ps ms (Contains ms) (LowestBridge.of_list ps ms within) (edge_and j i q.0) r.0 r.1)

    unique : (q : ℕ) → IsLowestHullFace lifts ps ms (edge_and i j q) → o ≡ q
    unique q k = low_unique (edge_pencil' i j) o q low (low_of q k)
