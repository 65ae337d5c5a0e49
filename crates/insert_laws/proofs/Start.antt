-- Where the walk to the new point ends, and that it ends in the cavity: the squared distances of the corners, weighted by the sides of a point, are
-- above 0, and so the point is lifted below the tetrahedron.
use Rattle.std.proofs.Common.{◌≡◌, ◌≢◌, ◌⊎◌, inl, inr, ℕ, zero, ℤ, pos, neg_ℤ, ◌+ℤ◌, ◌-ℤ◌, ◌*ℤ◌, ◌<ℤ◌, ◌≤ℤ◌, [], length, refl, ap, ◌∙◌, arith}
use Rattle.std.proofs.lemmas.Int.{ints}
use lib.IntN.{zero-*ℤ}
use Rattle.exact_algebra.proofs.Signs.{sign_of, mul_pos, square, squares_zero}
use Rattle.exact_algebra.proofs.Ring.{Expr, neg, ring, same, ◌⊕◌, ◌⊖◌, ◌⊗◌}
use Rattle.sign_predicates.proofs.Terms.{PointE, pointE, cornersE, of_point, of_corners, sideE, square_lengthE, volumeE, opposite_aE, opposite_bE, opposite_cE, opposite_dE}
use Rattle.sign_predicates.specs.Point.{Point, as_rational}
use Rattle.sign_predicates.specs.declared.tetrahedron.Corners.{Corners}
use Rattle.sign_predicates.specs.Orientation.{volume, side, opposite_a, opposite_b, opposite_c, opposite_d, orient, det, InClosed}
use Rattle.sign_predicates.specs.Sphere.{square_length}
use Rattle.sign_predicates.proofs.Places.{A, B, C, D}
use Rattle.geo_laws.specs.Delaunay.{point, corners, IsDelaunayAmong}
use Rattle.geo_laws.specs.Height.{lifted, residual_at, places, IsLowestAmong}
use Rattle.geo_laws.specs.OrientedFace.{Face, triangle}
use Rattle.geo_laws.specs.declared.tetrahedra.Tet.{Tet}
use Rattle.geo_laws.proofs.Corners.{IsCorner, contains_corner}
use Rattle.geo_laws.proofs.Determinants as determinants
use Rattle.geo_laws.proofs.Lexicographic.{IsLexAbove}
use Rattle.insert_laws.specs.LowestInsertion as lowest
use Rattle.insert_laws.proofs.LowestStart as walk
use Rattle.insert_laws.specs.Insertion.{IsHullFace, LocateLaw, StartLaw}
use Rattle.insert_laws.proofs.Bridge.{hull_from, low, row, above}

-- ---- the walk

pub law_locate : LocateLaw
law_locate ps ms p new some is = by (walk.law_locate (lifted ps) ps ms p new some (low ps ms p new some is))
  where
    by : ((t : Tet) × IsLowestAmong ps ms (lifted ps) t × InClosed (corners ps t) (as_rational (point ps p))) ⊎ ((f : Face) × lowest.IsLowestHullFace (lifted ps) ps ms f × (pos 0 <ℤ side (triangle ps f) (point ps p)))
        → ((t : Tet) × IsDelaunayAmong ps ms t × InClosed (corners ps t) (as_rational (point ps p))) ⊎ ((f : Face) × IsHullFace ps ms f × (pos 0 <ℤ side (triangle ps f) (point ps p)))
    by (inl t) = inl (t.0, row ps ms p new t.0 t.1, t.2)
    by (inr f) = inr (f.0, hull_from ps ms new.within f.0 f.1, f.2)

-- ---- the squared distances of the corners

-- the square of the distance
abbrev far : Point → Point → ℤ
far v e = (v.x -ℤ e.x) *ℤ (v.x -ℤ e.x) +ℤ (v.y -ℤ e.y) *ℤ (v.y -ℤ e.y) +ℤ (v.z -ℤ e.z) *ℤ (v.z -ℤ e.z)

abbrev farE : PointE → PointE → Expr
farE v e = (v.x ⊖ e.x) ⊗ (v.x ⊖ e.x) ⊕ (v.y ⊖ e.y) ⊗ (v.y ⊖ e.y) ⊕ (v.z ⊖ e.z) ⊗ (v.z ⊖ e.z)

lift-closed : (t : Corners) (e : Point)
    → volume t *ℤ square_length e -ℤ (side (opposite_a t) e *ℤ square_length t.a +ℤ side (opposite_b t) e *ℤ square_length t.b +ℤ side (opposite_c t) e *ℤ square_length t.c +ℤ side (opposite_d t) e *ℤ square_length t.d)
    ≡ neg_ℤ (side (opposite_a t) e *ℤ far t.a e +ℤ (side (opposite_b t) e *ℤ far t.b e +ℤ (side (opposite_c t) e *ℤ far t.c e +ℤ side (opposite_d t) e *ℤ far t.d e)))
unfolding same det orient
lift-closed t e =
    ring (volumeE (cornersE 0) ⊗ square_lengthE (pointE 12) ⊖ (sideE (opposite_aE (cornersE 0)) (pointE 12) ⊗ square_lengthE (cornersE 0).a ⊕ sideE (opposite_bE (cornersE 0)) (pointE 12) ⊗ square_lengthE (cornersE 0).b
    ⊕ sideE (opposite_cE (cornersE 0)) (pointE 12) ⊗ square_lengthE (cornersE 0).c ⊕ sideE (opposite_dE (cornersE 0)) (pointE 12) ⊗ square_lengthE (cornersE 0).d))
    (neg (sideE (opposite_aE (cornersE 0)) (pointE 12) ⊗ farE (cornersE 0).a (pointE 12) ⊕ (sideE (opposite_bE (cornersE 0)) (pointE 12) ⊗ farE (cornersE 0).b (pointE 12)
    ⊕ (sideE (opposite_cE (cornersE 0)) (pointE 12) ⊗ farE (cornersE 0).c (pointE 12) ⊕ sideE (opposite_dE (cornersE 0)) (pointE 12) ⊗ farE (cornersE 0).d (pointE 12)))))
    tt (of_corners t (of_point e []))

-- the sides of a point add up to the volume
sides-sum : (t : Corners) (e : Point) → side (opposite_a t) e +ℤ (side (opposite_b t) e +ℤ (side (opposite_c t) e +ℤ side (opposite_d t) e)) ≡ volume t
sides-sum t e = grouped (side (opposite_a t) e) (side (opposite_b t) e) (side (opposite_c t) e) (side (opposite_d t) e) ∙ determinants.sides-sum t e
  where
    grouped : (a b c d : ℤ) → a +ℤ (b +ℤ (c +ℤ d)) ≡ a +ℤ b +ℤ c +ℤ d
    grouped a b c d = omega (arith, ints)

-- ---- the row that holds p doesn't have it outside

far_above : (v e : Point) → v ≢ e → pos 0 <ℤ far v e
far_above v e apart =
    let a = square (v.x -ℤ e.x) in
    let b = square (v.y -ℤ e.y) in
    let c = square (v.z -ℤ e.z) in
    go a.0 b.0 c.0 (sign_of (far v e)) ((λ j. a.1 j +ℤ b.1 j +ℤ c.1 j))
  where
    same : (m n : ℤ) → m -ℤ n ≡ pos 0 → m ≡ n
    same m n h = omega (arith, ints)

    natural : (n : ℤ) (a b c : ℕ) → n ≡ pos a +ℤ pos b +ℤ pos c → pos 0 <ℤ neg_ℤ n → ⊥
    natural n a b c h k = omega (arith, ints)

    go : (a b c : ℕ) → (pos 0 <ℤ far v e) ⊎ ((far v e ≡ pos 0) ⊎ (pos 0 <ℤ neg_ℤ (far v e))) → far v e ≡ pos a +ℤ pos b +ℤ pos c → pos 0 <ℤ far v e
    go a b c (inl h) s = h
    go a b c (inr (inr h)) s = absurd (natural (far v e) a b c s h)
    go a b c (inr (inl z)) s =
        let q = squares_zero (v.x -ℤ e.x) (v.y -ℤ e.y) (v.z -ℤ e.z) z in
        absurd (apart (λ j. record { x = same v.x e.x q.0 j; y = same v.y e.y q.1 j; z = same v.z e.z q.2 j }))

-- the height of p is strictly below that of a closed tetrahedron whose corners are all apart from it
pub law_start : StartLaw
law_start ps ms p new apart t d closed o = not_above (above ps ms p new t d o)
  where
    c : Corners
    c = corners ps t

    e : Point
    e = point ps p

    far_from : (i : ℕ) → IsCorner t i → pos 0 <ℤ far (point ps i) (point ps p)
    far_from i k = far_above (point ps i) (point ps p) (apart i (d.is_on i (contains_corner t i k)))

    weigh : (w f : ℤ) → pos 0 ≤ℤ w → pos 0 <ℤ f → (pos 0 ≤ℤ (w *ℤ f)) × (pos 0 <ℤ w → pos 0 <ℤ (w *ℤ f))
    weigh w f hw hf = (split (sign_of w), λ k. mul_pos w f k hf)
      where
        above : (n : ℤ) → pos 0 <ℤ n → pos 0 ≤ℤ n
        above n h = omega (arith, ints)

        none : (n : ℤ) → n ≡ pos 0 → pos 0 ≤ℤ n
        none n h = omega (arith, ints)

        split : (pos 0 <ℤ w) ⊎ ((w ≡ pos 0) ⊎ (pos 0 <ℤ neg_ℤ w)) → pos 0 ≤ℤ (w *ℤ f)
        split (inl k) = above (w *ℤ f) (mul_pos w f k hf)
        split (inr (inl k)) = none (w *ℤ f) (ap (λ n. n *ℤ f) k ∙ zero-*ℤ f)
        split (inr (inr k)) = absurd (omega (arith, ints))

    total : (wa wb wc wd v pa pb pc pd : ℤ) → wa +ℤ (wb +ℤ (wc +ℤ wd)) ≡ v → pos 0 <ℤ v
        → (pos 0 ≤ℤ pa) × (pos 0 <ℤ wa → pos 0 <ℤ pa) → (pos 0 ≤ℤ pb) × (pos 0 <ℤ wb → pos 0 <ℤ pb) → (pos 0 ≤ℤ pc) × (pos 0 <ℤ wc → pos 0 <ℤ pc) → (pos 0 ≤ℤ pd) × (pos 0 <ℤ wd → pos 0 <ℤ pd)
        → pos 0 <ℤ (pa +ℤ (pb +ℤ (pc +ℤ pd)))
    total wa wb wc wd v pa pb pc pd s hv a b c d = by (sign_of wa) (sign_of wb) (sign_of wc) (sign_of wd)
      where
        first : (p q r s : ℤ) → pos 0 <ℤ p → pos 0 ≤ℤ q → pos 0 ≤ℤ r → pos 0 ≤ℤ s → pos 0 <ℤ (p +ℤ (q +ℤ (r +ℤ s)))
        first p q r s h k l m = omega (arith, ints)

        second : (p q r s : ℤ) → pos 0 ≤ℤ p → pos 0 <ℤ q → pos 0 ≤ℤ r → pos 0 ≤ℤ s → pos 0 <ℤ (p +ℤ (q +ℤ (r +ℤ s)))
        second p q r s h k l m = omega (arith, ints)

        third : (p q r s : ℤ) → pos 0 ≤ℤ p → pos 0 ≤ℤ q → pos 0 <ℤ r → pos 0 ≤ℤ s → pos 0 <ℤ (p +ℤ (q +ℤ (r +ℤ s)))
        third p q r s h k l m = omega (arith, ints)

        fourth : (p q r s : ℤ) → pos 0 ≤ℤ p → pos 0 ≤ℤ q → pos 0 ≤ℤ r → pos 0 <ℤ s → pos 0 <ℤ (p +ℤ (q +ℤ (r +ℤ s)))
        fourth p q r s h k l m = omega (arith, ints)

        at_most : (n : ℤ) → (n ≡ pos 0) ⊎ (pos 0 <ℤ neg_ℤ n) → n ≤ℤ pos 0
        at_most n (inl h) = omega (arith, ints)
        at_most n (inr h) = omega (arith, ints)

        none : (p q r s v : ℤ) → p +ℤ (q +ℤ (r +ℤ s)) ≡ v → pos 0 <ℤ v → p ≤ℤ pos 0 → q ≤ℤ pos 0 → r ≤ℤ pos 0 → s ≤ℤ pos 0 → ⊥
        none p q r s v e h a b c d = omega (arith, ints)

        by : (pos 0 <ℤ wa) ⊎ ((wa ≡ pos 0) ⊎ (pos 0 <ℤ neg_ℤ wa)) → (pos 0 <ℤ wb) ⊎ ((wb ≡ pos 0) ⊎ (pos 0 <ℤ neg_ℤ wb)) → (pos 0 <ℤ wc) ⊎ ((wc ≡ pos 0) ⊎ (pos 0 <ℤ neg_ℤ wc)) → (pos 0 <ℤ wd) ⊎ ((wd ≡ pos 0) ⊎ (pos 0 <ℤ neg_ℤ wd))
            → pos 0 <ℤ (pa +ℤ (pb +ℤ (pc +ℤ pd)))
        by (inl h) _ _ _ = first pa pb pc pd (a.1 h) b.0 c.0 d.0
        by (inr _) (inl h) _ _ = second pa pb pc pd a.0 (b.1 h) c.0 d.0
        by (inr _) (inr _) (inl h) _ = third pa pb pc pd a.0 b.0 (c.1 h) d.0
        by (inr _) (inr _) (inr _) (inl h) = fourth pa pb pc pd a.0 b.0 c.0 (d.1 h)
        by (inr i) (inr j) (inr k) (inr l) = absurd (none wa wb wc wd v s hv (at_most wa i) (at_most wb j) (at_most wc k) (at_most wd l))

    at_least : (f : ℤ) (n : ℤ) → f ≡ n → pos 0 ≤ℤ f → pos 0 ≤ℤ n
    at_least f n e h = omega (arith, ints)

    sum : pos 0 <ℤ (side (opposite_a (corners ps t)) (point ps p) *ℤ far (point ps t.a) (point ps p) +ℤ (side (opposite_b (corners ps t)) (point ps p) *ℤ far (point ps t.b) (point ps p)
        +ℤ (side (opposite_c (corners ps t)) (point ps p) *ℤ far (point ps t.c) (point ps p) +ℤ side (opposite_d (corners ps t)) (point ps p) *ℤ far (point ps t.d) (point ps p))))
    sum = total (side (opposite_a (corners ps t)) (point ps p)) (side (opposite_b (corners ps t)) (point ps p)) (side (opposite_c (corners ps t)) (point ps p)) (side (opposite_d (corners ps t)) (point ps p)) (volume (corners ps t)) _ _ _ _
        (sides-sum (corners ps t) (point ps p)) d.is_positive
        (weigh _ _ (at_least _ _ (determinants.side_rational-as_rational (opposite_a (corners ps t)) (point ps p)) closed.0) (far_from t.a (A, refl)))
        (weigh _ _ (at_least _ _ (determinants.side_rational-as_rational (opposite_b (corners ps t)) (point ps p)) closed.1.0) (far_from t.b (B, refl)))
        (weigh _ _ (at_least _ _ (determinants.side_rational-as_rational (opposite_c (corners ps t)) (point ps p)) closed.1.1.0) (far_from t.c (C, refl)))
        (weigh _ _ (at_least _ _ (determinants.side_rational-as_rational (opposite_d (corners ps t)) (point ps p)) closed.1.1.1.0) (far_from t.d (D, refl)))

    below : (n m : ℤ) → n ≡ neg_ℤ m → pos 0 <ℤ m → (pos 0 <ℤ n) ⊎ (n ≡ pos 0) → ⊥
    below n m e h (inl k) = omega (arith, ints)
    below n m e h (inr k) = omega (arith, ints)

    not_above : IsLexAbove (residual_at ps (lifted ps) t p) (places (length ps)) → ⊥
    not_above (inl k) = below (residual_at ps (lifted ps) t p zero) _ (lift-closed (corners ps t) (point ps p)) sum (inl k)
    not_above (inr k) = below (residual_at ps (lifted ps) t p zero) _ (lift-closed (corners ps t) (point ps p)) sum (inr k.0)
