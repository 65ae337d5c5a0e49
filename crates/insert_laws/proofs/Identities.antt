-- Identities of the tetrahedra on one face and of the hull faces on one edge, each one call of the ring normalizer. The chief one, `pencil`, relates
-- three tetrahedra on a face: side(o) * residual(q, e) = side(q) * residual(o, e) - side(e) * residual(o, q), where residual(o, e) is that of e at the one of o.
use lib.IntN.{*ℤ-zero}
use Rattle.std.proofs.lemmas.Int.{ints}
use Rattle.std.proofs.Common.{arith, sym, ◌∙◌}
use Rattle.sign_predicates.specs.Point.{as_rational}
use Rattle.std.proofs.Common.{◌≡◌, ℤ, pos, neg_ℤ, ◌+ℤ◌, ◌-ℤ◌, ◌*ℤ◌}
use Rattle.std.proofs.Common.{[], ◌∷◌}
use Rattle.exact_algebra.proofs.Ring.{Expr, num, var, neg, ring, ring_given, given, same}
use Rattle.exact_algebra.proofs.Ring.{◌⊕◌, ◌⊖◌, ◌⊗◌}
use Rattle.sign_predicates.proofs.Terms.{PointE, RationalE, TriangleE, CornersE, pointE, rationalE, triangleE, cornersE, of_point, of_rational, of_triangle, of_corners, orientE, orient_rationalE, sideE, side_rationalE, middleE, volumeE, opposite_aE, opposite_bE, opposite_cE, opposite_dE}
use Rattle.sign_predicates.specs.Point.{Point, RationalPoint}
use Rattle.sign_predicates.specs.declared.tetrahedron.Corners.{Corners}
use Rattle.sign_predicates.specs.Orientation.{Triangle, volume, side, side_rational, opposite_a, opposite_b, opposite_c, opposite_d, orient, orient_rational, det}
use Rattle.geo_laws.proofs.Determinants.{middle, turned, weights-side, side_rational-turned, side_rational-as_rational}

-- the tetrahedron of a triangle and a point
abbrev pub with_apex : Triangle → Point → Corners
with_apex f o = record { a = f.a; b = f.b; c = f.c; d = o }

abbrev with_apexE : TriangleE → PointE → CornersE
with_apexE f o = record { a = f.a; b = f.b; c = f.c; d = o }

-- how far e, with the height he, is above the tetrahedron t with the heights ha to hd
abbrev pub residual_of : Corners → ℤ → ℤ → ℤ → ℤ → Point → ℤ → ℤ
residual_of t ha hb hc hd e he = volume t *ℤ he -ℤ (side (opposite_a t) e *ℤ ha +ℤ side (opposite_b t) e *ℤ hb +ℤ side (opposite_c t) e *ℤ hc +ℤ side (opposite_d t) e *ℤ hd)

abbrev residual_ofE : CornersE → Expr → Expr → Expr → Expr → PointE → Expr → Expr
residual_ofE t ha hb hc hd e he = volumeE t ⊗ he ⊖ (sideE (opposite_aE t) e ⊗ ha ⊕ sideE (opposite_bE t) e ⊗ hb ⊕ sideE (opposite_cE t) e ⊗ hc ⊕ sideE (opposite_dE t) e ⊗ hd)

-- the relation of three rows on one face
pub pencil : (f : Triangle) (o q e : Point) (ha hb hc ho hq he : ℤ)
    → side f o *ℤ residual_of (with_apex f q) ha hb hc hq e he ≡ side f q *ℤ residual_of (with_apex f o) ha hb hc ho e he -ℤ side f e *ℤ residual_of (with_apex f o) ha hb hc ho q hq
unfolding same det orient
pencil f o q e ha hb hc ho hq he =
    ring (sideE (triangleE 0) (pointE 9) ⊗ residual_ofE (with_apexE (triangleE 0) (pointE 12)) (var 18) (var 19) (var 20) (var 22) (pointE 15) (var 23))
    (sideE (triangleE 0) (pointE 12) ⊗ residual_ofE (with_apexE (triangleE 0) (pointE 9)) (var 18) (var 19) (var 20) (var 21) (pointE 15) (var 23)
    ⊖ sideE (triangleE 0) (pointE 15) ⊗ residual_ofE (with_apexE (triangleE 0) (pointE 9)) (var 18) (var 19) (var 20) (var 21) (pointE 12) (var 22))
    tt (of_triangle f (of_point o (of_point q (of_point e (ha ∷ hb ∷ hc ∷ ho ∷ hq ∷ he ∷ [])))))

-- the row of e and the residual of o, in place of the row of o and the residual of e
pub opposite : (f : Triangle) (o e : Point) (ha hb hc ho he : ℤ) → residual_of (with_apex f o) ha hb hc ho e he ≡ neg_ℤ (residual_of (with_apex f e) ha hb hc he o ho)
unfolding same det orient
opposite f o e ha hb hc ho he =
    ring (residual_ofE (with_apexE (triangleE 0) (pointE 9)) (var 15) (var 16) (var 17) (var 18) (pointE 12) (var 19))
    (neg (residual_ofE (with_apexE (triangleE 0) (pointE 12)) (var 15) (var 16) (var 17) (var 19) (pointE 9) (var 18)))
    tt (of_triangle f (of_point o (of_point e (ha ∷ hb ∷ hc ∷ ho ∷ he ∷ []))))

-- the triangle with its sides exchanged
abbrev pub reverse : Triangle → Triangle
reverse f = record { a = f.a; b = f.c; c = f.b }

abbrev reverseE : TriangleE → TriangleE
reverseE f = record { a = f.a; b = f.c; c = f.b }

-- has the opposite sides
pub side-reverse : (f : Triangle) (o : Point) → side (reverse f) o ≡ neg_ℤ (side f o)
unfolding same det orient
side-reverse f o = ring (sideE (reverseE (triangleE 0)) (pointE 9)) (neg (sideE (triangleE 0) (pointE 9))) tt (of_triangle f (of_point o []))

-- and the opposite residuals
pub residual-reverse : (f : Triangle) (o e : Point) (ha hb hc ho he : ℤ) → residual_of (with_apex (reverse f) o) ha hc hb ho e he ≡ neg_ℤ (residual_of (with_apex f o) ha hb hc ho e he)
unfolding same det orient
residual-reverse f o e ha hb hc ho he =
    ring (residual_ofE (with_apexE (reverseE (triangleE 0)) (pointE 9)) (var 15) (var 17) (var 16) (var 18) (pointE 12) (var 19))
    (neg (residual_ofE (with_apexE (triangleE 0) (pointE 9)) (var 15) (var 16) (var 17) (var 18) (pointE 12) (var 19)))
    tt (of_triangle f (of_point o (of_point e (ha ∷ hb ∷ hc ∷ ho ∷ he ∷ []))))

-- ---- the relation of a pencil, with its signs turned

pub neg-neg : (n : ℤ) → neg_ℤ (neg_ℤ n) ≡ n
unfolding same
neg-neg n = ring (neg (neg (var 0))) (var 0) tt (n ∷ [])

-- the relation of a pencil holds for the face reversed
pub turned-relation : (so x sq y se z : ℤ) → so *ℤ x ≡ sq *ℤ y -ℤ se *ℤ z → neg_ℤ so *ℤ neg_ℤ x ≡ neg_ℤ sq *ℤ neg_ℤ y -ℤ neg_ℤ se *ℤ neg_ℤ z
unfolding same
turned-relation so x sq y se z e =
    ring_given (neg (var 0) ⊗ neg (var 1)) (neg (var 2) ⊗ neg (var 3) ⊖ neg (var 4) ⊗ neg (var 5))
    (given (num (pos 1)) (var 0 ⊗ var 1) (var 2 ⊗ var 3 ⊖ var 4 ⊗ var 5) ∷ []) tt (so ∷ x ∷ sq ∷ y ∷ se ∷ z ∷ []) (e, tt)

-- solved for a sum of multiples
pub solve-middle : (so x sq y se z : ℤ) → so *ℤ x ≡ sq *ℤ y -ℤ se *ℤ z → sq *ℤ y ≡ so *ℤ x +ℤ se *ℤ z
unfolding same
solve-middle so x sq y se z e =
    ring_given (var 2 ⊗ var 3) (var 0 ⊗ var 1 ⊕ var 4 ⊗ var 5) (given (neg (num (pos 1))) (var 0 ⊗ var 1) (var 2 ⊗ var 3 ⊖ var 4 ⊗ var 5) ∷ []) tt (so ∷ x ∷ sq ∷ y ∷ se ∷ z ∷ []) (e, tt)

pub solve-under : (sa x so y se z : ℤ) → sa *ℤ x ≡ so *ℤ y -ℤ se *ℤ z → neg_ℤ sa *ℤ x ≡ so *ℤ neg_ℤ y +ℤ neg_ℤ se *ℤ neg_ℤ z
unfolding same
solve-under sa x so y se z e =
    ring_given (neg (var 0) ⊗ var 1) (var 2 ⊗ neg (var 3) ⊕ neg (var 4) ⊗ neg (var 5)) (given (neg (num (pos 1))) (var 0 ⊗ var 1) (var 2 ⊗ var 3 ⊖ var 4 ⊗ var 5) ∷ []) tt (sa ∷ x ∷ so ∷ y ∷ se ∷ z ∷ []) (e, tt)

pub solve-over : (so x sp y se z : ℤ) → so *ℤ x ≡ sp *ℤ y -ℤ se *ℤ z → so *ℤ x ≡ sp *ℤ y +ℤ se *ℤ neg_ℤ z
unfolding same
solve-over so x sp y se z e =
    ring_given (var 0 ⊗ var 1) (var 2 ⊗ var 3 ⊕ var 4 ⊗ neg (var 5)) (given (num (pos 1)) (var 0 ⊗ var 1) (var 2 ⊗ var 3 ⊖ var 4 ⊗ var 5) ∷ []) tt (so ∷ x ∷ sp ∷ y ∷ se ∷ z ∷ []) (e, tt)

pub solve-low : (so x sp y se z : ℤ) → so *ℤ x ≡ sp *ℤ y -ℤ se *ℤ z → so *ℤ x ≡ sp *ℤ y +ℤ neg_ℤ se *ℤ z
unfolding same
solve-low so x sp y se z e =
    ring_given (var 0 ⊗ var 1) (var 2 ⊗ var 3 ⊕ neg (var 4) ⊗ var 5) (given (num (pos 1)) (var 0 ⊗ var 1) (var 2 ⊗ var 3 ⊖ var 4 ⊗ var 5) ∷ []) tt (so ∷ x ∷ sp ∷ y ∷ se ∷ z ∷ []) (e, tt)

-- the side of p, from the rows on both sides
pub solve-side : (so x sa y sp z : ℤ) → so *ℤ x ≡ sa *ℤ y -ℤ sp *ℤ z → sp *ℤ z ≡ neg_ℤ sa *ℤ neg_ℤ y +ℤ so *ℤ neg_ℤ x
unfolding same
solve-side so x sa y sp z e =
    ring_given (var 4 ⊗ var 5) (neg (var 2) ⊗ neg (var 3) ⊕ var 0 ⊗ neg (var 1)) (given (num (pos 1)) (var 0 ⊗ var 1) (var 2 ⊗ var 3 ⊖ var 4 ⊗ var 5) ∷ []) tt (so ∷ x ∷ sa ∷ y ∷ sp ∷ z ∷ []) (e, tt)

pub neg-times : (c n : ℤ) → neg_ℤ c *ℤ n ≡ neg_ℤ (c *ℤ n)
unfolding same
neg-times c n = ring (neg (var 0) ⊗ var 1) (neg (var 0 ⊗ var 1)) tt (c ∷ n ∷ [])

-- ---- faces on one edge, with a rational point c that lies below the hull faces

-- on which side of the plane through i, j and o the point c lies
abbrev pub edge_side_of : Point → Point → RationalPoint → Point → ℤ
edge_side_of i j c o = neg_ℤ (orient_rational i j o c)

-- whether e is below the plane through i, j and o
abbrev pub edge_first_of : Point → Point → Point → Point → ℤ
edge_first_of i j o e = neg_ℤ (orient i j o e)

-- and how far e is above the tetrahedron of i, j, o and c
abbrev pub edge_gap_of : Point → Point → RationalPoint → ℤ → ℤ → Point → ℤ → Point → ℤ → ℤ
edge_gap_of i j c hi hj o ho e he = neg_ℤ (orient_rational i j o c *ℤ he -ℤ (orient_rational j o e c *ℤ hi +ℤ orient_rational i e o c *ℤ hj +ℤ orient_rational i j e c *ℤ ho))

abbrev edge_side_ofE : PointE → PointE → RationalE → PointE → Expr
edge_side_ofE i j c o = neg (orient_rationalE i j o c)

abbrev edge_first_ofE : PointE → PointE → PointE → PointE → Expr
edge_first_ofE i j o e = neg (orientE i j o e)

abbrev edge_gap_ofE : PointE → PointE → RationalE → Expr → Expr → PointE → Expr → PointE → Expr → Expr
edge_gap_ofE i j c hi hj o ho e he = neg (orient_rationalE i j o c ⊗ he ⊖ (orient_rationalE j o e c ⊗ hi ⊕ orient_rationalE i e o c ⊗ hj ⊕ orient_rationalE i j e c ⊗ ho))

-- the relation of a pencil on an edge, at the first place
pub edge-first : (i j : Point) (c : RationalPoint) (o q e : Point) → edge_side_of i j c o *ℤ edge_first_of i j q e ≡ edge_side_of i j c q *ℤ edge_first_of i j o e -ℤ edge_side_of i j c e *ℤ edge_first_of i j o q
unfolding same det orient orient_rational
edge-first i j c o q e =
    ring (edge_side_ofE (pointE 0) (pointE 3) (rationalE 6) (pointE 10) ⊗ edge_first_ofE (pointE 0) (pointE 3) (pointE 13) (pointE 16))
    (edge_side_ofE (pointE 0) (pointE 3) (rationalE 6) (pointE 13) ⊗ edge_first_ofE (pointE 0) (pointE 3) (pointE 10) (pointE 16)
    ⊖ edge_side_ofE (pointE 0) (pointE 3) (rationalE 6) (pointE 16) ⊗ edge_first_ofE (pointE 0) (pointE 3) (pointE 10) (pointE 13))
    tt (of_point i (of_point j (of_rational c (of_point o (of_point q (of_point e []))))))

-- and at the others
pub edge-gap : (i j : Point) (c : RationalPoint) (o q e : Point) (hi hj ho hq he : ℤ)
    → edge_side_of i j c o *ℤ edge_gap_of i j c hi hj q hq e he ≡ edge_side_of i j c q *ℤ edge_gap_of i j c hi hj o ho e he -ℤ edge_side_of i j c e *ℤ edge_gap_of i j c hi hj o ho q hq
unfolding same det orient orient_rational
edge-gap i j c o q e hi hj ho hq he =
    ring (edge_side_ofE (pointE 0) (pointE 3) (rationalE 6) (pointE 10) ⊗ edge_gap_ofE (pointE 0) (pointE 3) (rationalE 6) (var 19) (var 20) (pointE 13) (var 22) (pointE 16) (var 23))
    (edge_side_ofE (pointE 0) (pointE 3) (rationalE 6) (pointE 13) ⊗ edge_gap_ofE (pointE 0) (pointE 3) (rationalE 6) (var 19) (var 20) (pointE 10) (var 21) (pointE 16) (var 23)
    ⊖ edge_side_ofE (pointE 0) (pointE 3) (rationalE 6) (pointE 16) ⊗ edge_gap_ofE (pointE 0) (pointE 3) (rationalE 6) (var 19) (var 20) (pointE 10) (var 21) (pointE 13) (var 22))
    tt (of_point i (of_point j (of_rational c (of_point o (of_point q (of_point e (hi ∷ hj ∷ ho ∷ hq ∷ he ∷ [])))))))

pub edge-first_opposite : (i j o e : Point) → edge_first_of i j o e ≡ neg_ℤ (edge_first_of i j e o)
unfolding same det orient
edge-first_opposite i j o e =
    ring (edge_first_ofE (pointE 0) (pointE 3) (pointE 6) (pointE 9)) (neg (edge_first_ofE (pointE 0) (pointE 3) (pointE 9) (pointE 6))) tt (of_point i (of_point j (of_point o (of_point e []))))

pub edge-gap_opposite : (i j : Point) (c : RationalPoint) (o e : Point) (hi hj ho he : ℤ) → edge_gap_of i j c hi hj o ho e he ≡ neg_ℤ (edge_gap_of i j c hi hj e he o ho)
unfolding same det orient_rational
edge-gap_opposite i j c o e hi hj ho he =
    ring (edge_gap_ofE (pointE 0) (pointE 3) (rationalE 6) (var 16) (var 17) (pointE 10) (var 18) (pointE 13) (var 19))
    (neg (edge_gap_ofE (pointE 0) (pointE 3) (rationalE 6) (var 16) (var 17) (pointE 13) (var 19) (pointE 10) (var 18)))
    tt (of_point i (of_point j (of_rational c (of_point o (of_point e (hi ∷ hj ∷ ho ∷ he ∷ []))))))

-- a corner of the edge
pub edge-side_i : (i j : Point) (c : RationalPoint) → edge_side_of i j c i ≡ pos 0
unfolding same det orient_rational
edge-side_i i j c = ring (edge_side_ofE (pointE 0) (pointE 3) (rationalE 6) (pointE 0)) (num (pos 0)) tt (of_point i (of_point j (of_rational c [])))

pub edge-side_j : (i j : Point) (c : RationalPoint) → edge_side_of i j c j ≡ pos 0
unfolding same det orient_rational
edge-side_j i j c = ring (edge_side_ofE (pointE 0) (pointE 3) (rationalE 6) (pointE 3)) (num (pos 0)) tt (of_point i (of_point j (of_rational c [])))

-- only e's own place
pub edge-only_e : (v a b d : ℤ) → neg_ℤ (v *ℤ pos 1 -ℤ (a *ℤ pos 0 +ℤ b *ℤ pos 0 +ℤ d *ℤ pos 0)) ≡ neg_ℤ v
unfolding same
edge-only_e v a b d = ring (neg (var 0 ⊗ num (pos 1) ⊖ (var 1 ⊗ num (pos 0) ⊕ var 2 ⊗ num (pos 0) ⊕ var 3 ⊗ num (pos 0)))) (neg (var 0)) tt (v ∷ a ∷ b ∷ d ∷ [])

-- the same gap by the row behind the face, up to a multiple of the side of e
pub edge-behind : (f : Triangle) (c : RationalPoint) (a e : Point) (hi hj ho ha he : ℤ) → side f e ≡ pos 0
    → neg_ℤ (side f a) *ℤ edge_gap_of f.a f.b c hi hj f.c ho e he ≡ neg_ℤ (side_rational f c) *ℤ neg_ℤ (residual_of (with_apex f a) hi hj ho ha e he)
unfolding same det orient orient_rational
edge-behind f c a e hi hj ho ha he z =
    ring_given (neg (sideE (triangleE 0) (pointE 13)) ⊗ edge_gap_ofE (triangleE 0).a (triangleE 0).b (rationalE 9) (var 19) (var 20) (triangleE 0).c (var 21) (pointE 16) (var 23))
    (neg (side_rationalE (triangleE 0) (rationalE 9)) ⊗ neg (residual_ofE (with_apexE (triangleE 0) (pointE 13)) (var 19) (var 20) (var 21) (var 22) (pointE 16) (var 23)))
    (given (side_rationalE (opposite_aE (with_apexE (triangleE 0) (pointE 13))) (rationalE 9) ⊗ var 19 ⊕ side_rationalE (opposite_bE (with_apexE (triangleE 0) (pointE 13))) (rationalE 9) ⊗ var 20
    ⊕ side_rationalE (opposite_cE (with_apexE (triangleE 0) (pointE 13))) (rationalE 9) ⊗ var 21 ⊕ side_rationalE (opposite_dE (with_apexE (triangleE 0) (pointE 13))) (rationalE 9) ⊗ var 22)
    (sideE (triangleE 0) (pointE 16)) (num (pos 0)) ∷ [])
    tt (of_triangle f (of_rational c (of_point a (of_point e (hi ∷ hj ∷ ho ∷ ha ∷ he ∷ []))))) (z, tt)

-- the side of the middle of a tetrahedron
pub side-middle : (f : Triangle) (t : Corners) → side_rational f (middle t) ≡ side f t.a +ℤ (side f t.b +ℤ (side f t.c +ℤ side f t.d))
unfolding same det orient orient_rational
side-middle f t =
    ring (side_rationalE (triangleE 0) (middleE (cornersE 9))) (sideE (triangleE 0) (cornersE 9).a ⊕ (sideE (triangleE 0) (cornersE 9).b ⊕ (sideE (triangleE 0) (cornersE 9).c ⊕ sideE (triangleE 0) (cornersE 9).d))) tt
    (of_triangle f (of_corners t []))

-- a side of the plane through an edge and c, from those at the corners
pub edge-combine : (i j : Point) (c : RationalPoint) (t : Corners) (x : Point)
    → side (opposite_a t) x *ℤ edge_side_of i j c t.a +ℤ (side (opposite_b t) x *ℤ edge_side_of i j c t.b +ℤ (side (opposite_c t) x *ℤ edge_side_of i j c t.c +ℤ side (opposite_d t) x *ℤ edge_side_of i j c t.d))
    ≡ volume t *ℤ edge_side_of i j c x
unfolding same det orient orient_rational
edge-combine i j c t x =
    ring (sideE (opposite_aE (cornersE 10)) (pointE 22) ⊗ edge_side_ofE (pointE 0) (pointE 3) (rationalE 6) (cornersE 10).a ⊕ (sideE (opposite_bE (cornersE 10)) (pointE 22) ⊗ edge_side_ofE (pointE 0) (pointE 3) (rationalE 6) (cornersE 10).b
    ⊕ (sideE (opposite_cE (cornersE 10)) (pointE 22) ⊗ edge_side_ofE (pointE 0) (pointE 3) (rationalE 6) (cornersE 10).c ⊕ sideE (opposite_dE (cornersE 10)) (pointE 22) ⊗ edge_side_ofE (pointE 0) (pointE 3) (rationalE 6) (cornersE 10).d)))
    (volumeE (cornersE 10) ⊗ edge_side_ofE (pointE 0) (pointE 3) (rationalE 6) (pointE 22)) tt (of_point i (of_point j (of_rational c (of_corners t (of_point x [])))))

-- the edge turned
pub edge-side_turned : (i j : Point) (c : RationalPoint) (o : Point) → edge_side_of j i c o ≡ neg_ℤ (edge_side_of i j c o)
unfolding same det orient_rational
edge-side_turned i j c o =
    ring (edge_side_ofE (pointE 3) (pointE 0) (rationalE 6) (pointE 10)) (neg (edge_side_ofE (pointE 0) (pointE 3) (rationalE 6) (pointE 10))) tt (of_point i (of_point j (of_rational c (of_point o []))))

pub edge-first_turned : (i j o e : Point) → edge_first_of j i o e ≡ neg_ℤ (edge_first_of i j o e)
unfolding same det orient
edge-first_turned i j o e =
    ring (edge_first_ofE (pointE 3) (pointE 0) (pointE 6) (pointE 9)) (neg (edge_first_ofE (pointE 0) (pointE 3) (pointE 6) (pointE 9))) tt (of_point i (of_point j (of_point o (of_point e []))))

pub edge-gap_turned : (i j : Point) (c : RationalPoint) (o e : Point) (hi hj ho he : ℤ) → edge_gap_of j i c hj hi o ho e he ≡ neg_ℤ (edge_gap_of i j c hi hj o ho e he)
unfolding same det orient_rational
edge-gap_turned i j c o e hi hj ho he =
    ring (edge_gap_ofE (pointE 3) (pointE 0) (rationalE 6) (var 17) (var 16) (pointE 10) (var 18) (pointE 13) (var 19))
    (neg (edge_gap_ofE (pointE 0) (pointE 3) (rationalE 6) (var 16) (var 17) (pointE 10) (var 18) (pointE 13) (var 19)))
    tt (of_point i (of_point j (of_rational c (of_point o (of_point e (hi ∷ hj ∷ ho ∷ he ∷ []))))))

pub times-neg_neg : (q y : ℤ) → neg_ℤ (q *ℤ neg_ℤ y) ≡ q *ℤ y
unfolding same
times-neg_neg q y = ring (neg (var 0 ⊗ neg (var 1))) (var 0 ⊗ var 1) tt (q ∷ y ∷ [])

pub neg-times_right : (p x : ℤ) → neg_ℤ (p *ℤ x) ≡ p *ℤ neg_ℤ x
unfolding same
neg-times_right p x = ring (neg (var 0 ⊗ var 1)) (var 0 ⊗ neg (var 1)) tt (p ∷ x ∷ [])

-- ---- heights of the rows on the two sides of a face

-- the height at x of a tetrahedron with the heights ha to hd
abbrev pub height_of : Corners → ℤ → ℤ → ℤ → ℤ → RationalPoint → ℤ
height_of t ha hb hc hd x = side_rational (opposite_a t) x *ℤ ha +ℤ side_rational (opposite_b t) x *ℤ hb +ℤ side_rational (opposite_c t) x *ℤ hc +ℤ side_rational (opposite_d t) x *ℤ hd

abbrev height_ofE : CornersE → Expr → Expr → Expr → Expr → RationalE → Expr
height_ofE t ha hb hc hd x = side_rationalE (opposite_aE t) x ⊗ ha ⊕ side_rationalE (opposite_bE t) x ⊗ hb ⊕ side_rationalE (opposite_cE t) x ⊗ hc ⊕ side_rationalE (opposite_dE t) x ⊗ hd

-- two tetrahedra on a face: their heights at x differ by the side of x times a residual
pub height-across : (f : Triangle) (a o : Point) (x : RationalPoint) (ha hb hc hv ho : ℤ)
    → volume (with_apex (reverse f) a) *ℤ height_of (with_apex f o) ha hb hc ho x -ℤ volume (with_apex f o) *ℤ height_of (with_apex (reverse f) a) ha hc hb hv x
    ≡ side_rational f x *ℤ residual_of (with_apex (reverse f) a) ha hc hb hv o ho
unfolding same det orient orient_rational
height-across f a o x ha hb hc hv ho =
    ring (volumeE (with_apexE (reverseE (triangleE 0)) (pointE 9)) ⊗ height_ofE (with_apexE (triangleE 0) (pointE 12)) (var 19) (var 20) (var 21) (var 23) (rationalE 15)
    ⊖ volumeE (with_apexE (triangleE 0) (pointE 12)) ⊗ height_ofE (with_apexE (reverseE (triangleE 0)) (pointE 9)) (var 19) (var 21) (var 20) (var 22) (rationalE 15))
    (side_rationalE (triangleE 0) (rationalE 15) ⊗ residual_ofE (with_apexE (reverseE (triangleE 0)) (pointE 9)) (var 19) (var 21) (var 20) (var 22) (pointE 12) (var 23))
    tt (of_triangle f (of_point a (of_point o (of_rational x (ha ∷ hb ∷ hc ∷ hv ∷ ho ∷ [])))))

pub side_rational-reverse : (f : Triangle) (x : RationalPoint) → side_rational (reverse f) x ≡ neg_ℤ (side_rational f x)
unfolding same det orient_rational
side_rational-reverse f x = ring (side_rationalE (reverseE (triangleE 0)) (rationalE 9)) (neg (side_rationalE (triangleE 0) (rationalE 9))) tt (of_triangle f (of_rational x []))

pub solve-walk : (sa x so y sp z : ℤ) → sa *ℤ x ≡ so *ℤ y -ℤ sp *ℤ z → neg_ℤ sa *ℤ neg_ℤ x ≡ so *ℤ y +ℤ sp *ℤ neg_ℤ z
unfolding same
solve-walk sa x so y sp z e =
    ring_given (neg (var 0) ⊗ neg (var 1)) (var 2 ⊗ var 3 ⊕ var 4 ⊗ neg (var 5)) (given (num (pos 1)) (var 0 ⊗ var 1) (var 2 ⊗ var 3 ⊖ var 4 ⊗ var 5) ∷ []) tt (sa ∷ x ∷ so ∷ y ∷ sp ∷ z ∷ []) (e, tt)

-- the plane through an edge and c: its sides at the corners, weighted by those of c, add up to 0
pub edge-center : (i j : Point) (c : RationalPoint) (t : Corners)
    → side_rational (opposite_a t) c *ℤ edge_side_of i j c t.a +ℤ (side_rational (opposite_b t) c *ℤ edge_side_of i j c t.b +ℤ (side_rational (opposite_c t) c *ℤ edge_side_of i j c t.c +ℤ side_rational (opposite_d t) c *ℤ edge_side_of i j c t.d)) ≡ pos 0
unfolding same det orient orient_rational
edge-center i j c t =
    ring (side_rationalE (opposite_aE (cornersE 10)) (rationalE 6) ⊗ edge_side_ofE (pointE 0) (pointE 3) (rationalE 6) (cornersE 10).a ⊕ (side_rationalE (opposite_bE (cornersE 10)) (rationalE 6) ⊗ edge_side_ofE (pointE 0) (pointE 3) (rationalE 6) (cornersE 10).b
    ⊕ (side_rationalE (opposite_cE (cornersE 10)) (rationalE 6) ⊗ edge_side_ofE (pointE 0) (pointE 3) (rationalE 6) (cornersE 10).c ⊕ side_rationalE (opposite_dE (cornersE 10)) (rationalE 6) ⊗ edge_side_ofE (pointE 0) (pointE 3) (rationalE 6) (cornersE 10).d)))
    (num (pos 0)) tt (of_point i (of_point j (of_rational c (of_corners t []))))

-- ---- hull faces named from another corner

-- an edge of a face may be named from any corner
pub edge-side_rotated : (i j k : Point) (c : RationalPoint) → edge_side_of j k c i ≡ edge_side_of i j c k
unfolding same det orient_rational
edge-side_rotated i j k c = ring (edge_side_ofE (pointE 3) (pointE 6) (rationalE 9) (pointE 0)) (edge_side_ofE (pointE 0) (pointE 3) (rationalE 9) (pointE 6)) tt (of_point i (of_point j (of_point k (of_rational c []))))

pub edge-first_rotated : (i j k e : Point) → edge_first_of j k i e ≡ edge_first_of i j k e
unfolding same det orient
edge-first_rotated i j k e = ring (edge_first_ofE (pointE 3) (pointE 6) (pointE 0) (pointE 9)) (edge_first_ofE (pointE 0) (pointE 3) (pointE 6) (pointE 9)) tt (of_point i (of_point j (of_point k (of_point e []))))

pub edge-gap_rotated : (i j k : Point) (c : RationalPoint) (e : Point) (hi hj hk he : ℤ) → edge_gap_of j k c hj hk i hi e he ≡ edge_gap_of i j c hi hj k hk e he
unfolding same det orient_rational
edge-gap_rotated i j k c e hi hj hk he =
    ring (edge_gap_ofE (pointE 3) (pointE 6) (rationalE 9) (var 17) (var 18) (pointE 0) (var 16) (pointE 13) (var 19))
    (edge_gap_ofE (pointE 0) (pointE 3) (rationalE 9) (var 16) (var 17) (pointE 6) (var 18) (pointE 13) (var 19))
    tt (of_point i (of_point j (of_point k (of_rational c (of_point e (hi ∷ hj ∷ hk ∷ he ∷ []))))))

-- at the corners of the edge
pub edge-first_i : (i j o : Point) → edge_first_of i j o i ≡ pos 0
unfolding same det orient
edge-first_i i j o = ring (edge_first_ofE (pointE 0) (pointE 3) (pointE 6) (pointE 0)) (num (pos 0)) tt (of_point i (of_point j (of_point o [])))

pub edge-first_j : (i j o : Point) → edge_first_of i j o j ≡ pos 0
unfolding same det orient
edge-first_j i j o = ring (edge_first_ofE (pointE 0) (pointE 3) (pointE 6) (pointE 3)) (num (pos 0)) tt (of_point i (of_point j (of_point o [])))

pub edge-gap_i : (i j : Point) (c : RationalPoint) (o : Point) (hi hj ho : ℤ) → edge_gap_of i j c hi hj o ho i hi ≡ pos 0
unfolding same det orient_rational
edge-gap_i i j c o hi hj ho = ring (edge_gap_ofE (pointE 0) (pointE 3) (rationalE 6) (var 13) (var 14) (pointE 10) (var 15) (pointE 0) (var 13)) (num (pos 0)) tt (of_point i (of_point j (of_rational c (of_point o (hi ∷ hj ∷ ho ∷ [])))))

pub edge-gap_j : (i j : Point) (c : RationalPoint) (o : Point) (hi hj ho : ℤ) → edge_gap_of i j c hi hj o ho j hj ≡ pos 0
unfolding same det orient_rational
edge-gap_j i j c o hi hj ho = ring (edge_gap_ofE (pointE 0) (pointE 3) (rationalE 6) (var 13) (var 14) (pointE 10) (var 15) (pointE 3) (var 14)) (num (pos 0)) tt (of_point i (of_point j (of_rational c (of_point o (hi ∷ hj ∷ ho ∷ [])))))

-- ---- two hull faces and a point: the corners of the second, weighted by the point

-- two hull faces: the heights of p above them, by the weights of p at the edges of one
pub faces-first : (f g : Triangle) (c : RationalPoint) (p : Point)
    → edge_side_of g.a g.b c g.c *ℤ edge_first_of f.a f.b f.c p -ℤ edge_side_of f.a f.b c f.c *ℤ edge_first_of g.a g.b g.c p
    ≡ edge_side_of g.b g.c c p *ℤ edge_first_of f.a f.b f.c g.a +ℤ (edge_side_of g.c g.a c p *ℤ edge_first_of f.a f.b f.c g.b +ℤ edge_side_of g.a g.b c p *ℤ edge_first_of f.a f.b f.c g.c)
unfolding same det orient orient_rational
faces-first f g c p =
    ring (edge_side_ofE (pointE 9) (pointE 12) (rationalE 18) (pointE 15) ⊗ edge_first_ofE (pointE 0) (pointE 3) (pointE 6) (pointE 22) ⊖ edge_side_ofE (pointE 0) (pointE 3) (rationalE 18) (pointE 6) ⊗ edge_first_ofE (pointE 9) (pointE 12) (pointE 15) (pointE 22))
    (edge_side_ofE (pointE 12) (pointE 15) (rationalE 18) (pointE 22) ⊗ edge_first_ofE (pointE 0) (pointE 3) (pointE 6) (pointE 9)
    ⊕ (edge_side_ofE (pointE 15) (pointE 9) (rationalE 18) (pointE 22) ⊗ edge_first_ofE (pointE 0) (pointE 3) (pointE 6) (pointE 12) ⊕ edge_side_ofE (pointE 9) (pointE 12) (rationalE 18) (pointE 22) ⊗ edge_first_ofE (pointE 0) (pointE 3) (pointE 6) (pointE 15)))
    tt (of_triangle f (of_triangle g (of_rational c (of_point p []))))

pub faces-rest : (f g : Triangle) (c : RationalPoint) (p : Point) (fa fb fc ga gb gc hp : ℤ)
    → edge_side_of g.a g.b c g.c *ℤ edge_gap_of f.a f.b c fa fb f.c fc p hp -ℤ edge_side_of f.a f.b c f.c *ℤ edge_gap_of g.a g.b c ga gb g.c gc p hp
    ≡ edge_side_of g.b g.c c p *ℤ edge_gap_of f.a f.b c fa fb f.c fc g.a ga +ℤ (edge_side_of g.c g.a c p *ℤ edge_gap_of f.a f.b c fa fb f.c fc g.b gb +ℤ edge_side_of g.a g.b c p *ℤ edge_gap_of f.a f.b c fa fb f.c fc g.c gc)
unfolding same det orient_rational
faces-rest f g c p fa fb fc ga gb gc hp =
    ring (edge_side_ofE (pointE 9) (pointE 12) (rationalE 18) (pointE 15) ⊗ edge_gap_ofE (pointE 0) (pointE 3) (rationalE 18) (var 25) (var 26) (pointE 6) (var 27) (pointE 22) (var 31)
    ⊖ edge_side_ofE (pointE 0) (pointE 3) (rationalE 18) (pointE 6) ⊗ edge_gap_ofE (pointE 9) (pointE 12) (rationalE 18) (var 28) (var 29) (pointE 15) (var 30) (pointE 22) (var 31))
    (edge_side_ofE (pointE 12) (pointE 15) (rationalE 18) (pointE 22) ⊗ edge_gap_ofE (pointE 0) (pointE 3) (rationalE 18) (var 25) (var 26) (pointE 6) (var 27) (pointE 9) (var 28)
    ⊕ (edge_side_ofE (pointE 15) (pointE 9) (rationalE 18) (pointE 22) ⊗ edge_gap_ofE (pointE 0) (pointE 3) (rationalE 18) (var 25) (var 26) (pointE 6) (var 27) (pointE 12) (var 29)
    ⊕ edge_side_ofE (pointE 9) (pointE 12) (rationalE 18) (pointE 22) ⊗ edge_gap_ofE (pointE 0) (pointE 3) (rationalE 18) (var 25) (var 26) (pointE 6) (var 27) (pointE 15) (var 30)))
    tt (of_triangle f (of_triangle g (of_rational c (of_point p (fa ∷ fb ∷ fc ∷ ga ∷ gb ∷ gc ∷ hp ∷ [])))))

-- ---- a point near the middle of a face, toward the point a behind it

-- a point near the middle of a face, behind it
abbrev pub near_face : Triangle → Point → ℤ → RationalPoint
near_face f a n = record { x = n *ℤ (f.a.x +ℤ f.b.x +ℤ f.c.x) +ℤ a.x; y = n *ℤ (f.a.y +ℤ f.b.y +ℤ f.c.y) +ℤ a.y; z = n *ℤ (f.a.z +ℤ f.b.z +ℤ f.c.z) +ℤ a.z; w = n *ℤ pos 3 +ℤ pos 1 }

abbrev near_faceE : TriangleE → PointE → Expr → RationalE
near_faceE f a n = record { x = n ⊗ (f.a.x ⊕ f.b.x ⊕ f.c.x) ⊕ a.x; y = n ⊗ (f.a.y ⊕ f.b.y ⊕ f.c.y) ⊕ a.y; z = n ⊗ (f.a.z ⊕ f.b.z ⊕ f.c.z) ⊕ a.z; w = n ⊗ num (pos 3) ⊕ num (pos 1) }

-- its weights in the tetrahedron behind
pub near-a : (f : Triangle) (a : Point) (n : ℤ) → side_rational (opposite_a (with_apex (reverse f) a)) (near_face f a n) ≡ n *ℤ volume (with_apex (reverse f) a)
unfolding same det orient orient_rational
near-a f a n = ring (side_rationalE (opposite_aE (with_apexE (reverseE (triangleE 0)) (pointE 9))) (near_faceE (triangleE 0) (pointE 9) (var 12))) (var 12 ⊗ volumeE (with_apexE (reverseE (triangleE 0)) (pointE 9))) tt (of_triangle f (of_point a (n ∷ [])))

pub near-b : (f : Triangle) (a : Point) (n : ℤ) → side_rational (opposite_b (with_apex (reverse f) a)) (near_face f a n) ≡ n *ℤ volume (with_apex (reverse f) a)
unfolding same det orient orient_rational
near-b f a n = ring (side_rationalE (opposite_bE (with_apexE (reverseE (triangleE 0)) (pointE 9))) (near_faceE (triangleE 0) (pointE 9) (var 12))) (var 12 ⊗ volumeE (with_apexE (reverseE (triangleE 0)) (pointE 9))) tt (of_triangle f (of_point a (n ∷ [])))

pub near-c : (f : Triangle) (a : Point) (n : ℤ) → side_rational (opposite_c (with_apex (reverse f) a)) (near_face f a n) ≡ n *ℤ volume (with_apex (reverse f) a)
unfolding same det orient orient_rational
near-c f a n = ring (side_rationalE (opposite_cE (with_apexE (reverseE (triangleE 0)) (pointE 9))) (near_faceE (triangleE 0) (pointE 9) (var 12))) (var 12 ⊗ volumeE (with_apexE (reverseE (triangleE 0)) (pointE 9))) tt (of_triangle f (of_point a (n ∷ [])))

pub near-d : (f : Triangle) (a : Point) (n : ℤ) → side_rational (opposite_d (with_apex (reverse f) a)) (near_face f a n) ≡ volume (with_apex (reverse f) a)
unfolding same det orient orient_rational
near-d f a n = ring (side_rationalE (opposite_dE (with_apexE (reverseE (triangleE 0)) (pointE 9))) (near_faceE (triangleE 0) (pointE 9) (var 12))) (volumeE (with_apexE (reverseE (triangleE 0)) (pointE 9))) tt (of_triangle f (of_point a (n ∷ [])))

-- from there each edge of the face is seen with p on the side of the face
pub near-edge_ab : (f : Triangle) (a p : Point) (n : ℤ) → edge_side_of f.a f.b (near_face f a n) p ≡ n *ℤ side f p +ℤ neg_ℤ (orient f.a f.b p a)
unfolding same det orient orient_rational
near-edge_ab f a p n = ring (edge_side_ofE (pointE 0) (pointE 3) (near_faceE (triangleE 0) (pointE 9) (var 15)) (pointE 12)) (var 15 ⊗ sideE (triangleE 0) (pointE 12) ⊕ neg (orientE (pointE 0) (pointE 3) (pointE 12) (pointE 9))) tt (of_triangle f (of_point a (of_point p (n ∷ []))))

pub near-edge_bc : (f : Triangle) (a p : Point) (n : ℤ) → edge_side_of f.b f.c (near_face f a n) p ≡ n *ℤ side f p +ℤ neg_ℤ (orient f.b f.c p a)
unfolding same det orient orient_rational
near-edge_bc f a p n = ring (edge_side_ofE (pointE 3) (pointE 6) (near_faceE (triangleE 0) (pointE 9) (var 15)) (pointE 12)) (var 15 ⊗ sideE (triangleE 0) (pointE 12) ⊕ neg (orientE (pointE 3) (pointE 6) (pointE 12) (pointE 9))) tt (of_triangle f (of_point a (of_point p (n ∷ []))))

pub near-edge_ca : (f : Triangle) (a p : Point) (n : ℤ) → edge_side_of f.c f.a (near_face f a n) p ≡ n *ℤ side f p +ℤ neg_ℤ (orient f.c f.a p a)
unfolding same det orient orient_rational
near-edge_ca f a p n = ring (edge_side_ofE (pointE 6) (pointE 0) (near_faceE (triangleE 0) (pointE 9) (var 15)) (pointE 12)) (var 15 ⊗ sideE (triangleE 0) (pointE 12) ⊕ neg (orientE (pointE 6) (pointE 0) (pointE 12) (pointE 9))) tt (of_triangle f (of_point a (of_point p (n ∷ []))))

pub walk-gap : (sk x sb y sn z : ℤ) → sk *ℤ x ≡ sb *ℤ y -ℤ sn *ℤ z → sn *ℤ neg_ℤ z ≡ neg_ℤ sk *ℤ neg_ℤ x -ℤ sb *ℤ neg_ℤ (neg_ℤ y)
unfolding same
walk-gap sk x sb y sn z e =
    ring_given (var 4 ⊗ neg (var 5)) (neg (var 0) ⊗ neg (var 1) ⊖ var 2 ⊗ neg (neg (var 3))) (given (neg (num (pos 1))) (var 0 ⊗ var 1) (var 2 ⊗ var 3 ⊖ var 4 ⊗ var 5) ∷ []) tt (sk ∷ x ∷ sb ∷ y ∷ sn ∷ z ∷ []) (e, tt)

-- ---- sums of four that are grouped from the right

grouped : (a b c d : ℤ) → a +ℤ (b +ℤ (c +ℤ d)) ≡ a +ℤ b +ℤ c +ℤ d
grouped a b c d = omega (arith, ints)

-- the side of a point at any plane is the sum of those of the corners, weighted
pub sides-combine : (t : Corners) (f : Triangle) (x : RationalPoint)
    → side_rational (opposite_a t) x *ℤ side f t.a +ℤ (side_rational (opposite_b t) x *ℤ side f t.b +ℤ (side_rational (opposite_c t) x *ℤ side f t.c +ℤ side_rational (opposite_d t) x *ℤ side f t.d))
    ≡ volume t *ℤ side_rational f x
sides-combine t f x =
    grouped (side_rational (opposite_a t) x *ℤ side f t.a) (side_rational (opposite_b t) x *ℤ side f t.b) (side_rational (opposite_c t) x *ℤ side f t.c) (side_rational (opposite_d t) x *ℤ side f t.d)
    ∙ weights-side t f x

pub sum-zero : (wa wb wc wd : ℤ) → wa *ℤ pos 0 +ℤ (wb *ℤ pos 0 +ℤ (wc *ℤ pos 0 +ℤ wd *ℤ pos 0)) ≡ pos 0
sum-zero wa wb wc wd = omega (arith, ints, *ℤ-zero wa, *ℤ-zero wb, *ℤ-zero wc, *ℤ-zero wd)

-- a triangle has the same sides from its next corner on
pub side-turned : (f : Triangle) (p : Point) → side (turned f) p ≡ side f p
side-turned f p = sym (side_rational-as_rational (turned f) p) ∙ side_rational-turned f (as_rational p) ∙ side_rational-as_rational f p
