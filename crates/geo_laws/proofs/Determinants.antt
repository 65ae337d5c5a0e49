-- The algebra of orientations, each fact one identity that the ring normalizer checks. An orientation is linear in its last point,
-- and alternating; by Cramer's rule the sides of a point at the faces of a tetrahedron are its weights at the corners opposite.
use Rattle.std.proofs.Common.{◌≡◌, ℤ, pos, neg_ℤ, ◌+ℤ◌, ◌-ℤ◌, ◌*ℤ◌, [], ◌∷◌, sym, ◌∙◌}
use Rattle.std.specs.Prelude.{T}
use Rattle.exact_algebra.proofs.Ring.{Expr, num, var, neg, eval, ring, ring_given, given, same}
use Rattle.exact_algebra.proofs.Ring.{◌⊕◌, ◌⊖◌, ◌⊗◌}
use Rattle.sign_predicates.proofs.Terms.{PointE, CornersE, pointE, rationalE, triangleE, cornersE, of_point, of_rational, of_triangle, of_corners, orientE, sideE, side_rationalE, volumeE, normalE, offsetE, combinedE, middleE, as_rationalE, off_planeE, with_aE, with_bE, with_cE, with_dE, minorE, square_lengthE, in_sphereE, turnedE}
use Rattle.sign_predicates.specs.Point.{Point, RationalPoint, as_rational}
use Rattle.sign_predicates.specs.Sphere.{square_length, in_sphere}
use Rattle.sign_predicates.specs.Orientation.{Triangle, volume, normal, dot, side, side_rational, orient, orient_rational, det, IsPositive, SpansPlane}
use Rattle.sign_predicates.specs.declared.tetrahedron.Corners.{Corners}
use Rattle.exact_algebra.proofs.Signs.{pos_not_zero}
use Rattle.geo_laws.specs.Laws.{ThreeTermLaw}
use Rattle.sign_predicates.proofs.Places.{Place, A, B, C, D, IsOther, corner, opposite, cornerE, oppositeE, side-own}
use Rattle.geo_laws.proofs.Places.{replaced, over_places}

-- ---- terms by place

abbrev replacedE : CornersE → Place → PointE → CornersE
replacedE t A e = with_aE t e
replacedE t B e = with_bE t e
replacedE t C e = with_cE t e
replacedE t D e = with_dE t e

abbrev over_placesE : (Place → Expr) → Expr
over_placesE f = f A ⊕ f B ⊕ f C ⊕ f D

-- ---- an orientation is linear in its last point

-- what is added to the product with the normal
abbrev pub offset : Triangle → ℤ
offset f = pos 0 -ℤ dot (normal f) f.a

-- the side of a rational point is the product with the normal, plus a multiple of w
pub side_rational-linear : (f : Triangle) (x : RationalPoint) → side_rational f x ≡ (normal f).x *ℤ x.x +ℤ ((normal f).y *ℤ x.y +ℤ ((normal f).z *ℤ x.z +ℤ offset f *ℤ x.w))
unfolding same det orient_rational
side_rational-linear f x =
    let g = triangleE 0 in
    let p = rationalE 9 in
    ring (side_rationalE g p) ((normalE g).x ⊗ p.x ⊕ ((normalE g).y ⊗ p.y ⊕ ((normalE g).z ⊗ p.z ⊕ offsetE g ⊗ p.w))) tt (of_triangle f (of_rational x []))

-- and so is that of a point
pub side-linear : (f : Triangle) (p : Point) → side f p ≡ (normal f).x *ℤ p.x +ℤ ((normal f).y *ℤ p.y +ℤ ((normal f).z *ℤ p.z +ℤ offset f))
unfolding same det orient
side-linear f p =
    let g = triangleE 0 in
    let q = pointE 9 in
    ring (sideE g q) ((normalE g).x ⊗ q.x ⊕ ((normalE g).y ⊗ q.y ⊕ ((normalE g).z ⊗ q.z ⊕ offsetE g))) tt (of_triangle f (of_point p []))

-- a point has the same side as a rational point
pub side_rational-as_rational : (f : Triangle) (p : Point) → side_rational f (as_rational p) ≡ side f p
unfolding same det orient orient_rational
side_rational-as_rational f p = ring (side_rationalE (triangleE 0) (as_rationalE (pointE 9))) (sideE (triangleE 0) (pointE 9)) tt (of_triangle f (of_point p []))

-- n times x, and y
abbrev pub combined : ℤ → RationalPoint → RationalPoint → RationalPoint
combined n x y = record { x = n *ℤ x.x +ℤ y.x; y = n *ℤ x.y +ℤ y.y; z = n *ℤ x.z +ℤ y.z; w = n *ℤ x.w +ℤ y.w }

-- the side of a combination is the combination of the sides
pub side_rational-combined : (f : Triangle) (n : ℤ) (x y : RationalPoint) → side_rational f (combined n x y) ≡ n *ℤ side_rational f x +ℤ side_rational f y
unfolding same det orient_rational
side_rational-combined f n x y =
    let g = triangleE 0 in
    let p = rationalE 10 in
    let q = rationalE 14 in
    ring (side_rationalE g (combinedE (var 9) p q)) (var 9 ⊗ side_rationalE g p ⊕ side_rationalE g q) tt (of_triangle f (n ∷ (of_rational x (of_rational y []))))

-- from the sums of the coordinates to the sum of an affine function
pub mean-affine : (nx ny nz o sx sy sz m w x y z : ℤ) → sx *ℤ w ≡ x *ℤ m → sy *ℤ w ≡ y *ℤ m → sz *ℤ w ≡ z *ℤ m
    → (nx *ℤ sx +ℤ (ny *ℤ sy +ℤ (nz *ℤ sz +ℤ o *ℤ m))) *ℤ w ≡ (nx *ℤ x +ℤ (ny *ℤ y +ℤ (nz *ℤ z +ℤ o *ℤ w))) *ℤ m
unfolding same
mean-affine nx ny nz o sx sy sz m w x y z ex ey ez =
    ring_given ((var 0 ⊗ var 4 ⊕ (var 1 ⊗ var 5 ⊕ (var 2 ⊗ var 6 ⊕ var 3 ⊗ var 7))) ⊗ var 8) ((var 0 ⊗ var 9 ⊕ (var 1 ⊗ var 10 ⊕ (var 2 ⊗ var 11 ⊕ var 3 ⊗ var 8))) ⊗ var 7)
    (given (var 0) (var 4 ⊗ var 8) (var 9 ⊗ var 7) ∷ given (var 1) (var 5 ⊗ var 8) (var 10 ⊗ var 7) ∷ given (var 2) (var 6 ⊗ var 8) (var 11 ⊗ var 7) ∷ [])
    tt (nx ∷ ny ∷ nz ∷ o ∷ sx ∷ sy ∷ sz ∷ m ∷ w ∷ x ∷ y ∷ z ∷ []) (ex, (ey, (ez, tt)))

-- ---- and alternating: the side of a corner at its opposite face is the volume, and at another face 0

-- the volume with a point in place of a corner is the point's side at the face opposite
pub volume-replaced : (t : Corners) (u : Place) (e : Point) → volume (replaced t u e) ≡ side (opposite t u) e
unfolding same det orient
volume-replaced t u e = go u
  where
    by : (u : Place) → T (same (volumeE (replacedE (cornersE 0) u (pointE 12))) (sideE (oppositeE (cornersE 0) u) (pointE 12)))
        → eval (of_corners t (of_point e [])) (volumeE (replacedE (cornersE 0) u (pointE 12))) ≡ eval (of_corners t (of_point e [])) (sideE (oppositeE (cornersE 0) u) (pointE 12))
    by u h = ring (volumeE (replacedE (cornersE 0) u (pointE 12))) (sideE (oppositeE (cornersE 0) u) (pointE 12)) h (of_corners t (of_point e []))

    go : (u : Place) → volume (replaced t u e) ≡ side (opposite t u) e
    go A = by A tt
    go B = by B tt
    go C = by C tt
    go D = by D tt

-- a triangle whose corners are on a line has every point on its plane
pub side-flat : (f : Triangle) (p : Point) → (normal f).x ≡ pos 0 → (normal f).y ≡ pos 0 → (normal f).z ≡ pos 0 → side f p ≡ pos 0
unfolding same det orient orient_rational
side-flat f p ex ey ez =
    let g = triangleE 0 in
    let q = pointE 9 in
    ring_given (sideE g q) (num (pos 0))
    (given (q.x ⊖ g.a.x) (normalE g).x (num (pos 0)) ∷ given (q.y ⊖ g.a.y) (normalE g).y (num (pos 0)) ∷ given (q.z ⊖ g.a.z) (normalE g).z (num (pos 0)) ∷ [])
    tt (of_triangle f (of_point p [])) (ex, (ey, (ez, tt)))

-- a face of a positive tetrahedron spans a plane, as its opposite corner is off it
pub spans : (t : Corners) → IsPositive t → (u : Place) → SpansPlane (opposite t u)
spans t p u z = pos_not_zero (volume t) p (sym (side-own t u) ∙ side-flat (opposite t u) (corner t u) z.0 z.1 z.2)

-- the same triangle from its next corner on
abbrev pub turned : Triangle → Triangle
turned f = record { a = f.b; b = f.c; c = f.a }

-- has the same sides
pub side_rational-turned : (f : Triangle) (x : RationalPoint) → side_rational (turned f) x ≡ side_rational f x
unfolding same det orient_rational
side_rational-turned f x = ring (side_rationalE (turnedE (triangleE 0)) (rationalE 9)) (side_rationalE (triangleE 0) (rationalE 9)) tt (of_triangle f (of_rational x []))

-- two corners that change places change the sign
pub orient-swap_cd : (a b c d : Point) → orient a b d c ≡ neg_ℤ (orient a b c d)
unfolding same det orient
orient-swap_cd a b c d = ring (orientE (pointE 0) (pointE 3) (pointE 9) (pointE 6)) (neg (orientE (pointE 0) (pointE 3) (pointE 6) (pointE 9))) tt (of_point a (of_point b (of_point c (of_point d []))))

-- ---- Cramer's rule: the sides of a point are its weights at the corners

abbrev weightE : Place → Expr
weightE u = side_rationalE (oppositeE (cornersE 0) u) (rationalE 12)

-- the weights add up to the volume, times w
pub weights-sum : (t : Corners) (x : RationalPoint) → over_places (λ u. side_rational (opposite t u) x) ≡ volume t *ℤ x.w
unfolding same det orient orient_rational
weights-sum t x = ring (over_placesE weightE) (volumeE (cornersE 0) ⊗ (rationalE 12).w) tt (of_corners t (of_rational x []))

-- so do the sides of a point, to the volume
pub sides-sum : (t : Corners) (e : Point) → over_places (λ u. side (opposite t u) e) ≡ volume t
unfolding same det orient
sides-sum t e = ring (over_placesE (λ u. sideE (oppositeE (cornersE 0) u) (pointE 12))) (volumeE (cornersE 0)) tt (of_corners t (of_point e []))

-- and the corners, so weighted, to the volume times the point
pub weights-x : (t : Corners) (x : RationalPoint) → over_places (λ u. side_rational (opposite t u) x *ℤ (corner t u).x) ≡ volume t *ℤ x.x
unfolding same det orient orient_rational
weights-x t x = ring (over_placesE (λ u. weightE u ⊗ (cornerE (cornersE 0) u).x)) (volumeE (cornersE 0) ⊗ (rationalE 12).x) tt (of_corners t (of_rational x []))

pub weights-y : (t : Corners) (x : RationalPoint) → over_places (λ u. side_rational (opposite t u) x *ℤ (corner t u).y) ≡ volume t *ℤ x.y
unfolding same det orient orient_rational
weights-y t x = ring (over_placesE (λ u. weightE u ⊗ (cornerE (cornersE 0) u).y)) (volumeE (cornersE 0) ⊗ (rationalE 12).y) tt (of_corners t (of_rational x []))

pub weights-z : (t : Corners) (x : RationalPoint) → over_places (λ u. side_rational (opposite t u) x *ℤ (corner t u).z) ≡ volume t *ℤ x.z
unfolding same det orient orient_rational
weights-z t x = ring (over_placesE (λ u. weightE u ⊗ (cornerE (cornersE 0) u).z)) (volumeE (cornersE 0) ⊗ (rationalE 12).z) tt (of_corners t (of_rational x []))

-- so the side of a point at any plane is the sum of those of the corners, weighted
pub weights-side : (t : Corners) (f : Triangle) (x : RationalPoint) → over_places (λ u. side_rational (opposite t u) x *ℤ side f (corner t u)) ≡ volume t *ℤ side_rational f x
unfolding same det orient orient_rational
weights-side t f x =
    ring (over_placesE (λ u. side_rationalE (oppositeE (cornersE 0) u) (rationalE 21) ⊗ sideE (triangleE 12) (cornerE (cornersE 0) u))) (volumeE (cornersE 0) ⊗ side_rationalE (triangleE 12) (rationalE 21))
    tt (of_corners t (of_triangle f (of_rational x [])))

-- ---- the three-term relation

-- one expansion
pub law_three_term : ThreeTermLaw
unfolding same det orient
law_three_term a b c d e f =
    let o = orientE (pointE 0) (pointE 3) in
    ring (o (pointE 6) (pointE 9) ⊗ o (pointE 12) (pointE 15) ⊖ o (pointE 6) (pointE 12) ⊗ o (pointE 9) (pointE 15) ⊕ o (pointE 6) (pointE 15) ⊗ o (pointE 9) (pointE 12))
    (num (pos 0)) tt (of_point a (of_point b (of_point c (of_point d (of_point e (of_point f []))))))

-- by it, the weight of x at u, where e stands in place of the corner at v, is a minor of the weights of x and of e in the old tetrahedron
abbrev pub minor : Corners → Point → RationalPoint → Place → Place → ℤ
minor t e x u v = side_rational (opposite t u) x *ℤ side (opposite t v) e -ℤ side_rational (opposite t v) x *ℤ side (opposite t u) e

pub weight-replaced : (t : Corners) (e : Point) (x : RationalPoint) (u v : Place) → IsOther u v → volume t *ℤ side_rational (opposite (replaced t v e) u) x ≡ minor t e x u v
unfolding same det orient orient_rational
weight-replaced t e x A A o = absurd o
weight-replaced t e x B B o = absurd o
weight-replaced t e x C C o = absurd o
weight-replaced t e x D D o = absurd o
weight-replaced t e x u v o =
    ring (volumeE (cornersE 0) ⊗ side_rationalE (oppositeE (replacedE (cornersE 0) v (pointE 12)) u) (rationalE 15)) (minorE (cornersE 0) (pointE 12) (rationalE 15) (oppositeE (cornersE 0) u) (oppositeE (cornersE 0) v))
    tt (of_corners t (of_point e (of_rational x [])))

-- ---- two points of a tetrahedron

-- the sum of the corners: each weighs alike
abbrev pub middle : Corners → RationalPoint
middle t = record { x = t.a.x +ℤ t.b.x +ℤ t.c.x +ℤ t.d.x; y = t.a.y +ℤ t.b.y +ℤ t.c.y +ℤ t.d.y; z = t.a.z +ℤ t.b.z +ℤ t.c.z +ℤ t.d.z; w = pos 4 }

pub side-middle : (t : Corners) (u : Place) → side_rational (opposite t u) (middle t) ≡ volume t
unfolding same det orient orient_rational
side-middle t u = go u
  where
    by : (u : Place) → T (same (side_rationalE (oppositeE (cornersE 0) u) (middleE (cornersE 0))) (volumeE (cornersE 0)))
        → eval (of_corners t []) (side_rationalE (oppositeE (cornersE 0) u) (middleE (cornersE 0))) ≡ eval (of_corners t []) (volumeE (cornersE 0))
    by u h = ring (side_rationalE (oppositeE (cornersE 0) u) (middleE (cornersE 0))) (volumeE (cornersE 0)) h (of_corners t [])

    go : (u : Place) → side_rational (opposite t u) (middle t) ≡ volume t
    go A = by A tt
    go B = by B tt
    go C = by C tt
    go D = by D tt

-- the point off a triangle's plane by its normal, whose side is the square of the normal's length
abbrev pub off_plane : Triangle → RationalPoint
off_plane f = record { x = f.a.x +ℤ (normal f).x; y = f.a.y +ℤ (normal f).y; z = f.a.z +ℤ (normal f).z; w = pos 1 }

pub side_rational-off_plane : (f : Triangle) → side_rational f (off_plane f) ≡ (normal f).x *ℤ (normal f).x +ℤ (normal f).y *ℤ (normal f).y +ℤ (normal f).z *ℤ (normal f).z
unfolding same det orient_rational
side_rational-off_plane f =
    let g = triangleE 0 in
    let n = normalE g in
    ring (side_rationalE g (off_planeE g)) (n.x ⊗ n.x ⊕ n.y ⊗ n.y ⊕ n.z ⊗ n.z) tt (of_triangle f [])

-- ---- the lifting map: with squared lengths as heights, the height of e above a tetrahedron is its sphere sum, with the other sign

pub sphere-lift : (t : Corners) (e : Point) → volume t *ℤ square_length e -ℤ over_places (λ u. side (opposite t u) e *ℤ square_length (corner t u)) ≡ neg_ℤ (in_sphere t e)
unfolding same det orient in_sphere
sphere-lift t e =
    ring (volumeE (cornersE 0) ⊗ square_lengthE (pointE 12) ⊖ over_placesE (λ u. sideE (oppositeE (cornersE 0) u) (pointE 12) ⊗ square_lengthE (cornerE (cornersE 0) u)))
    (neg (in_sphereE (cornersE 0) (pointE 12))) tt (of_corners t (of_point e []))
