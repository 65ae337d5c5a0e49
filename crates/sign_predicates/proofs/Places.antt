-- The four corners of a tetrahedron by their places, and the sides of the corners and of any point at the faces.
use Rattle.std.proofs.Common.{◌≡◌, ◌⊎◌, inl, inr, ℤ, pos, ◌+ℤ◌, ◌*ℤ◌, ◌<ℤ◌, ◌≤ℤ◌, [], refl, ap, sym, ◌∙◌, arith}
use Rattle.std.specs.Prelude.{T}
use Rattle.std.proofs.lemmas.Int.{ints}
use Rattle.exact_algebra.proofs.Ring.{num, eval, ring, same, ◌⊕◌, ◌⊗◌}
use Rattle.sign_predicates.specs.Point.{Point}
use Rattle.sign_predicates.specs.Orientation.{Triangle, side, volume, orient, det, IsPositive, opposite_a, opposite_b, opposite_c, opposite_d}
use Rattle.sign_predicates.specs.declared.tetrahedron.Corners.{Corners}
use Rattle.sign_predicates.proofs.Terms.{PointE, TriangleE, CornersE, cornersE, triangleE, pointE, of_corners, of_triangle, of_point, sideE, volumeE, opposite_aE, opposite_bE, opposite_cE, opposite_dE}

-- the place of a corner
pub data Place : Type 0 where
  A : Place
  B : Place
  C : Place
  D : Place

-- the places are different
abbrev pub IsOther : Place → Place → Type 0
IsOther A A = ⊥
IsOther B B = ⊥
IsOther C C = ⊥
IsOther D D = ⊥
IsOther u v = Unit {0}

-- two places are the same or not
pub same_or_other : (u v : Place) → (u ≡ v) ⊎ IsOther u v
same_or_other A A = inl refl
same_or_other B B = inl refl
same_or_other C C = inl refl
same_or_other D D = inl refl
same_or_other u v = inr tt

-- the corner at the place
abbrev pub corner : Corners → Place → Point
corner t A = t.a
corner t B = t.b
corner t C = t.c
corner t D = t.d

-- the face opposite the corner
abbrev pub opposite : Corners → Place → Triangle
opposite t A = opposite_a t
opposite t B = opposite_b t
opposite t C = opposite_c t
opposite t D = opposite_d t

abbrev pub cornerE : CornersE → Place → PointE
cornerE t A = t.a
cornerE t B = t.b
cornerE t C = t.c
cornerE t D = t.d

abbrev pub oppositeE : CornersE → Place → TriangleE
oppositeE t A = opposite_aE t
oppositeE t B = opposite_bE t
oppositeE t C = opposite_cE t
oppositeE t D = opposite_dE t

-- a corner at its opposite face
pub side-own : (t : Corners) (u : Place) → side (opposite t u) (corner t u) ≡ volume t
unfolding same det orient
side-own t u = go u
  where
    by : (u : Place) → T (same (sideE (oppositeE (cornersE 0) u) (cornerE (cornersE 0) u)) (volumeE (cornersE 0)))
        → eval (of_corners t []) (sideE (oppositeE (cornersE 0) u) (cornerE (cornersE 0) u)) ≡ eval (of_corners t []) (volumeE (cornersE 0))
    by u h = ring (sideE (oppositeE (cornersE 0) u) (cornerE (cornersE 0) u)) (volumeE (cornersE 0)) h (of_corners t [])

    go : (u : Place) → side (opposite t u) (corner t u) ≡ volume t
    go A = by A tt
    go B = by B tt
    go C = by C tt
    go D = by D tt

-- a corner at the face opposite another one
pub side-other : (t : Corners) (u v : Place) → IsOther u v → side (opposite t u) (corner t v) ≡ pos 0
unfolding same det orient
side-other t A A o = absurd o
side-other t B B o = absurd o
side-other t C C o = absurd o
side-other t D D o = absurd o
side-other t u v o = ring (sideE (oppositeE (cornersE 0) u) (cornerE (cornersE 0) v)) (num (pos 0)) tt (of_corners t [])

-- the side of a point at any plane is the sum of those of the corners, each times the point's side at the opposite face
pub sides-weigh : (t : Corners) (f : Triangle) (p : Point)
    → side (opposite_a t) p *ℤ side f t.a +ℤ side (opposite_b t) p *ℤ side f t.b +ℤ side (opposite_c t) p *ℤ side f t.c +ℤ side (opposite_d t) p *ℤ side f t.d ≡ volume t *ℤ side f p
unfolding same det orient
sides-weigh t f p =
    let W = cornersE 0 in
    let F = triangleE 12 in
    let P = pointE 21 in
    ring (sideE (opposite_aE W) P ⊗ sideE F W.a ⊕ sideE (opposite_bE W) P ⊗ sideE F W.b ⊕ sideE (opposite_cE W) P ⊗ sideE F W.c ⊕ sideE (opposite_dE W) P ⊗ sideE F W.d) (volumeE W ⊗ sideE F P)
    tt (of_corners t (of_triangle f (of_point p [])))

-- no corner of a positive tetrahedron is beyond a face
pub corner_least : (t : Corners) → IsPositive t → (u v : Place) → pos 0 ≤ℤ side (opposite t u) (corner t v)
corner_least t p u v = by (same_or_other u v)
  where
    weak : (a b : ℤ) → a ≡ b → pos 0 <ℤ b → pos 0 ≤ℤ a
    weak a b e h = omega (arith, ints)

    none : (a : ℤ) → a ≡ pos 0 → pos 0 ≤ℤ a
    none a e = omega (arith, ints)

    by : (u ≡ v) ⊎ IsOther u v → pos 0 ≤ℤ side (opposite t u) (corner t v)
    by (inl e) = weak (side (opposite t u) (corner t v)) (volume t) (ap (λ w. side (opposite t u) (corner t w)) (sym e) ∙ side-own t u) p
    by (inr o) = none (side (opposite t u) (corner t v)) (side-other t u v o)
