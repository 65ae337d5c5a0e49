-- No point of the list lies strictly inside a circle triangle: by its weights at the corners, its squared distances to them add up to minus its residual.
use Rattle.std.proofs.Common.{◌≡◌, ◌≢◌, ◌⊎◌, inl, inr, ℕ, zero, suc, ◌+◌, ◌<◌, ℤ, pos, neg_ℤ, ◌+ℤ◌, ◌-ℤ◌, ◌*ℤ◌, ◌<ℤ◌, ◌≤ℤ◌, List, [], ◌∷◌, map, length, refl, ap, sym, subst, ◌∙◌, arith}
use Rattle.std.specs.Prelude.{Contains}
use Rattle.std.proofs.lemmas.Int.{ints}
use Rattle.exact_algebra.proofs.Ring.{◌⊕◌, ◌⊖◌, ◌⊗◌, num, var, neg, ring_given, given, same}
use Rattle.exact_algebra.proofs.Signs.{mul_pos, mul_nonneg, square_nonneg, squares_zero, by_sign}
use Rattle.sign_predicates.specs.Point.{Point, RationalPoint, as_rational}
use Rattle.sign_predicates.specs.declared.tetrahedron.Corners.{Corners}
use Rattle.sign_predicates.specs.Orientation.{Triangle, SpansPlane, side, side_rational, opposite_a, opposite_b, opposite_c, opposite_d, volume}
use Rattle.geo_laws.specs.Delaunay.{point, corners, numbers_below}
use Rattle.geo_laws.specs.Facet.{corner_numbers, apex}
use Rattle.geo_laws.specs.Height.{IsLexPositive, places, residual_at, lifted}
use Rattle.geo_laws.specs.declared.complex.FacetTriangle.{FacetTriangle}
use Rattle.geo_laws.proofs.Determinants.{side_rational-as_rational, weights-sum, weights-x, weights-y, weights-z}
use Rattle.geo_laws.proofs.Lexicographic.{IsLexAbove}
use Rattle.geo_laws.proofs.Members.{IsMember, here, there}
use Rattle.geo_laws.proofs.Corners.{same_or_not}
use Rattle.sign_predicates.proofs.Places.{Place, A, B, C, D, side-other, opposite}
use Rattle.facet_laws.specs.Circle.{circle_triangle, IsCircleAmong, LiesInPlane}
use Rattle.facet_laws.proofs.Circles.{with_apex, row, circle_corners, shape_of, row_corners, point_kept, all_places, circle_above, in_or_not}
use Rattle.facet_laws.proofs.Constant.{IsInside}
use Rattle.facet_laws.proofs.Insides.{Wall, wall_a, wall_b, wall_c, wall_zero}
use Rattle.facet_laws.proofs.Meets.{within}
use Rattle.facet_laws.proofs.SamePlane.{point_to_triangle}

-- the square of the distance of p from a
abbrev spread : (p1 p2 p3 a1 a2 a3 : ℤ) → ℤ
spread p1 p2 p3 a1 a2 a3 = (a1 -ℤ p1) *ℤ (a1 -ℤ p1) +ℤ (a2 -ℤ p2) *ℤ (a2 -ℤ p2) +ℤ (a3 -ℤ p3) *ℤ (a3 -ℤ p3)

-- where the weights of a, b, c and d add up to V, and d has none, the residual is minus the weighted squares
spreads : (V WA WB WC WD H p1 p2 p3 a1 a2 a3 b1 b2 b3 c1 c2 c3 d1 d2 d3 : ℤ)
    → WA +ℤ WB +ℤ WC +ℤ WD ≡ V → WA *ℤ a1 +ℤ WB *ℤ b1 +ℤ WC *ℤ c1 +ℤ WD *ℤ d1 ≡ V *ℤ p1 → WA *ℤ a2 +ℤ WB *ℤ b2 +ℤ WC *ℤ c2 +ℤ WD *ℤ d2 ≡ V *ℤ p2
    → WA *ℤ a3 +ℤ WB *ℤ b3 +ℤ WC *ℤ c3 +ℤ WD *ℤ d3 ≡ V *ℤ p3 → WD ≡ pos 0
    → V *ℤ (p1 *ℤ p1 +ℤ p2 *ℤ p2 +ℤ p3 *ℤ p3)
    -ℤ (WA *ℤ (a1 *ℤ a1 +ℤ a2 *ℤ a2 +ℤ a3 *ℤ a3) +ℤ WB *ℤ (b1 *ℤ b1 +ℤ b2 *ℤ b2 +ℤ b3 *ℤ b3) +ℤ WC *ℤ (c1 *ℤ c1 +ℤ c2 *ℤ c2 +ℤ c3 *ℤ c3) +ℤ WD *ℤ H)
    ≡ neg_ℤ (WA *ℤ spread p1 p2 p3 a1 a2 a3 +ℤ WB *ℤ spread p1 p2 p3 b1 b2 b3 +ℤ WC *ℤ spread p1 p2 p3 c1 c2 c3)
unfolding same
spreads V WA WB WC WD H p1 p2 p3 a1 a2 a3 b1 b2 b3 c1 c2 c3 d1 d2 d3 e0 e1 e2 e3 ed =
    ring_given
    (var 0 ⊗ (var 6 ⊗ var 6 ⊕ var 7 ⊗ var 7 ⊕ var 8 ⊗ var 8)
    ⊖ (var 1 ⊗ (var 9 ⊗ var 9 ⊕ var 10 ⊗ var 10 ⊕ var 11 ⊗ var 11) ⊕ var 2 ⊗ (var 12 ⊗ var 12 ⊕ var 13 ⊗ var 13 ⊕ var 14 ⊗ var 14) ⊕ var 3 ⊗ (var 15 ⊗ var 15 ⊕ var 16 ⊗ var 16 ⊕ var 17 ⊗ var 17) ⊕ var 4 ⊗ var 5))
    (neg (var 1 ⊗ ((var 9 ⊖ var 6) ⊗ (var 9 ⊖ var 6) ⊕ (var 10 ⊖ var 7) ⊗ (var 10 ⊖ var 7) ⊕ (var 11 ⊖ var 8) ⊗ (var 11 ⊖ var 8))
    ⊕ var 2 ⊗ ((var 12 ⊖ var 6) ⊗ (var 12 ⊖ var 6) ⊕ (var 13 ⊖ var 7) ⊗ (var 13 ⊖ var 7) ⊕ (var 14 ⊖ var 8) ⊗ (var 14 ⊖ var 8))
    ⊕ var 3 ⊗ ((var 15 ⊖ var 6) ⊗ (var 15 ⊖ var 6) ⊕ (var 16 ⊖ var 7) ⊗ (var 16 ⊖ var 7) ⊕ (var 17 ⊖ var 8) ⊗ (var 17 ⊖ var 8))))
    (given (var 6 ⊗ var 6 ⊕ var 7 ⊗ var 7 ⊕ var 8 ⊗ var 8) (var 1 ⊕ var 2 ⊕ var 3 ⊕ var 4) (var 0)
    ∷ given (neg (var 6 ⊕ var 6)) (var 1 ⊗ var 9 ⊕ var 2 ⊗ var 12 ⊕ var 3 ⊗ var 15 ⊕ var 4 ⊗ var 18) (var 0 ⊗ var 6)
    ∷ given (neg (var 7 ⊕ var 7)) (var 1 ⊗ var 10 ⊕ var 2 ⊗ var 13 ⊕ var 3 ⊗ var 16 ⊕ var 4 ⊗ var 19) (var 0 ⊗ var 7)
    ∷ given (neg (var 8 ⊕ var 8)) (var 1 ⊗ var 11 ⊕ var 2 ⊗ var 14 ⊕ var 3 ⊗ var 17 ⊕ var 4 ⊗ var 20) (var 0 ⊗ var 8)
    ∷ given ((var 6 ⊗ var 18 ⊕ var 7 ⊗ var 19 ⊕ var 8 ⊗ var 20) ⊕ (var 6 ⊗ var 18 ⊕ var 7 ⊗ var 19 ⊕ var 8 ⊗ var 20) ⊖ (var 6 ⊗ var 6 ⊕ var 7 ⊗ var 7 ⊕ var 8 ⊗ var 8) ⊖ var 5) (var 4) (num (pos 0)) ∷ [])
    tt (V ∷ WA ∷ WB ∷ WC ∷ WD ∷ H ∷ p1 ∷ p2 ∷ p3 ∷ a1 ∷ a2 ∷ a3 ∷ b1 ∷ b2 ∷ b3 ∷ c1 ∷ c2 ∷ c3 ∷ d1 ∷ d2 ∷ d3 ∷ [])
    (e0, (e1, (e2, (e3, (ed, tt)))))

spread_least : (p1 p2 p3 a1 a2 a3 : ℤ) → pos 0 ≤ℤ spread p1 p2 p3 a1 a2 a3
spread_least p1 p2 p3 a1 a2 a3 = sum _ _ _ (square_nonneg (a1 -ℤ p1)) (square_nonneg (a2 -ℤ p2)) (square_nonneg (a3 -ℤ p3))
  where
    sum : (a b c : ℤ) → pos 0 ≤ℤ a → pos 0 ≤ℤ b → pos 0 ≤ℤ c → pos 0 ≤ℤ (a +ℤ b +ℤ c)
    sum a b c h k l = omega (arith, ints)

-- a point with a residual that is not below 0, and with weights that are not, is a corner that weighs
at_corner : (r WA WB WC : ℤ) (p a b c : Point) → pos 0 ≤ℤ r → pos 0 <ℤ WA → pos 0 ≤ℤ WB → pos 0 ≤ℤ WC
    → r ≡ neg_ℤ (WA *ℤ spread p.x p.y p.z a.x a.y a.z +ℤ WB *ℤ spread p.x p.y p.z b.x b.y b.z +ℤ WC *ℤ spread p.x p.y p.z c.x c.y c.z) → p ≡ a
at_corner r WA WB WC p a b c hr ha hb hc e = made (squares_zero (a.x -ℤ p.x) (a.y -ℤ p.y) (a.z -ℤ p.z) none)
  where
    not_all : (u v w r : ℤ) → pos 0 <ℤ u → pos 0 ≤ℤ v → pos 0 ≤ℤ w → pos 0 ≤ℤ r → r ≡ neg_ℤ (u +ℤ v +ℤ w) → ⊥
    not_all u v w r h k l m e = omega (arith, ints)

    below : (n : ℤ) → pos 0 ≤ℤ n → n <ℤ pos 0 → ⊥
    below n h k = omega (arith, ints)

    none : spread p.x p.y p.z a.x a.y a.z ≡ pos 0
    none = by_sign (spread p.x p.y p.z a.x a.y a.z) (λ n. absurd (below _ (spread_least p.x p.y p.z a.x a.y a.z) n)) (λ z. z)
        (λ g. absurd (not_all _ _ _ r (mul_pos WA _ ha g) (mul_nonneg WB _ hb (spread_least p.x p.y p.z b.x b.y b.z)) (mul_nonneg WC _ hc (spread_least p.x p.y p.z c.x c.y c.z)) hr e))

    equal : (m n : ℤ) → m -ℤ n ≡ pos 0 → n ≡ m
    equal m n e = omega (arith, ints)

    made : (a.x -ℤ p.x ≡ pos 0) × (a.y -ℤ p.y ≡ pos 0) × (a.z -ℤ p.z ≡ pos 0) → p ≡ a
    made q = λ j. record { x = equal a.x p.x q.0 j; y = equal a.y p.y q.1 j; z = equal a.z p.z q.2 j }

second_front : (r a b c : ℤ) → r ≡ neg_ℤ (a +ℤ b +ℤ c) → r ≡ neg_ℤ (b +ℤ a +ℤ c)
second_front r a b c e = omega (arith, ints)

third_front : (r a b c : ℤ) → r ≡ neg_ℤ (a +ℤ b +ℤ c) → r ≡ neg_ℤ (c +ℤ a +ℤ b)
third_front r a b c e = omega (arith, ints)

first_least : (n : ℤ) (ns : List ℤ) → IsLexPositive (n ∷ ns) → pos 0 ≤ℤ n
first_least n ns (inl h) = omega (arith, ints)
first_least n ns (inr h) = let e = h.0 in omega (arith, ints)

-- ---- in a circle triangle

-- in the closed triangle, and not on the walls of two of its corners
pub record IsAcross (ps : List Point) (t : FacetTriangle) (z : RationalPoint) : Type 0 where
  pub walls : (v : ℕ) (g : Triangle) → Wall ps t v g → pos 0 ≤ℤ side_rational g z
  pub first : ℕ
  pub first_wall : Triangle
  pub first_is : Wall ps t first first_wall
  pub second : ℕ
  pub second_wall : Triangle
  pub second_is : Wall ps t second second_wall
  pub differ : first ≢ second
  pub first_off : pos 0 <ℤ side_rational first_wall z
  pub second_off : pos 0 <ℤ side_rational second_wall z

pub not_across : {ns : List ℕ} (ps : List Point) (f : Triangle) (t : FacetTriangle) (i : ℕ) → SpansPlane f → IsCircleAmong ps ns t → LiesInPlane ps f t → i < length ps → Contains ns i → side f (point ps i) ≡ pos 0
    → IsAcross ps t (as_rational (point ps i)) → ⊥
not_across ps f t i sf h lies l n flat z = go (in_or_not (corner_numbers t) i)
  where
    p : Point
    p = point ps i

    t4 : Corners
    t4 = circle_corners ps t

    above_not_zero : (n : ℤ) → pos 0 <ℤ n → n ≡ pos 0 → ⊥
    above_not_zero n h e = omega (arith, ints)

    last : side (opposite_d (circle_corners ps t)) (point ps i) ≡ pos 0
    last = point_to_triangle f (circle_triangle ps t) (point ps i) sf (within ps f t lies) flat

    weight : (g : Triangle) → pos 0 <ℤ side_rational g (as_rational (point ps i)) → pos 0 <ℤ side g (point ps i)
    weight g h = subst (λ n. pos 0 <ℤ n) (side_rational-as_rational g (point ps i)) h

    least : (g : Triangle) → pos 0 ≤ℤ side_rational g (as_rational (point ps i)) → pos 0 ≤ℤ side g (point ps i)
    least g h = subst (λ n. pos 0 ≤ℤ n) (side_rational-as_rational g (point ps i)) h

    one : (v : ℤ) → v *ℤ pos 1 ≡ v
    one v = omega (arith, ints)

    split : residual_at (with_apex ps t) (lifted ps) (row ps t) i 0
        ≡ neg_ℤ (side (opposite_a (circle_corners ps t)) (point ps i) *ℤ spread (point ps i).x (point ps i).y (point ps i).z (point ps t.a).x (point ps t.a).y (point ps t.a).z
        +ℤ side (opposite_b (circle_corners ps t)) (point ps i) *ℤ spread (point ps i).x (point ps i).y (point ps i).z (point ps t.b).x (point ps t.b).y (point ps t.b).z
        +ℤ side (opposite_c (circle_corners ps t)) (point ps i) *ℤ spread (point ps i).x (point ps i).y (point ps i).z (point ps t.c).x (point ps t.c).y (point ps t.c).z)
    split =
        (λ j. volume (row_corners ps t (shape_of ps t h) j) *ℤ lifted ps i
        -ℤ (side (opposite_a (row_corners ps t (shape_of ps t h) j)) (kept j) *ℤ lifted ps t.a +ℤ side (opposite_b (row_corners ps t (shape_of ps t h) j)) (kept j) *ℤ lifted ps t.b
        +ℤ side (opposite_c (row_corners ps t (shape_of ps t h) j)) (kept j) *ℤ lifted ps t.c +ℤ side (opposite_d (row_corners ps t (shape_of ps t h) j)) (kept j) *ℤ lifted ps (length ps)))
        ∙ spreads (volume t4) (side (opposite_a t4) p) (side (opposite_b t4) p) (side (opposite_c t4) p) (side (opposite_d t4) p) (lifted ps (length ps)) p.x p.y p.z t4.a.x t4.a.y t4.a.z t4.b.x t4.b.y t4.b.z
        t4.c.x t4.c.y t4.c.z t4.d.x t4.d.y t4.d.z
        ((λ j. own A j +ℤ own B j +ℤ own C j +ℤ own D j) ∙ weights-sum t4 (as_rational p) ∙ one (volume t4))
        ((λ j. own A j *ℤ t4.a.x +ℤ own B j *ℤ t4.b.x +ℤ own C j *ℤ t4.c.x +ℤ own D j *ℤ t4.d.x) ∙ weights-x t4 (as_rational p))
        ((λ j. own A j *ℤ t4.a.y +ℤ own B j *ℤ t4.b.y +ℤ own C j *ℤ t4.c.y +ℤ own D j *ℤ t4.d.y) ∙ weights-y t4 (as_rational p))
        ((λ j. own A j *ℤ t4.a.z +ℤ own B j *ℤ t4.b.z +ℤ own C j *ℤ t4.c.z +ℤ own D j *ℤ t4.d.z) ∙ weights-z t4 (as_rational p))
        last
      where
        kept : point (with_apex ps t) i ≡ point ps i
        kept = point_kept ps (apex (point ps t.a) (point ps t.b) (point ps t.c)) i l

        own : (u : Place) → side (opposite t4 u) p ≡ side_rational (opposite t4 u) (as_rational p)
        own u = sym (side_rational-as_rational (opposite t4 u) p)

    residue : ℤ
    residue = residual_at (with_apex ps t) (lifted ps) (row ps t) i 0

    above_least : IsLexAbove (residual_at (with_apex ps t) (lifted ps) (row ps t) i) (all_places ps) → pos 0 ≤ℤ residual_at (with_apex ps t) (lifted ps) (row ps t) i 0
    above_least k = first_least (residual_at (with_apex ps t) (lifted ps) (row ps t) i 0) (map (residual_at (with_apex ps t) (lifted ps) (row ps t) i) (map suc (numbers_below (length ps + 1)))) k

    -- the corner that weighs is the point
    is_corner : ¬ Contains (corner_numbers t) i → (v : ℕ) (g : Triangle) → Wall ps t v g → pos 0 <ℤ side g (point ps i) → point ps i ≡ point ps v
    is_corner out v g (wall_a e) above =
        at_corner residue (side (opposite_a (circle_corners ps t)) (point ps i)) (side (opposite_b (circle_corners ps t)) (point ps i)) (side (opposite_c (circle_corners ps t)) (point ps i)) (point ps i) (point ps t.a) (point ps t.b) (point ps t.c) (above_least (circle_above ps t h i l n out last)) above (least (opposite_b (circle_corners ps t)) (z.walls t.b (opposite_b (circle_corners ps t)) (wall_b refl))) (least (opposite_c (circle_corners ps t)) (z.walls t.c (opposite_c (circle_corners ps t)) (wall_c refl))) split
        ∙ ap (point ps) (sym e)
    is_corner out v g (wall_b e) above =
        at_corner residue (side (opposite_b (circle_corners ps t)) (point ps i)) (side (opposite_a (circle_corners ps t)) (point ps i)) (side (opposite_c (circle_corners ps t)) (point ps i)) (point ps i) (point ps t.b) (point ps t.a) (point ps t.c) (above_least (circle_above ps t h i l n out last)) above (least (opposite_a (circle_corners ps t)) (z.walls t.a (opposite_a (circle_corners ps t)) (wall_a refl))) (least (opposite_c (circle_corners ps t)) (z.walls t.c (opposite_c (circle_corners ps t)) (wall_c refl)))
        (second_front residue (side (opposite_a (circle_corners ps t)) (point ps i) *ℤ spread (point ps i).x (point ps i).y (point ps i).z (point ps t.a).x (point ps t.a).y (point ps t.a).z) (side (opposite_b (circle_corners ps t)) (point ps i) *ℤ spread (point ps i).x (point ps i).y (point ps i).z (point ps t.b).x (point ps t.b).y (point ps t.b).z) (side (opposite_c (circle_corners ps t)) (point ps i) *ℤ spread (point ps i).x (point ps i).y (point ps i).z (point ps t.c).x (point ps t.c).y (point ps t.c).z) split) ∙ ap (point ps) (sym e)
    is_corner out v g (wall_c e) above =
        at_corner residue (side (opposite_c (circle_corners ps t)) (point ps i)) (side (opposite_a (circle_corners ps t)) (point ps i)) (side (opposite_b (circle_corners ps t)) (point ps i)) (point ps i) (point ps t.c) (point ps t.a) (point ps t.b) (above_least (circle_above ps t h i l n out last)) above (least (opposite_a (circle_corners ps t)) (z.walls t.a (opposite_a (circle_corners ps t)) (wall_a refl))) (least (opposite_b (circle_corners ps t)) (z.walls t.b (opposite_b (circle_corners ps t)) (wall_b refl)))
        (third_front residue (side (opposite_a (circle_corners ps t)) (point ps i) *ℤ spread (point ps i).x (point ps i).y (point ps i).z (point ps t.a).x (point ps t.a).y (point ps t.a).z) (side (opposite_b (circle_corners ps t)) (point ps i) *ℤ spread (point ps i).x (point ps i).y (point ps i).z (point ps t.b).x (point ps t.b).y (point ps t.b).z) (side (opposite_c (circle_corners ps t)) (point ps i) *ℤ spread (point ps i).x (point ps i).y (point ps i).z (point ps t.c).x (point ps t.c).y (point ps t.c).z) split) ∙ ap (point ps) (sym e)

    own : (v : ℕ) (g : Triangle) → Wall ps t v g → IsMember v (corner_numbers t)
    own v g (wall_a e) = subst (λ k. IsMember k (corner_numbers t)) (sym e) here
    own v g (wall_b e) = subst (λ k. IsMember k (corner_numbers t)) (sym e) (there here)
    own v g (wall_c e) = subst (λ k. IsMember k (corner_numbers t)) (sym e) (there (there here))

    at_own : IsMember i (corner_numbers t) → (i ≡ z.first) ⊎ (i ≢ z.first) → ⊥
    at_own m (inl e) = above_not_zero _ (weight z.second_wall z.second_off) (wall_zero ps t z.second z.second_wall z.second_is i m (λ d. z.differ (sym e ∙ d)))
    at_own m (inr e) = above_not_zero _ (weight z.first_wall z.first_off) (wall_zero ps t z.first z.first_wall z.first_is i m e)

    go : IsMember i (corner_numbers t) ⊎ ¬ Contains (corner_numbers t) i → ⊥
    go (inl m) = at_own m (same_or_not i z.first)
    go (inr out) =
        above_not_zero _ (weight z.second_wall z.second_off)
        (ap (side z.second_wall) (is_corner out z.first z.first_wall z.first_is (weight z.first_wall z.first_off)) ∙ wall_zero ps t z.second z.second_wall z.second_is z.first (own z.first z.first_wall z.first_is) z.differ)

-- so none lies strictly inside
pub not_point : {ns : List ℕ} (ps : List Point) (f : Triangle) (t : FacetTriangle) (i : ℕ) → SpansPlane f → IsCircleAmong ps ns t → LiesInPlane ps f t → i < length ps → Contains ns i → side f (point ps i) ≡ pos 0
    → IsInside ps t (as_rational (point ps i)) → ⊥
not_point ps f t i sf h lies l n flat inside = not_across ps f t i sf h lies l n flat (record {
  walls = λ v g w. weak _ (inside.walls v g w);
  first = t.a;
  first_wall = opposite_a (circle_corners ps t);
  first_is = wall_a refl;
  second = t.b;
  second_wall = opposite_b (circle_corners ps t);
  second_is = wall_b refl;
  differ = not_equal t.a t.b h.first;
  first_off = inside.walls t.a _ (wall_a refl);
  second_off = inside.walls t.b _ (wall_b refl);
})
  where
    weak : (n : ℤ) → pos 0 <ℤ n → pos 0 ≤ℤ n
    weak n h = omega (arith, ints)

    not_equal : (a b : ℕ) → a < b → a ≢ b
    not_equal a b h e = omega arith
