-- The triangles of a facet cover its inner sides too.
use Rattle.std.proofs.Common.{◌≡◌, ◌≢◌, ◌⊎◌, inl, inr, ℕ, nat_abs, ◌+◌, ◌<◌, ◌≤◌, ℤ, pos, ◌+ℤ◌, ◌-ℤ◌, ◌*ℤ◌, ◌<ℤ◌, ◌≤ℤ◌, Bool, true, false, ◌&&◌, List, [], ◌∷◌, length, refl, ap, sym, subst, ◌∙◌, arith, eq-eqb, ne_eqb}
use Rattle.std.specs.Prelude.{Some, Contains, sum_by, ◌==◌, if◌then◌else◌, flat_map}
use Rattle.std.specs.List.{AllByRecursion, list_any}
use Rattle.std.proofs.lemmas.Int.{ints}
use Rattle.exact_algebra.proofs.Ring.{◌⊕◌, ◌⊖◌, ◌⊗◌, num, var, neg, ring_given, given, same}
use Rattle.exact_algebra.proofs.Signs.{by_sign, mul_pos, mul_nonneg, zero_of_mul, cancel_mul, multiple_above, multiple_below, neg_same}
use Rattle.sign_predicates.specs.Point.{Point, RationalPoint, EachRational, origin, from_to, as_rational}
use Rattle.sign_predicates.specs.Orientation.{Triangle, SpansPlane, normal, cross, side, side_rational, opposite_a, opposite_b, opposite_c}
use Rattle.geo_laws.specs.Delaunay.{point, HasDistinctPoints, all_numbers}
use Rattle.geo_laws.specs.Path.{SamePoint}
use Rattle.geo_laws.specs.Segment.{sides, pieces, piece, cut, is_zero}
use Rattle.geo_laws.specs.Simplex.{InSimplex, IsMean, sum_by_weights}
use Rattle.geo_laws.specs.Facet.{Facet, IsFlat, areas, all_corners, axis_of, plane, in_region, is_on_piece, is_on_side, is_within, corner_numbers, triangle_centroid, facet_triangles}
use Rattle.geo_laws.specs.declared.complex.Piece.{Piece}
use Rattle.geo_laws.specs.declared.complex.FacetTriangle.{FacetTriangle}
use Rattle.geo_laws.proofs.Corners.{contains_below}
use Rattle.geo_laws.proofs.Determinants.{combined, offset, side_rational-combined, side_rational-linear, side_rational-as_rational}
use Rattle.geo_laws.proofs.Members.{IsMember, here, there, at_place, in_flat_map, some_true, any_true, both_true, contains_of, member_of}
use Rattle.facet_laws.specs.Circle.{circle_triangle, IsCircle, LiesInPlane, InFlatHull}
use Rattle.facet_laws.specs.Inner.{IsInnerSide}
use Rattle.facet_laws.specs.Legs.{IsWeightedMean}
use Rattle.facet_laws.specs.Region.{HavePieces, IsBounded, IsFacetProtected, IsPieced, IsAmongSegments, IsFacetTriangle, BoundedCoverLaw, is_on_piece_of, through}
use Rattle.facet_laws.proofs.Chains.{all_at, all_sides}
use Rattle.facet_laws.proofs.CircleCover.{law_circle_cover}
use Rattle.facet_laws.proofs.Circles.{Shape, among_all, circle_corners, shape_of, squares_above}
use Rattle.facet_laws.proofs.Closed.{in_triangle}
use Rattle.facet_laws.proofs.General.{size, size_member, walls_of}
use Rattle.facet_laws.proofs.Inner.{leg_back}
use Rattle.facet_laws.proofs.Constant.{all_map}
use Rattle.facet_laws.proofs.Facets.{Circle, circle_of, plane_spans, steep, region_is, facet_of, law_triangle_inside, law_region_cover, law_triangle_unique}
use Rattle.facet_laws.proofs.Hands.{IsInnerIn, inner_in}
use Rattle.facet_laws.proofs.Insides.{Wall, wall_a, wall_b, wall_c, wall_holds, volume_above, middle_plane}
use Rattle.facet_laws.proofs.Meets.{within}
use Rattle.facet_laws.proofs.OnPiece.{zero_test, test_zero, test_leg, leg_test}
use Rattle.facet_laws.proofs.Pieces.{SameEnds, first_place, ends_of, ends_below, ends_differ, ends_leg, long_segment, on_cut, points_differ, all_sides_tested, leg_simplex, law_bounded}
use Rattle.facet_laws.proofs.SamePlane.{from_triangle, to_triangle}
use Rattle.facet_laws.proofs.Star.{IsNoPoint, star_at}
use Rattle.facet_laws.proofs.Threes.{law_facet_list}
use Rattle.facet_laws.proofs.Whole.{IsInnerAmong, pieced_among}
use lib.IntN.{zero-*ℤ, *ℤ-zero}

-- ---- a point on a segment lies on one of its pieces

on_some_piece : (ps : List Point) (segs : List Piece) (s r : Piece) (x : RationalPoint) → pos 0 <ℤ x.w → HasDistinctPoints ps → IsMember r segs → SameEnds r s → s.a < length ps → s.b < length ps → s.a ≢ s.b → is_on_piece ps s x ≡ true
    → is_on_piece_of ps segs x ≡ true
on_some_piece ps segs s r x w distinct stands ends la lb n e =
    let leg = test_leg (point ps s.a) (point ps s.b) x w e in
    let below = ends_below (length ps) r s ends la lb in
    let different = ends_differ r s ends n in
    let long = long_segment (point ps r.a) (point ps r.b) (points_differ ps distinct r.a r.b below.0 below.1 different) in
    let c = on_cut ps r x below.0 below.1 different long w (ends_leg ps s r x ends leg) in
    let g = first_place (piece c.p c.q 0) (flat_map (cut ps) segs) (in_flat_map (cut ps) r (piece c.p c.q 0) segs stands c.in_cut) in
    any_true (λ e. is_on_piece ps e x) (pieces ps segs) g.other g.stands (leg_test (point ps g.other.a) (point ps g.other.b) x (ends_leg ps (piece c.p c.q 0) g.other x g.ends c.leg))

-- ---- a point of an inner side lies in the hull of the plane's points

-- where u and v are along one line, and u is not 0, a plane that holds u's direction holds v's
along_plane : (n1 n2 n3 u1 u2 u3 v1 v2 v3 : ℤ) → u2 *ℤ v3 -ℤ u3 *ℤ v2 ≡ pos 0 → u3 *ℤ v1 -ℤ u1 *ℤ v3 ≡ pos 0 → u1 *ℤ v2 -ℤ u2 *ℤ v1 ≡ pos 0 → n1 *ℤ u1 +ℤ n2 *ℤ u2 +ℤ n3 *ℤ u3 ≡ pos 0
    → (u1 *ℤ u1 +ℤ u2 *ℤ u2 +ℤ u3 *ℤ u3) *ℤ (n1 *ℤ v1 +ℤ n2 *ℤ v2 +ℤ n3 *ℤ v3) ≡ pos 0
unfolding same
along_plane n1 n2 n3 u1 u2 u3 v1 v2 v3 e1 e2 e3 e =
    ring_given ((var 3 ⊗ var 3 ⊕ var 4 ⊗ var 4 ⊕ var 5 ⊗ var 5) ⊗ (var 0 ⊗ var 6 ⊕ var 1 ⊗ var 7 ⊕ var 2 ⊗ var 8)) (num (pos 0))
    (given (var 2 ⊗ var 4 ⊖ var 1 ⊗ var 5) (var 4 ⊗ var 8 ⊖ var 5 ⊗ var 7) (num (pos 0)) ∷ given (var 0 ⊗ var 5 ⊖ var 2 ⊗ var 3) (var 5 ⊗ var 6 ⊖ var 3 ⊗ var 8) (num (pos 0))
    ∷ given (var 1 ⊗ var 3 ⊖ var 0 ⊗ var 4) (var 3 ⊗ var 7 ⊖ var 4 ⊗ var 6) (num (pos 0)) ∷ given (var 3 ⊗ var 6 ⊕ var 4 ⊗ var 7 ⊕ var 5 ⊗ var 8) (var 0 ⊗ var 3 ⊕ var 1 ⊗ var 4 ⊕ var 2 ⊗ var 5) (num (pos 0)) ∷ [])
    tt (n1 ∷ n2 ∷ n3 ∷ u1 ∷ u2 ∷ u3 ∷ v1 ∷ v2 ∷ v3 ∷ []) (e1, (e2, (e3, (e, tt))))

-- the side of a point is that of another and the direction to it
side_part : (n1 n2 n3 o a1 a2 a3 p1 p2 p3 : ℤ) → n1 *ℤ (p1 -ℤ a1) +ℤ n2 *ℤ (p2 -ℤ a2) +ℤ n3 *ℤ (p3 -ℤ a3)
    ≡ (n1 *ℤ p1 +ℤ (n2 *ℤ p2 +ℤ (n3 *ℤ p3 +ℤ o *ℤ pos 1))) -ℤ (n1 *ℤ a1 +ℤ (n2 *ℤ a2 +ℤ (n3 *ℤ a3 +ℤ o *ℤ pos 1)))
unfolding same
side_part n1 n2 n3 o a1 a2 a3 p1 p2 p3 =
    ring_given (var 0 ⊗ (var 7 ⊖ var 4) ⊕ var 1 ⊗ (var 8 ⊖ var 5) ⊕ var 2 ⊗ (var 9 ⊖ var 6))
    ((var 0 ⊗ var 7 ⊕ (var 1 ⊗ var 8 ⊕ (var 2 ⊗ var 9 ⊕ var 3 ⊗ num (pos 1)))) ⊖ (var 0 ⊗ var 4 ⊕ (var 1 ⊗ var 5 ⊕ (var 2 ⊗ var 6 ⊕ var 3 ⊗ num (pos 1))))) [] tt
    (n1 ∷ n2 ∷ n3 ∷ o ∷ a1 ∷ a2 ∷ a3 ∷ p1 ∷ p2 ∷ p3 ∷ []) tt

direction : (g : Triangle) (a p : Point) → (normal g).x *ℤ (from_to a p).x +ℤ (normal g).y *ℤ (from_to a p).y +ℤ (normal g).z *ℤ (from_to a p).z ≡ side g p -ℤ side g a
direction g a p =
    side_part (normal g).x (normal g).y (normal g).z (offset g) a.x a.y a.z p.x p.y p.z
    ∙ (λ j. sym (side_rational-linear g (as_rational p)) j -ℤ sym (side_rational-linear g (as_rational a)) j)
    ∙ (λ j. side_rational-as_rational g p j -ℤ side_rational-as_rational g a j)

-- two points of a plane and one off it span a plane
pub spans_off : (g : Triangle) (a b c : Point) → side g a ≡ pos 0 → side g b ≡ pos 0 → a ≢ b → pos 0 <ℤ side g c → SpansPlane (record { a = a; b = b; c = c })
spans_off g a b c ga gb ends gc z =
    above_zero _ gc
    (back _ _ (sym (direction g a c)
    ∙ zero_of_mul _ _ (squares_above (from_to a b).x (from_to a b).y (from_to a b).z (λ e. ends (same_point a b e)))
    (along_plane (normal g).x (normal g).y (normal g).z (from_to a b).x (from_to a b).y (from_to a b).z (from_to a c).x (from_to a c).y (from_to a c).z z.0 z.1 z.2 (direction g a b ∙ none _ _ gb ga))) ga)
  where
    above_zero : (n : ℤ) → pos 0 <ℤ n → n ≡ pos 0 → ⊥
    above_zero n h e = omega (arith, ints)

    back : (m n : ℤ) → m -ℤ n ≡ pos 0 → n ≡ pos 0 → m ≡ pos 0
    back m n e f = omega (arith, ints)

    none : (m n : ℤ) → m ≡ pos 0 → n ≡ pos 0 → m -ℤ n ≡ pos 0
    none m n e f = omega (arith, ints)

    equal : (m n : ℤ) → n -ℤ m ≡ pos 0 → m ≡ n
    equal m n e = omega (arith, ints)

    same_point : (a b : Point) → ((from_to a b).x ≡ pos 0) × ((from_to a b).y ≡ pos 0) × ((from_to a b).z ≡ pos 0) → a ≡ b
    same_point a b e = λ j. record { x = equal a.x b.x e.0 j; y = equal a.y b.y e.1 j; z = equal a.z b.z e.2 j }

-- a point between two corners lies in their triangle with a third
with_third : (ps : List Point) (a b c : ℕ) (x : RationalPoint) → a ≢ c → b ≢ c → InSimplex ps (a ∷ b ∷ []) x → InSimplex ps (a ∷ b ∷ c ∷ []) x
with_third ps a b c x na nb (m, mean) = (
  n,
  record {
    some = subst (λ k. 0 < k) (sym total) mean.some;
    x_is = (λ j. sums (λ i. (point ps i).x) j *ℤ x.w) ∙ mean.x_is ∙ ap (λ k. x.x *ℤ pos k) (sym total);
    y_is = (λ j. sums (λ i. (point ps i).y) j *ℤ x.w) ∙ mean.y_is ∙ ap (λ k. x.y *ℤ pos k) (sym total);
    z_is = (λ j. sums (λ i. (point ps i).z) j *ℤ x.w) ∙ mean.z_is ∙ ap (λ k. x.z *ℤ pos k) (sym total);
  },
)
  where
    n : ℕ → ℕ
    n i = if i == c then 0 else m i

    n_a : n a ≡ m a
    n_a = ap (λ b. if b then 0 else m a) (ne_eqb a c na)

    n_b : n b ≡ m b
    n_b = ap (λ k. if k then 0 else m b) (ne_eqb b c nb)

    n_c : n c ≡ 0
    n_c = ap (λ b. if b then 0 else m c) (eq-eqb c c refl)

    total : sum_by n (a ∷ b ∷ c ∷ []) ≡ sum_by m (a ∷ b ∷ [])
    total = three (n a) (n b) (n c) (m a) (m b) n_a n_b n_c
      where
        three : (p q r s t : ℕ) → p ≡ s → q ≡ t → r ≡ 0 → 0 + p + q + r ≡ 0 + s + t
        three p q r s t e f g = omega arith

    sums : (f : ℕ → ℤ) → sum_by_weights n f (a ∷ b ∷ c ∷ []) ≡ sum_by_weights m f (a ∷ b ∷ [])
    sums f = (λ j. pos (n_a j) *ℤ f a +ℤ (pos (n_b j) *ℤ f b +ℤ (pos (n_c j) *ℤ f c +ℤ pos 0))) ∙ (λ j. pos (m a) *ℤ f a +ℤ (pos (m b) *ℤ f b +ℤ (zero-*ℤ (f c) j +ℤ pos 0)))

-- ---- no point of the plane

same_place : (m n t p v u c w : ℤ) → n ≡ pos 0 → m *ℤ p +ℤ n *ℤ v ≡ t *ℤ u → m *ℤ pos 1 +ℤ n *ℤ c ≡ t *ℤ w → t *ℤ (u *ℤ pos 1) ≡ t *ℤ (p *ℤ w)
unfolding same
same_place m n t p v u c w e f g =
    ring_given (var 2 ⊗ (var 5 ⊗ num (pos 1))) (var 2 ⊗ (var 3 ⊗ var 7))
    (given (var 4 ⊖ var 3 ⊗ var 6) (var 1) (num (pos 0)) ∷ given (neg (num (pos 1))) (var 0 ⊗ var 3 ⊕ var 1 ⊗ var 4) (var 2 ⊗ var 5) ∷ given (var 3) (var 0 ⊗ num (pos 1) ⊕ var 1 ⊗ var 6) (var 2 ⊗ var 7) ∷ [])
    tt (m ∷ n ∷ t ∷ p ∷ v ∷ u ∷ c ∷ w ∷ []) (e, (f, (g, tt)))

no_point : (ps : List Point) (f : Triangle) (x : RationalPoint) → pos 0 <ℤ x.w → ((i : ℕ) → i < length ps → ¬ SamePoint x (as_rational (point ps i))) → IsNoPoint ps f x
no_point ps f x xw apart i below flat c l e = apart i below (record { x_same = one x.x (point ps i).x c.x l.x_is; y_same = one x.y (point ps i).y c.y l.y_is; z_same = one x.z (point ps i).z c.z l.z_is })
  where
    one : (u p v : ℤ) → l.to_x *ℤ p +ℤ l.to_y *ℤ v ≡ l.total *ℤ u → u *ℤ pos 1 ≡ p *ℤ x.w
    one u p v h = cancel_mul l.total (u *ℤ pos 1) (p *ℤ x.w) l.some (same_place l.to_x l.to_y l.total p v u c.w x.w e h l.w_is)

-- ---- points near x on the side

-- all points are apart from the point v by less than this
reach : List Point → Point → ℕ
reach [] v = 1
reach (k ∷ ks) v = nat_abs (k.x -ℤ v.x) + nat_abs (k.y -ℤ v.y) + nat_abs (k.z -ℤ v.z) + 1 + reach ks v

reach_member : (ks : List Point) (k v : Point) → IsMember k ks → (nat_abs (k.x -ℤ v.x) < reach ks v) × (nat_abs (k.y -ℤ v.y) < reach ks v) × (nat_abs (k.z -ℤ v.z) < reach ks v)
unfolding reach
reach_member [] k v m = elim m [ ]
reach_member (_ ∷ ks) k v here = (omega arith, omega arith, omega arith)
reach_member (q ∷ ks) k v (there m) = let r = reach_member ks k v m in let a = r.0 in let b = r.1 in let c = r.2 in (omega arith, omega arith, omega arith)

-- where x and v differ in no coordinate by a point that the multiple of x and v is at, x is v
multiple_apart : (n : ℕ) (u p v w : ℤ) → nat_abs (p -ℤ v) < n → (pos n *ℤ u +ℤ v) *ℤ pos 1 ≡ p *ℤ (pos n *ℤ w +ℤ pos 1) → (u ≡ p *ℤ w) × (v ≡ p)
unfolding same
multiple_apart n u p v w l e = by_sign (u -ℤ p *ℤ w)
    (λ h. absurd (not_below _ (multiple_below n (u -ℤ p *ℤ w) (v -ℤ p) (turned l) h) cancel))
    (λ h. (equal _ _ h, last (v -ℤ p) v p (ap (λ k. pos n *ℤ k) h ∙ *ℤ-zero (pos n)) cancel refl))
    (λ h. absurd (not_above _ (multiple_above n (u -ℤ p *ℤ w) (v -ℤ p) (turned l) h) cancel))
  where
    cancel : pos n *ℤ (u -ℤ p *ℤ w) +ℤ (v -ℤ p) ≡ pos 0
    cancel = ring_given (var 0 ⊗ (var 1 ⊖ var 2 ⊗ var 4) ⊕ (var 3 ⊖ var 2)) (num (pos 0)) (given (num (pos 1)) ((var 0 ⊗ var 1 ⊕ var 3) ⊗ num (pos 1)) (var 2 ⊗ (var 0 ⊗ var 4 ⊕ num (pos 1))) ∷ []) tt
        (pos n ∷ u ∷ p ∷ v ∷ w ∷ []) (e, tt)

    turned : nat_abs (p -ℤ v) < n → nat_abs (v -ℤ p) < n
    turned l = omega (arith, ints)

    not_below : (m : ℤ) → m <ℤ pos 0 → m ≡ pos 0 → ⊥
    not_below m h k = omega (arith, ints)

    not_above : (m : ℤ) → pos 0 <ℤ m → m ≡ pos 0 → ⊥
    not_above m h k = omega (arith, ints)

    equal : (m n : ℤ) → m -ℤ n ≡ pos 0 → m ≡ n
    equal m n e = omega (arith, ints)

    last : (d v p : ℤ) {z : ℤ} → z ≡ pos 0 → z +ℤ d ≡ pos 0 → d ≡ v -ℤ p → v ≡ p
    last d v p e f g = omega (arith, ints)

-- a point of the leg from x to an end of the side, near x
near_leg : (n t k l a b x : ℤ) → k *ℤ a +ℤ l *ℤ b ≡ t *ℤ x → (pos 0 +ℤ n *ℤ k) *ℤ a +ℤ (n *ℤ l +ℤ t) *ℤ b ≡ t *ℤ (n *ℤ x +ℤ b)
unfolding same
near_leg n t k l a b x e =
    ring_given ((num (pos 0) ⊕ var 0 ⊗ var 2) ⊗ var 4 ⊕ (var 0 ⊗ var 3 ⊕ var 1) ⊗ var 5) (var 1 ⊗ (var 0 ⊗ var 6 ⊕ var 5))
    (given (var 0) (var 2 ⊗ var 4 ⊕ var 3 ⊗ var 5) (var 1 ⊗ var 6) ∷ []) tt (n ∷ t ∷ k ∷ l ∷ a ∷ b ∷ x ∷ []) (e, tt)

toward_end : (n : ℕ) (a b : Point) (x : RationalPoint) → IsWeightedMean (as_rational a) (as_rational b) x → IsWeightedMean (as_rational a) (as_rational b) (combined (pos n) x (as_rational b))
toward_end n a b x l = record {
  total = l.total;
  to_x = pos 0 +ℤ pos n *ℤ l.to_x;
  to_y = pos n *ℤ l.to_y +ℤ l.total;
  some = l.some;
  x_weighs = first _ (mul_nonneg (pos n) l.to_x (natural n) l.x_weighs);
  y_weighs = second _ _ (mul_nonneg (pos n) l.to_y (natural n) l.y_weighs) l.some;
  x_is = near_leg (pos n) l.total l.to_x l.to_y a.x b.x x.x l.x_is;
  y_is = near_leg (pos n) l.total l.to_x l.to_y a.y b.y x.y l.y_is;
  z_is = near_leg (pos n) l.total l.to_x l.to_y a.z b.z x.z l.z_is;
  w_is = near_leg (pos n) l.total l.to_x l.to_y (pos 1) (pos 1) x.w l.w_is;
}
  where
    natural : (n : ℕ) → pos 0 ≤ℤ pos n
    natural n = omega (arith, ints)

    first : (m : ℤ) → pos 0 ≤ℤ m → pos 0 ≤ℤ (pos 0 +ℤ m)
    first m h = omega (arith, ints)

    second : (m t : ℤ) → pos 0 ≤ℤ m → pos 0 <ℤ t → pos 0 ≤ℤ (m +ℤ t)
    second m t h k = omega (arith, ints)

-- an end of the side that x is not at
pub record OtherEnd (ps : List Point) (s : Piece) (x : RationalPoint) : Type 0 where
  pub u : ℕ
  pub v : ℕ
  pub leg : IsWeightedMean (as_rational (point ps u)) (as_rational (point ps v)) x
  pub apart : ¬ SamePoint x (as_rational (point ps v))
  pub back : (z : RationalPoint) → IsWeightedMean (as_rational (point ps u)) (as_rational (point ps v)) z → IsWeightedMean (as_rational (point ps s.a)) (as_rational (point ps s.b)) z

-- where x is at b and a weighs, a is b
at_far : (k l t a b x w : ℤ) → pos 0 <ℤ k → k *ℤ a +ℤ l *ℤ b ≡ t *ℤ x → k *ℤ pos 1 +ℤ l *ℤ pos 1 ≡ t *ℤ w → x *ℤ pos 1 ≡ b *ℤ w → a ≡ b
unfolding same
at_far k l t a b x w h e f g =
    cancel_mul k a b h
    (ring_given (var 0 ⊗ var 3) (var 0 ⊗ var 4)
    (given (num (pos 1)) (var 0 ⊗ var 3 ⊕ var 1 ⊗ var 4) (var 2 ⊗ var 5) ∷ given (neg (var 4)) (var 0 ⊗ num (pos 1) ⊕ var 1 ⊗ num (pos 1)) (var 2 ⊗ var 6) ∷ given (var 2) (var 5 ⊗ num (pos 1)) (var 4 ⊗ var 6) ∷ [])
    tt (k ∷ l ∷ t ∷ a ∷ b ∷ x ∷ w ∷ []) (e, (f, (g, tt))))

not_at_far : (a b : Point) (x : RationalPoint) → a ≢ b → (l : IsWeightedMean (as_rational a) (as_rational b) x) → pos 0 <ℤ l.to_x → ¬ SamePoint x (as_rational b)
not_at_far a b x differ l h e = differ (λ j. record {
  x = at_far l.to_x l.to_y l.total a.x b.x x.x x.w h l.x_is l.w_is e.x_same j;
  y = at_far l.to_x l.to_y l.total a.y b.y x.y x.w h l.y_is l.w_is e.y_same j;
  z = at_far l.to_x l.to_y l.total a.z b.z x.z x.w h l.z_is l.w_is e.z_same j;
})

other_end : (ps : List Point) (s : Piece) (x : RationalPoint) → pos 0 <ℤ x.w → point ps s.a ≢ point ps s.b → IsWeightedMean (as_rational (point ps s.a)) (as_rational (point ps s.b)) x → OtherEnd ps s x
other_end ps s x xw differ l = by_sign l.to_x (λ n. absurd (below _ l.x_weighs n))
    (λ e. record {
      u = s.b;
      v = s.a;
      leg = leg_back (as_rational (point ps s.a)) (as_rational (point ps s.b)) x l;
      apart = not_at_far (point ps s.b) (point ps s.a) x (λ d. differ (sym d)) (leg_back (as_rational (point ps s.a)) (as_rational (point ps s.b)) x l) (rest l.to_x l.to_y (l.total *ℤ x.w) l.w_is e (mul_pos l.total x.w l.some xw));
      back = λ z k. leg_back (as_rational (point ps s.b)) (as_rational (point ps s.a)) z k;
    })
    (λ g. record { u = s.a; v = s.b; leg = l; apart = not_at_far (point ps s.a) (point ps s.b) x differ l g; back = λ z k. k })
  where
    below : (n : ℤ) → pos 0 ≤ℤ n → n <ℤ pos 0 → ⊥
    below n h k = omega (arith, ints)

    rest : (m n t : ℤ) → m *ℤ pos 1 +ℤ n *ℤ pos 1 ≡ t → m ≡ pos 0 → pos 0 <ℤ t → pos 0 <ℤ n
    rest m n t e z h = omega (arith, ints)

-- the points near x on the way to that end are none of the list
near_apart : (ps : List Point) (n : ℕ) (x : RationalPoint) (v : Point) → reach ps v ≤ n → ¬ SamePoint x (as_rational v) → (i : ℕ) → i < length ps → ¬ SamePoint (combined (pos n) x (as_rational v)) (as_rational (point ps i))
near_apart ps n x v l apart i h e =
    let r = reach_member ps (point ps i) v (at_place ps i origin h) in
    let qx = multiple_apart n x.x (point ps i).x v.x x.w (less _ _ _ r.0 l) e.x_same in
    let qy = multiple_apart n x.y (point ps i).y v.y x.w (less _ _ _ r.1 l) e.y_same in
    let qz = multiple_apart n x.z (point ps i).z v.z x.w (less _ _ _ r.2 l) e.z_same in
    apart (record { x_same = one x.x ∙ qx.0 ∙ ap (λ k. k *ℤ x.w) (sym qx.1); y_same = one x.y ∙ qy.0 ∙ ap (λ k. k *ℤ x.w) (sym qy.1); z_same = one x.z ∙ qz.0 ∙ ap (λ k. k *ℤ x.w) (sym qz.1) })
  where
    less : (a b c : ℕ) → a < b → b ≤ c → a < c
    less a b c h k = omega arith

    one : (m : ℤ) → m *ℤ pos 1 ≡ m
    one m = omega (arith, ints)

-- a triangle that holds a point near x holds x
holds_near : (ps : List Point) (f : Triangle) (t : FacetTriangle) (n : ℕ) (x v : RationalPoint) → SpansPlane f → IsCircle ps t → LiesInPlane ps f t → pos 0 <ℤ x.w → pos 0 <ℤ v.w → side_rational f x ≡ pos 0 → size (walls_of ps t) v ≤ n
    → InSimplex ps (corner_numbers t) (combined (pos n) x v) → InSimplex ps (corner_numbers t) x
holds_near ps f t n x v sf c p xw vw flat l in_t =
    in_triangle ps t.a t.b t.c (circle_corners ps t) x (later t.a t.b c.first) (λ e. far t.a t.b t.c c.first c.second e) (later t.b t.c c.second) refl refl refl xw (volume_above ps t shape)
    (wall t.a (opposite_a (circle_corners ps t)) (wall_a refl) here) (wall t.b (opposite_b (circle_corners ps t)) (wall_b refl) (there here)) (wall t.c (opposite_c (circle_corners ps t)) (wall_c refl) (there (there here)))
    (to_triangle f (circle_triangle ps t) x sf (within ps f t p) flat)
  where
    shape : Shape ps t
    shape = shape_of ps t (among_all ps t c)

    later : (m n : ℕ) → m < n → n ≢ m
    later m n h e = omega arith

    far : (a b c : ℕ) → a < b → b < c → c ≡ a → ⊥
    far a b c h k e = omega arith

    less : (a b c : ℕ) → a < b → b ≤ c → a < c
    less a b c h k = omega arith

    not_below : (m : ℤ) → pos 0 ≤ℤ m → m <ℤ pos 0 → ⊥
    not_below m h k = omega (arith, ints)

    weak : (m : ℤ) → pos 0 <ℤ m → pos 0 ≤ℤ m
    weak m h = omega (arith, ints)

    zero : (m : ℤ) → m ≡ pos 0 → pos 0 ≤ℤ m
    zero m h = omega (arith, ints)

    near_w : pos 0 <ℤ (pos n *ℤ x.w +ℤ v.w)
    near_w = sum _ _ (mul_nonneg (pos n) x.w (natural n) (weak x.w xw)) vw
      where
        natural : (n : ℕ) → pos 0 ≤ℤ pos n
        natural n = omega (arith, ints)

        sum : (a b : ℤ) → pos 0 ≤ℤ a → pos 0 <ℤ b → pos 0 <ℤ (a +ℤ b)
        sum a b h k = omega (arith, ints)

    wall : (i : ℕ) (g : Triangle) → Wall ps t i g → IsMember g (walls_of ps t) → pos 0 ≤ℤ side_rational g x
    wall i g w m = by_sign (side_rational g x)
        (λ h. absurd (not_below _ (wall_holds ps t i g (combined (pos n) x v) near_w shape w in_t) (neg_same _ _ (side_rational-combined g (pos n) x v) (multiple_below n (side_rational g x) (side_rational g v) (less _ _ _ (size_member (walls_of ps t) g v m) l) h))))
        (λ e. zero _ e) (λ h. weak _ h)

-- of a list of triangles
all_walls : List Point → List FacetTriangle → RationalPoint → ℕ
all_walls ps [] v = 1
all_walls ps (t ∷ ts) v = size (walls_of ps t) v + all_walls ps ts v

walls_member : (ps : List Point) (ts : List FacetTriangle) (t : FacetTriangle) (v : RationalPoint) → IsMember t ts → size (walls_of ps t) v ≤ all_walls ps ts v
unfolding all_walls
walls_member ps [] t v m = elim m [ ]
walls_member ps (_ ∷ ts) t v here = omega arith
walls_member ps (q ∷ ts) t v (there m) = let r = walls_member ps ts t v m in omega arith

-- ---- the law

bounded_covers : (ps : List Point) (number : ℕ) (facet : Facet) (p : ℕ × ℕ × ℕ) (segs : List Piece) → HasDistinctPoints ps → AllByRecursion (λ i. i < length ps) (all_corners facet) → plane ps facet ≡ Some p → IsFlat ps facet → IsBounded ps segs facet → HavePieces ps segs
    → EachRational (λ x. in_region ps facet x ≡ true → is_on_piece_of ps segs x ≡ false → (t : FacetTriangle) × Contains (facet_triangles ps number facet) t × InSimplex ps (corner_numbers t) x)
bounded_covers ps number facet p segs distinct on_list has_plane is_flat bounded has x xw inside off = go (is_on_side ps facet x) refl
  where
    h : IsFacetProtected ps facet p
    h = law_bounded ps facet p segs distinct on_list has_plane is_flat bounded has

    never : true ≡ false → ⊥
    never e = cc

    spans : SpansPlane (through ps p)
    spans = plane_spans ps facet p has_plane

    all_flat : AllByRecursion (λ q. AllByRecursion (λ i. side (through ps p) (point ps i) ≡ pos 0) q) (areas facet)
    all_flat = all_map (IsPieced ps (through ps p) facet) (λ q. AllByRecursion (λ i. side (through ps p) (point ps i) ≡ pos 0) q) (areas facet) (λ q e. e.flat) h.pieced

    all_on : AllByRecursion (λ q. AllByRecursion (λ i. i < length ps) q) (areas facet)
    all_on = all_map (IsPieced ps (through ps p) facet) (λ q. AllByRecursion (λ i. i < length ps) q) (areas facet) (λ q e. e.on_list) h.pieced

    -- a point strictly within an inner side
    at_point : (q : List ℕ) → IsMember q (areas facet) → (s : Piece) → IsMember s (sides q) → IsInnerSide ps facet q s → (x : RationalPoint) → pos 0 <ℤ x.w → ((i : ℕ) → i < length ps → ¬ SamePoint x (as_rational (point ps i)))
        → IsWeightedMean (as_rational (point ps s.a)) (as_rational (point ps s.b)) x → (t : FacetTriangle) × Contains (facet_triangles ps number facet) t × InSimplex ps (corner_numbers t) x
    at_point q mq s ms i x xw apart part = (cover.0, (law_facet_list ps number facet cover.0).1 (facet_of ps number facet p cover.0 has_plane is_flat cover.1 cover.2 cover.3 in_middle), cover.4)
      where
        ends_on : (s.a < length ps) × (s.b < length ps)
        ends_on = all_at (λ s. (s.a < length ps) × (s.b < length ps)) s (sides q) (all_sides (λ i. i < length ps) q (all_at (λ q. AllByRecursion (λ i. i < length ps) q) q (areas facet) all_on mq)) ms

        q_flat : AllByRecursion (λ i. side (through ps p) (point ps i) ≡ pos 0) q
        q_flat = all_at (λ q. AllByRecursion (λ i. side (through ps p) (point ps i) ≡ pos 0) q) q (areas facet) all_flat mq

        ends_flat : (side (through ps p) (point ps s.a) ≡ pos 0) × (side (through ps p) (point ps s.b) ≡ pos 0)
        ends_flat = all_at (λ s. (side (through ps p) (point ps s.a) ≡ pos 0) × (side (through ps p) (point ps s.b) ≡ pos 0)) s (sides q) (all_sides (λ i. side (through ps p) (point ps i) ≡ pos 0) q q_flat) ms

        among : IsInnerAmong ps (through ps p) facet (all_numbers ps) q s
        among = record {
          inner = inner_in ps (through ps p) facet q s all_flat q_flat i;
          a_below = ends_on.0;
          b_below = ends_on.1;
          a_among = contains_below (length ps) s.a ends_on.0;
          b_among = contains_below (length ps) s.b ends_on.1;
        }

        above_not_zero : (n : ℤ) → pos 0 <ℤ n → n ≡ pos 0 → ⊥
        above_not_zero n h e = omega (arith, ints)

        hull : InFlatHull ps (through ps p) x
        hull = record {
          a = s.a;
          b = s.b;
          c = i.off;
          on_a = ends_on.0;
          on_b = ends_on.1;
          on_c = all_at (λ k. k < length ps) i.off q (all_at (λ q. AllByRecursion (λ i. i < length ps) q) q (areas facet) all_on mq) (member_of q i.off i.off_is);
          flat_a = ends_flat.0;
          flat_b = ends_flat.1;
          flat_c = all_at (λ k. side (through ps p) (point ps k) ≡ pos 0) i.off q q_flat (member_of q i.off i.off_is);
          spans = spans_off i.g (point ps s.a) (point ps s.b) (point ps i.off) i.a_on i.b_on i.ends i.off_line;
          holds = with_third ps s.a s.b i.off x (λ d. above_not_zero _ i.off_line (ap (λ k. side i.g (point ps k)) (sym d) ∙ i.a_on)) (λ d. above_not_zero _ i.off_line (ap (λ k. side i.g (point ps k)) (sym d) ∙ i.b_on))
              (leg_simplex ps s.a s.b x xw part);
        }

        cover : (t : FacetTriangle) × (t.facet ≡ number) × IsCircle ps t × LiesInPlane ps (through ps p) t × InSimplex ps (corner_numbers t) x
        cover = law_circle_cover ps (through ps p) number spans x xw hull

        in_middle : in_region ps facet (triangle_centroid (point ps cover.0.a) (point ps cover.0.b) (point ps cover.0.c)) ≡ true
        in_middle =
            region_is ps facet p (triangle_centroid (point ps cover.0.a) (point ps cover.0.b) (point ps cover.0.c)) has_plane
            ∙ (λ j. test_zero (side_rational (through ps p) (triangle_centroid (point ps cover.0.a) (point ps cover.0.b) (point ps cover.0.c)))
            (from_triangle (through ps p) (circle_triangle ps cover.0) (triangle_centroid (point ps cover.0.a) (point ps cover.0.b) (point ps cover.0.c)) spans cover.2.spans (within ps (through ps p) cover.0 cover.3) (middle_plane ps cover.0)) j
            && star_at ps facet (through ps p) (axis_of (normal (through ps p))) cover.0 spans (steep (normal (through ps p)) spans) all_on (pieced_among ps (through ps p) facet h.pieced) (among_all ps cover.0 cover.2) cover.3 x xw cover.4
            (no_point ps (through ps p) x xw apart) q mq s among part j)

    -- any point of it: the triangle of a point near it holds it too
    inner_case : (q : List ℕ) → IsMember q (areas facet) → (s : Piece) → IsMember s (sides q) → is_on_piece ps s x ≡ true → IsInnerSide ps facet q s → (t : FacetTriangle) × Contains (facet_triangles ps number facet) t × InSimplex ps (corner_numbers t) x
    inner_case q mq s ms e i = (
      near.0,
      near.1,
      holds_near ps (through ps p) near.0 n x (as_rational (point ps end.v)) spans circle.circle circle.lies xw one x_flat
          (most _ _ _ (walls_member ps (facet_triangles ps number facet) near.0 (as_rational (point ps end.v)) (member_of (facet_triangles ps number facet) near.0 near.1))) near.2,
    )
      where
        end : OtherEnd ps s x
        end = other_end ps s x xw i.ends (test_leg (point ps s.a) (point ps s.b) x xw e)

        n : ℕ
        n = all_walls ps (facet_triangles ps number facet) (as_rational (point ps end.v)) + reach ps (point ps end.v)

        one : pos 0 <ℤ pos 1
        one = omega (arith, ints)

        most : (a b c : ℕ) → a ≤ b → a ≤ b + c
        most a b c h = omega arith

        reach_most : reach ps (point ps end.v) ≤ n
        reach_most = second (all_walls ps (facet_triangles ps number facet) (as_rational (point ps end.v))) (reach ps (point ps end.v))
          where
            second : (a b : ℕ) → b ≤ a + b
            second a b = omega arith

        near_w : pos 0 <ℤ (pos n *ℤ x.w +ℤ pos 1)
        near_w = sum _ (mul_nonneg (pos n) x.w (natural n) (weak x.w xw))
          where
            natural : (n : ℕ) → pos 0 ≤ℤ pos n
            natural n = omega (arith, ints)

            weak : (m : ℤ) → pos 0 <ℤ m → pos 0 ≤ℤ m
            weak m h = omega (arith, ints)

            sum : (a : ℤ) → pos 0 ≤ℤ a → pos 0 <ℤ (a +ℤ pos 1)
            sum a h = omega (arith, ints)

        near : (t : FacetTriangle) × Contains (facet_triangles ps number facet) t × InSimplex ps (corner_numbers t) (combined (pos n) x (as_rational (point ps end.v)))
        near = at_point q mq s ms i (combined (pos n) x (as_rational (point ps end.v))) near_w (near_apart ps n x (point ps end.v) reach_most end.apart)
            (end.back (combined (pos n) x (as_rational (point ps end.v))) (toward_end n (point ps end.u) (point ps end.v) x end.leg))

        circle : Circle ps p near.0
        circle = circle_of ps number facet p near.0 has_plane ((law_facet_list ps number facet near.0).0 near.1)

        x_flat : side_rational (through ps p) x ≡ pos 0
        x_flat = zero_test (side_rational (through ps p) x) (both_true (is_zero (side_rational (through ps p) x)) (is_within ps (axis_of (normal (through ps p))) facet x) (sym (region_is ps facet p x has_plane) ∙ inside)).0

    go : (b : Bool) → is_on_side ps facet x ≡ b → (t : FacetTriangle) × Contains (facet_triangles ps number facet) t × InSimplex ps (corner_numbers t) x
    go false e = let t = law_region_cover ps number facet p h x xw inside e in (t.0, (law_facet_list ps number facet t.0).1 t.1, t.2)
    go true e = by (some_true (λ q. list_any (λ s. is_on_piece ps s x) (sides q)) (areas facet) e)
      where
        by : (q : List ℕ) × IsMember q (areas facet) × (list_any (λ s. is_on_piece ps s x) (sides q) ≡ true) → (t : FacetTriangle) × Contains (facet_triangles ps number facet) t × InSimplex ps (corner_numbers t) x
        by q = on_side (some_true (λ s. is_on_piece ps s x) (sides q.0) q.2)
          where
            on_side : (s : Piece) × IsMember s (sides q.0) × (is_on_piece ps s x ≡ true) → (t : FacetTriangle) × Contains (facet_triangles ps number facet) t × InSimplex ps (corner_numbers t) x
            on_side s = either_way (bounded q.0 (contains_of (areas facet) q.0 q.1) s.0 (contains_of (sides q.0) s.0 s.1))
              where
                either_way : IsAmongSegments segs s.0 ⊎ IsInnerSide ps facet q.0 s.0 → (t : FacetTriangle) × Contains (facet_triangles ps number facet) t × InSimplex ps (corner_numbers t) x
                either_way (inr i) = inner_case q.0 q.1 s.0 s.1 s.2 i
                either_way (inl r) =
                    let on = all_at (λ s. (s.a < length ps) × (s.b < length ps)) s.0 (sides q.0) (all_sides (λ i. i < length ps) q.0 (all_at (λ q. AllByRecursion (λ i. i < length ps) q) q.0 (areas facet) all_on q.1)) s.1 in
                    absurd (never (sym (on_some_piece ps segs s.0 r.0 x xw distinct (member_of segs r.0 r.1) (ends_of r.0 s.0 r.2) on.0 on.1 (all_at (λ s. s.a ≢ s.b) s.0 (sides q.0) (all_sides_tested q.0) s.1) s.2) ∙ off))

pub law_bounded_cover : BoundedCoverLaw
law_bounded_cover ps number facet p segs distinct on_list has_plane is_flat bounded has =
    let h = law_bounded ps facet p segs distinct on_list has_plane is_flat bounded has in
    record {
      inside = λ t c x w in_t. law_triangle_inside ps number facet p t h ((law_facet_list ps number facet t).0 c) x w in_t;
      covers = bounded_covers ps number facet p segs distinct on_list has_plane is_flat bounded has;
      once = λ s t cs ct x w in_s in_t off. law_triangle_unique ps number facet p s t h ((law_facet_list ps number facet s).0 cs) ((law_facet_list ps number facet t).0 ct) x w in_s in_t off;
    }
