-- What lies in boxes that are apart along an axis has no common point.
use Rattle.std.proofs.Common.{◌≡◌, ◌⊎◌, inl, inr, ℕ, ◌+◌, ◌<◌, ℤ, pos, ◌+ℤ◌, ◌*ℤ◌, ◌<ℤ◌, ◌≤ℤ◌, true, false, List, [], ◌∷◌, sym, subst, ◌∙◌, arith}
use Rattle.std.specs.Prelude.{Contains}
use Rattle.std.proofs.lemmas.Int.{ints}
use Rattle.exact_algebra.proofs.Ring.{var, ring, same, ◌⊕◌, ◌⊗◌}
use Rattle.exact_algebra.proofs.Signs.{mul_le, mul_lt, mul_pos, le_of_mul}
use Rattle.sign_predicates.specs.Point.{Point, RationalPoint, as_rational}
use Rattle.sign_predicates.specs.Centroid.{centroid}
use Rattle.sign_predicates.specs.Orientation.{side_rational, IsPositive, StrictlyInside, SpansPlane}
use Rattle.sign_predicates.specs.Meeting.{TriangleEnters}
use Rattle.geo_laws.specs.Delaunay.{point, corners, numbers}
use Rattle.geo_laws.specs.Facet.{corner_numbers, IsUncrossed}
use Rattle.geo_laws.specs.Path.{IsOnLeg}
use Rattle.geo_laws.specs.Simplex.{InSimplex, has_number}
use Rattle.geo_laws.specs.OrientedFace.{triangle}
use Rattle.geo_laws.specs.declared.tetrahedra.Tet.{Tet}
use Rattle.geo_laws.specs.declared.complex.FacetTriangle.{FacetTriangle}
use Rattle.geo_laws.proofs.Members.{IsMember}
use Rattle.geo_laws.proofs.General.{closed_of}
use Rattle.geo_laws.proofs.Places.{at_face}
use Rattle.geo_laws.proofs.Radical.{sides_mean}
use Rattle.simplex_meets.proofs.Along.{sum_most, sum_least}
use Rattle.simplex_meets.proofs.Step.{Coordinate, X, Y, Z, at, coordinate, mean_of, sum}
use Rattle.simplex_meets.proofs.Sums.{total}
use Rattle.crossing_laws.proofs.Tests.{decided}
use Rattle.tangle_laws.specs.Tangle.{facet_face}
use Rattle.tangle_laws.specs.Hidden.{hides}
use Rattle.tangle_laws.proofs.Between.{law_hides}
use Rattle.tangle_laws.proofs.Counted.{centroid_inside, centroid_w}
use Rattle.box_tree.specs.declared.bounds.Interval.{Interval}
use Rattle.box_tree.specs.declared.bounds.Bounds.{Bounds}
use Rattle.box_tree.specs.Bounds.{IsIn, AreDisjoint, AreBoundsApart, HoldsPoint, HoldsCorners, HoldsQuotient, HoldsRational}
use Rattle.tangle_fill.specs.Fill.{AreFacetTriangles}
use Rattle.tangle_fill.proofs.Entered.{of_simplex, to_simplex, enters_none}

-- ---- quotients in intervals

swap : (a b : ℤ) → a *ℤ b ≡ b *ℤ a
unfolding same
swap a b = ring (var 0 ⊗ var 1) (var 1 ⊗ var 0) tt (a ∷ b ∷ [])

turned : (w b t : ℤ) → w *ℤ (b *ℤ t) ≡ t *ℤ (b *ℤ w)
unfolding same
turned w b t = ring (var 0 ⊗ (var 1 ⊗ var 2)) (var 2 ⊗ (var 1 ⊗ var 0)) tt (w ∷ b ∷ t ∷ [])

le_at : (p q x y : ℤ) → p ≤ℤ q → p ≡ x → q ≡ y → x ≤ℤ y
le_at p q x y h d e = omega (arith, ints)

weak : (w : ℤ) → pos 0 <ℤ w → pos 0 ≤ℤ w
weak w h = omega (arith, ints)

-- c over w is s over t
most : (t c s w b : ℤ) → pos 0 <ℤ t → pos 0 <ℤ w → s *ℤ w ≡ c *ℤ t → s ≤ℤ (b *ℤ t) → c ≤ℤ (b *ℤ w)
most t c s w b ht hw e h = le_of_mul t c (b *ℤ w) ht (le_at (w *ℤ s) (w *ℤ (b *ℤ t)) (t *ℤ c) (t *ℤ (b *ℤ w)) (mul_le w s (b *ℤ t) (weak w hw) h) (swap w s ∙ e ∙ swap c t) (turned w b t))

least : (t c s w b : ℤ) → pos 0 <ℤ t → pos 0 <ℤ w → s *ℤ w ≡ c *ℤ t → (b *ℤ t) ≤ℤ s → (b *ℤ w) ≤ℤ c
least t c s w b ht hw e h = le_of_mul t (b *ℤ w) c ht (le_at (w *ℤ (b *ℤ t)) (w *ℤ s) (t *ℤ (b *ℤ w)) (t *ℤ c) (mul_le w (b *ℤ t) s (weak w hw) h) (turned w b t) (swap w s ∙ e ∙ swap c t))

beside : (a b x w : ℤ) → pos 0 <ℤ w → a <ℤ b → x ≤ℤ (a *ℤ w) → (b *ℤ w) ≤ℤ x → ⊥
beside a b x w hw h p q = clash (a *ℤ w) (b *ℤ w) (w *ℤ a) (w *ℤ b) p q (mul_lt w a b hw h) (swap a w) (swap b w)
  where
    clash : (k m n o : ℤ) → x ≤ℤ k → m ≤ℤ x → n <ℤ o → k ≡ n → m ≡ o → ⊥
    clash k m n o p q l d e = omega (arith, ints)

-- two intervals with a common number are not apart
common : (i j : Interval) (x w : ℤ) → pos 0 <ℤ w → HoldsQuotient i x w → HoldsQuotient j x w → AreDisjoint i j → ⊥
common i j x w hw p q (inl h) = beside i.high j.low x w hw h p.1 q.0
common i j x w hw p q (inr h) = beside j.high i.low x w hw h q.1 p.0

-- two boxes with a common point are not apart
pub common_point : (b c : Bounds) (x : RationalPoint) → pos 0 <ℤ x.w → HoldsRational b x → HoldsRational c x → AreBoundsApart b c → ⊥
common_point b c x w p q (inl h) = common b.x c.x x.x x.w w p.x q.x h
common_point b c x w p q (inr (inl h)) = common b.y c.y x.y x.w w p.y q.y h
common_point b c x w p q (inr (inr h)) = common b.z c.z x.z x.w w p.z q.z h

-- ---- points in boxes

round_along : (ps : List Point) (s : List ℕ) (k : Coordinate) (i : Interval) → ((j : ℕ) → has_number s j ≡ true → IsIn i (at ps k j)) → (x : RationalPoint) → pos 0 <ℤ x.w → InSimplex ps s x → HoldsQuotient i (coordinate x k) x.w
round_along ps s k i h x hw (w, m) =
    let q = mean_of ps s w x m in (
      least (total w s) (coordinate x k) (sum ps w s k) x.w i.low q.some hw (q.is k) (sum_least w (at ps k) i.low s (λ j n. (h j n).0)),
      most (total w s) (coordinate x k) (sum ps w s k) x.w i.high q.some hw (q.is k) (sum_most w (at ps k) i.high s (λ j n. (h j n).1)),
    )

-- a box round the corners of a simplex holds its points
pub held_simplex : (ps : List Point) (s : List ℕ) (b : Bounds) (x : RationalPoint) → pos 0 <ℤ x.w → HoldsCorners ps s b → InSimplex ps s x → HoldsRational b x
held_simplex ps s b x w h i = record {
  x = round_along ps s X b.x (λ j n. (h j n).x) x w i;
  y = round_along ps s Y b.y (λ j n. (h j n).y) x w i;
  z = round_along ps s Z b.z (λ j n. (h j n).z) x w i;
}

-- a box round the corners of a row holds what is strictly inside
pub held_inside : (ps : List Point) (t : Tet) (b : Bounds) (x : RationalPoint) → pos 0 <ℤ x.w → IsPositive (corners ps t) → HoldsCorners ps (numbers t) b → StrictlyInside (corners ps t) x → HoldsRational b x
held_inside ps t b x w p h inside =
    let m = sides_mean ps t x p (mul_pos _ _ p w) (at_face (λ f. pos 0 ≤ℤ side_rational f x) (corners ps t) (closed_of (corners ps t) x inside)) in
    held_simplex ps (numbers t) b x w h (m.weight, m.mean)

point_along : (i : Interval) (x : ℤ) → IsIn i x → HoldsQuotient i x (pos 1)
point_along i x h = go i.low i.high h
  where
    go : (l u : ℤ) → (l ≤ℤ x) × (x ≤ℤ u) → ((l *ℤ pos 1) ≤ℤ x) × (x ≤ℤ (u *ℤ pos 1))
    go l u h = (omega (arith, ints), omega (arith, ints))

pub held_point : (b : Bounds) (p : Point) → HoldsPoint b p → HoldsRational b (as_rational p)
held_point b p h = record { x = point_along b.x p.x h.x; y = point_along b.y p.y h.y; z = point_along b.z p.z h.z }

positive_sum : (m n : ℕ) (a b : ℤ) → 0 < m + n → pos 0 <ℤ a → pos 0 <ℤ b → pos 0 <ℤ (pos m *ℤ a +ℤ pos n *ℤ b)
positive_sum m n a b h ha hb = go (pos m *ℤ pos 1) (pos n *ℤ pos 1) (pos m *ℤ a) (pos n *ℤ b) (once (pos m)) (once (pos n)) (mul_le (pos m) (pos 1) a (natural m) (one a ha)) (mul_le (pos n) (pos 1) b (natural n) (one b hb))
  where
    natural : (k : ℕ) → pos 0 ≤ℤ pos k
    natural k = omega (arith, ints)

    one : (a : ℤ) → pos 0 <ℤ a → pos 1 ≤ℤ a
    one a h = omega (arith, ints)

    once : (a : ℤ) → a *ℤ pos 1 ≡ a
    once a = omega (arith, ints)

    go : (p q x y : ℤ) → p ≡ pos m → q ≡ pos n → p ≤ℤ x → q ≤ℤ y → pos 0 <ℤ (x +ℤ y)
    go p q x y d e k l = omega (arith, ints)

spread : (b m n p q : ℤ) → b *ℤ (m *ℤ p +ℤ n *ℤ q) ≡ m *ℤ (b *ℤ p) +ℤ n *ℤ (b *ℤ q)
unfolding same
spread b m n p q = ring (var 0 ⊗ (var 1 ⊗ var 3 ⊕ var 2 ⊗ var 4)) (var 1 ⊗ (var 0 ⊗ var 3) ⊕ var 2 ⊗ (var 0 ⊗ var 4)) tt (b ∷ m ∷ n ∷ p ∷ q ∷ [])

leg_along : (i : Interval) (m n : ℕ) (x v y w z u : ℤ) → 0 < m + n → pos 0 <ℤ v → pos 0 <ℤ w → pos 0 <ℤ u → HoldsQuotient i x v → HoldsQuotient i y w
    → z *ℤ (pos m *ℤ v +ℤ pos n *ℤ w) ≡ u *ℤ (pos m *ℤ x +ℤ pos n *ℤ y) → HoldsQuotient i z u
leg_along i m n x v y w z u h hv hw hu p q e = (
  least t z s u i.low above hu is (low (i.low *ℤ t) (pos m *ℤ (i.low *ℤ v)) (pos n *ℤ (i.low *ℤ w)) (pos m *ℤ x) (pos n *ℤ y) (spread i.low (pos m) (pos n) v w) (mul_le (pos m) (i.low *ℤ v) x (natural m) p.0) (mul_le (pos n) (i.low *ℤ w) y (natural n) q.0)),
  most t z s u i.high above hu is (high (i.high *ℤ t) (pos m *ℤ (i.high *ℤ v)) (pos n *ℤ (i.high *ℤ w)) (pos m *ℤ x) (pos n *ℤ y) (spread i.high (pos m) (pos n) v w) (mul_le (pos m) x (i.high *ℤ v) (natural m) p.1) (mul_le (pos n) y (i.high *ℤ w) (natural n) q.1)),
)
  where
    t : ℤ
    t = pos m *ℤ v +ℤ pos n *ℤ w

    s : ℤ
    s = pos m *ℤ x +ℤ pos n *ℤ y

    above : pos 0 <ℤ (pos m *ℤ v +ℤ pos n *ℤ w)
    above = positive_sum m n v w h hv hw

    is : (pos m *ℤ x +ℤ pos n *ℤ y) *ℤ u ≡ z *ℤ (pos m *ℤ v +ℤ pos n *ℤ w)
    is = swap (pos m *ℤ x +ℤ pos n *ℤ y) u ∙ sym e

    natural : (k : ℕ) → pos 0 ≤ℤ pos k
    natural k = omega (arith, ints)

    low : (a b c d e : ℤ) → a ≡ b +ℤ c → b ≤ℤ d → c ≤ℤ e → a ≤ℤ (d +ℤ e)
    low a b c d e f g h = omega (arith, ints)

    high : (a b c d e : ℤ) → a ≡ b +ℤ c → d ≤ℤ b → e ≤ℤ c → (d +ℤ e) ≤ℤ a
    high a b c d e f g h = omega (arith, ints)

-- a box that holds both ends of a leg holds the leg
pub held_leg : (b : Bounds) (x y z : RationalPoint) → pos 0 <ℤ x.w → pos 0 <ℤ y.w → pos 0 <ℤ z.w → HoldsRational b x → HoldsRational b y → IsOnLeg x y z → HoldsRational b z
held_leg b x y z xw yw zw p q (m, n, some, ex, ey, ez) = record {
  x = leg_along b.x m n x.x x.w y.x y.w z.x z.w some xw yw zw p.x q.x ex;
  y = leg_along b.y m n x.y x.w y.y y.w z.y z.w some xw yw zw p.y q.y ey;
  z = leg_along b.z m n x.z x.w y.z y.w z.z z.w some xw yw zw p.z q.z ez;
}

-- ---- triangles and rows

-- a triangle does not enter a row whose box is apart from its own
pub not_entering : (ps : List Point) (t : Tet) (k : FacetTriangle) (b c : Bounds) → SpansPlane (triangle ps (facet_face k)) → IsPositive (corners ps t) → HoldsCorners ps (corner_numbers k) b → HoldsCorners ps (numbers t) c → AreBoundsApart b c
    → ¬ TriangleEnters (corners ps t) (triangle ps (facet_face k))
not_entering ps t k b c spans p hk ht apart (x, w, (inside, on)) =
    common_point b c x w (held_simplex ps (corner_numbers k) b x w hk (to_simplex ps k spans x on)) (held_inside ps t c x w p ht inside) apart

-- nor does it stand between the centroid and a point, where its box is apart from a box round the row and the point
pub not_hiding : (ps : List Point) (ts : List FacetTriangle) (t : Tet) (i : ℕ) (k : FacetTriangle) (b c : Bounds) → IsMember k ts → SpansPlane (triangle ps (facet_face k)) → IsPositive (corners ps t) → IsUncrossed ps ts t
    → HoldsCorners ps (corner_numbers k) b → HoldsCorners ps (numbers t) c → HoldsPoint c (point ps i) → AreBoundsApart b c → hides (triangle ps (facet_face k)) (centroid (corners ps t)) (as_rational (point ps i)) ≡ false
not_hiding ps ts t i k b c m spans p free hk ht hp apart = go (decided (hides (triangle ps (facet_face k)) x y))
  where
    x : RationalPoint
    x = centroid (corners ps t)

    y : RationalPoint
    y = as_rational (point ps i)

    y_w : pos 0 <ℤ pos 1
    y_w = omega (arith, ints)

    off : ¬ InSimplex ps (corner_numbers k) (centroid (corners ps t))
    off s = enters_none ps ts t k m spans free (centroid (corners ps t), centroid_w (corners ps t), (centroid_inside (corners ps t) p, of_simplex ps k (centroid (corners ps t)) s))

    go : (hides (triangle ps (facet_face k)) (centroid (corners ps t)) (as_rational (point ps i)) ≡ true) ⊎ (hides (triangle ps (facet_face k)) (centroid (corners ps t)) (as_rational (point ps i)) ≡ false)
        → hides (triangle ps (facet_face k)) (centroid (corners ps t)) (as_rational (point ps i)) ≡ false
    go (inr h) = h
    go (inl h) =
        let z = (law_hides ps k spans (centroid (corners ps t)) (as_rational (point ps i)) (centroid_w (corners ps t)) y_w off).1 h in
        absurd (common_point b c z.0 z.1 (held_simplex ps (corner_numbers k) b z.0 z.1 hk z.2.3)
        (held_leg c (centroid (corners ps t)) (as_rational (point ps i)) z.0 (centroid_w (corners ps t)) y_w z.1
        (held_inside ps t c (centroid (corners ps t)) (centroid_w (corners ps t)) p ht (centroid_inside (corners ps t) p)) (held_point c (point ps i) hp) z.2.0) apart)

pub spans_of : (ps : List Point) (ts : List FacetTriangle) → AreFacetTriangles ps ts → (k : FacetTriangle) → Contains ts k → SpansPlane (triangle ps (facet_face k))
spans_of ps ts facets k m = subst (λ (k : FacetTriangle). SpansPlane (triangle ps (facet_face k))) m.2 (facets.spans m.0 k m.1)
