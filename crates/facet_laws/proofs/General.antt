-- General position in a circle triangle: a point strictly inside and off finitely many planes, and the point beyond another from it.
use Rattle.std.proofs.Common.{◌≡◌, ◌≢◌, ◌⊎◌, inl, inr, ℕ, nat_abs, ◌+◌, ◌<◌, ◌≤◌, ℤ, pos, neg_ℤ, ◌+ℤ◌, ◌*ℤ◌, ◌<ℤ◌, ◌≤ℤ◌, List, [], ◌∷◌, refl, ap, sym, subst, ◌∙◌, arith}
use Rattle.std.specs.List.{AllByRecursion}
use Rattle.std.proofs.lemmas.Int.{ints}
use Rattle.exact_algebra.proofs.Ring.{neg, ring, same}
use Rattle.exact_algebra.proofs.Signs.{by_sign, zero_or_not, zero_of_mul, mul_pos, mul_nonneg, multiple_above, multiple_below, pos_same, neg_same}
use Rattle.sign_predicates.specs.Point.{Point, RationalPoint, as_rational}
use Rattle.sign_predicates.specs.Orientation.{Triangle, SpansPlane, det, orient_rational, side, side_rational, opposite_a, opposite_b, opposite_c, opposite_d, volume}
use Rattle.sign_predicates.proofs.Places.{A, B, C, D, corner, side-other}
use Rattle.sign_predicates.proofs.Terms.{RationalE, triangleE, rationalE, of_triangle, of_rational, side_rationalE}
use Rattle.geo_laws.specs.Delaunay.{point}
use Rattle.geo_laws.specs.Facet.{corner_numbers}
use Rattle.geo_laws.specs.Laws.{KeepsSide}
use Rattle.geo_laws.specs.declared.complex.FacetTriangle.{FacetTriangle}
use Rattle.geo_laws.proofs.Determinants.{combined, side_rational-combined, side_rational-as_rational, weights-side}
use Rattle.geo_laws.proofs.Members.{IsMember, here, there}
use Rattle.facet_laws.specs.Circle.{circle_triangle}
use Rattle.facet_laws.specs.Legs.{IsWeightedMean}
use Rattle.facet_laws.proofs.Circles.{Shape, circle_corners}
use Rattle.facet_laws.proofs.Constant.{IsInside, middle, middle_is_inside}
use Rattle.facet_laws.proofs.Insides.{Wall, wall_a, wall_b, wall_c, wall_least, volume_above}
use lib.IntN.{*ℤ-zero, zero-*ℤ}

abbrev pub IsOffPlanes : List Triangle → RationalPoint → Type 0
IsOffPlanes gs y = AllByRecursion (λ g. side_rational g y ≢ pos 0) gs

-- some corner of the triangle is off the plane
abbrev pub HasOff : List Point → FacetTriangle → Triangle → Type 0
HasOff ps t g = (v : ℕ) × IsMember v (corner_numbers t) × (side g (point ps v) ≢ pos 0)

-- where a point in the triangle's plane is off another plane, so is some corner
pub corner_off : (ps : List Point) (t : FacetTriangle) (g : Triangle) (p : Point) → Shape ps t → side (circle_triangle ps t) p ≡ pos 0 → side g p ≢ pos 0 → HasOff ps t g
corner_off ps t g p h flat off = go (zero_or_not (side g (point ps t.a))) (zero_or_not (side g (point ps t.b))) (zero_or_not (side g (point ps t.c)))
  where
    none : side g (point ps t.a) ≡ pos 0 → side g (point ps t.b) ≡ pos 0 → side g (point ps t.c) ≡ pos 0 → ⊥
    none a b c =
        off (sym (side_rational-as_rational g p)
        ∙ zero_of_mul (volume (circle_corners ps t)) (side_rational g (as_rational p)) (volume_above ps t h)
        (sym (weights-side (circle_corners ps t) g (as_rational p))
        ∙ (λ j. side_rational (opposite_a (circle_corners ps t)) (as_rational p) *ℤ a j +ℤ side_rational (opposite_b (circle_corners ps t)) (as_rational p) *ℤ b j
        +ℤ side_rational (opposite_c (circle_corners ps t)) (as_rational p) *ℤ c j +ℤ (side_rational-as_rational (opposite_d (circle_corners ps t)) p ∙ flat) j *ℤ side g (corner (circle_corners ps t) D))
        ∙ zeros (side_rational (opposite_a (circle_corners ps t)) (as_rational p)) (side_rational (opposite_b (circle_corners ps t)) (as_rational p)) (side_rational (opposite_c (circle_corners ps t)) (as_rational p)) (side g (corner (circle_corners ps t) D))))
      where
        zeros : (a b c d : ℤ) → a *ℤ pos 0 +ℤ b *ℤ pos 0 +ℤ c *ℤ pos 0 +ℤ pos 0 *ℤ d ≡ pos 0
        zeros a b c d = (λ j. *ℤ-zero a j +ℤ *ℤ-zero b j +ℤ *ℤ-zero c j +ℤ zero-*ℤ d j)

    go : (side g (point ps t.a) ≡ pos 0) ⊎ (side g (point ps t.a) ≢ pos 0) → (side g (point ps t.b) ≡ pos 0) ⊎ (side g (point ps t.b) ≢ pos 0) → (side g (point ps t.c) ≡ pos 0) ⊎ (side g (point ps t.c) ≢ pos 0) → HasOff ps t g
    go (inr n) _ _ = (t.a, here, n)
    go (inl a) (inr n) _ = (t.b, there here, n)
    go (inl a) (inl b) (inr n) = (t.c, there (there here), n)
    go (inl a) (inl b) (inl c) = absurd (none a b c)

-- ---- large multiples

pub size : List Triangle → RationalPoint → ℕ
size [] v = 1
size (g ∷ gs) v = nat_abs (side_rational g v) + 1 + size gs v

pub size_member : (gs : List Triangle) (g : Triangle) (v : RationalPoint) → IsMember g gs → nat_abs (side_rational g v) < size gs v
unfolding size
size_member [] g v m = elim m [ ]
size_member (_ ∷ gs) g v here = omega arith
size_member (q ∷ gs) g v (there m) = let r = size_member gs g v m in omega arith

-- a large multiple of a point off a plane, and another point
kept : (g : Triangle) (n : ℕ) (y v : RationalPoint) → nat_abs (side_rational g v) < n → side_rational g y ≢ pos 0 → side_rational g (combined (pos n) y v) ≢ pos 0
kept g n y v l off e = by_sign (side_rational g y)
    (λ h. below _ _ (side_rational-combined g (pos n) y v) e (multiple_below n (side_rational g y) (side_rational g v) l h)) off
    (λ h. above _ _ (side_rational-combined g (pos n) y v) e (multiple_above n (side_rational g y) (side_rational g v) l h))
  where
    below : (a b : ℤ) → a ≡ b → a ≡ pos 0 → b <ℤ pos 0 → ⊥
    below a b e f h = omega (arith, ints)

    above : (a b : ℤ) → a ≡ b → a ≡ pos 0 → pos 0 <ℤ b → ⊥
    above a b e f h = omega (arith, ints)

all_kept : (gs : List Triangle) (n : ℕ) (y v : RationalPoint) → size gs v ≤ n → IsOffPlanes gs y → IsOffPlanes gs (combined (pos n) y v)
unfolding size
all_kept [] n y v l off = tt
all_kept (g ∷ gs) n y v l off = (kept g n y v (omega arith) off.0, all_kept gs n y v (omega arith) off.1)

size_some : (gs : List Triangle) (v : RationalPoint) → 0 < size gs v
unfolding size
size_some [] v = omega arith
size_some (g ∷ gs) v = omega arith

pub pos_natural : (n : ℕ) → 0 < n → pos 0 <ℤ pos n
pos_natural n h = omega (arith, ints)

-- a multiple of a point strictly inside, and a corner
inside_toward : (ps : List Point) (t : FacetTriangle) (n v : ℕ) (y : RationalPoint) → Shape ps t → 0 < n → IsMember v (corner_numbers t) → side (circle_triangle ps t) (point ps v) ≡ pos 0 → IsInside ps t y
    → IsInside ps t (combined (pos n) y (as_rational (point ps v)))
inside_toward ps t n v y h some m flat i = record {
  w = sum _ _ (mul_pos (pos n) y.w (pos_natural n some) i.w) (omega (arith, ints));
  flat = side_rational-combined (circle_triangle ps t) (pos n) y (as_rational (point ps v)) ∙ (λ j. pos n *ℤ i.flat j +ℤ (side_rational-as_rational (circle_triangle ps t) (point ps v) ∙ flat) j) ∙ zeros (pos n);
  walls = λ u g w. subst (λ k. pos 0 <ℤ k) (sym (side_rational-combined g (pos n) y (as_rational (point ps v))))
      (sum _ _ (mul_pos (pos n) (side_rational g y) (pos_natural n some) (i.walls u g w)) (subst (λ k. pos 0 ≤ℤ k) (sym (side_rational-as_rational g (point ps v))) (wall_least ps t u g h w v m)));
}
  where
    sum : (a b : ℤ) → pos 0 <ℤ a → pos 0 ≤ℤ b → pos 0 <ℤ (a +ℤ b)
    sum a b h k = omega (arith, ints)

    zeros : (n : ℤ) → n *ℤ pos 0 +ℤ pos 0 ≡ pos 0
    zeros n = (λ j. *ℤ-zero n j +ℤ pos 0)

pub own_plane : (ps : List Point) (t : FacetTriangle) (i : ℕ) → IsMember i (corner_numbers t) → side (circle_triangle ps t) (point ps i) ≡ pos 0
own_plane ps t i here = side-other (circle_corners ps t) D A tt
own_plane ps t i (there here) = side-other (circle_corners ps t) D B tt
own_plane ps t i (there (there here)) = side-other (circle_corners ps t) D C tt
own_plane ps t i (there (there (there m))) = elim m [ ]

-- a point strictly inside the triangle and off the planes
pub general : (ps : List Point) (t : FacetTriangle) (gs : List Triangle) → Shape ps t → AllByRecursion (HasOff ps t) gs → (y : RationalPoint) × IsInside ps t y × IsOffPlanes gs y
general ps t [] h p = (middle ps t, middle_is_inside ps t h, tt)
general ps t (g ∷ gs) h p = go (general ps t gs h p.1)
  where
    go : (y : RationalPoint) × IsInside ps t y × IsOffPlanes gs y → (y : RationalPoint) × IsInside ps t y × IsOffPlanes (g ∷ gs) y
    go s = by (zero_or_not (side_rational g s.0))
      where
        v : ℕ
        v = p.0.0

        n : ℕ
        n = size gs (as_rational (point ps p.0.0))

        only_second : (n a b t : ℤ) → t ≡ n *ℤ a +ℤ b → a ≡ pos 0 → b ≡ t
        only_second n a b t e z = second (n *ℤ a) b t e (ap (λ q. n *ℤ q) z ∙ *ℤ-zero n)
          where
            second : (m b t : ℤ) → t ≡ m +ℤ b → m ≡ pos 0 → b ≡ t
            second m b t e z = omega (arith, ints)

        by : (side_rational g s.0 ≡ pos 0) ⊎ (side_rational g s.0 ≢ pos 0) → (y : RationalPoint) × IsInside ps t y × IsOffPlanes (g ∷ gs) y
        by (inr off) = (s.0, s.1, (off, s.2))
        by (inl e) = (
          combined (pos n) s.0 (as_rational (point ps v)),
          inside_toward ps t n v s.0 h (size_some gs (as_rational (point ps v))) p.0.1 (own_plane ps t v p.0.1) s.1,
          (
            (λ c. p.0.2 (sym (side_rational-as_rational g (point ps v)) ∙ only_second (pos n) (side_rational g s.0) (side_rational g (as_rational (point ps v))) _ (side_rational-combined g (pos n) s.0 (as_rational (point ps v))) e ∙ c)),
            all_kept gs n s.0 (as_rational (point ps v)) (omega arith) s.2,
          ),
        )

-- ---- the point beyond m from y

abbrev negated : RationalPoint → RationalPoint
negated y = record { x = neg_ℤ y.x; y = neg_ℤ y.y; z = neg_ℤ y.z; w = neg_ℤ y.w }

side-negated : (g : Triangle) (y : RationalPoint) → side_rational g (negated y) ≡ neg_ℤ (side_rational g y)
unfolding same det orient_rational
side-negated g y = ring (side_rationalE (triangleE 0) negatedE) (neg (side_rationalE (triangleE 0) (rationalE 9))) tt (of_triangle g (of_rational y []))
  where
    negatedE : RationalE
    negatedE = record { x = neg (rationalE 9).x; y = neg (rationalE 9).y; z = neg (rationalE 9).z; w = neg (rationalE 9).w }

-- a point of a triangle or of one side of it, and another point: where the first is on a wall, the second is beyond that
abbrev pub IsFacing : List Point → FacetTriangle → RationalPoint → RationalPoint → Type 0
IsFacing ps t m y = (v : ℕ) (g : Triangle) → Wall ps t v g → (pos 0 <ℤ side_rational g m) ⊎ ((side_rational g m ≡ pos 0) × (side_rational g y <ℤ pos 0))

-- from y beyond m, strictly inside the triangle and off the planes
pub record IsOpposite (ps : List Point) (t : FacetTriangle) (gs : List Triangle) (m y x : RationalPoint) : Type 0 where
  pub inside : IsInside ps t x
  pub off : IsOffPlanes gs x
  pub times : ℕ
  pub some : 0 < times
  pub x_is : pos 1 *ℤ x.x +ℤ pos 1 *ℤ y.x ≡ pos times *ℤ m.x
  pub y_is : pos 1 *ℤ x.y +ℤ pos 1 *ℤ y.y ≡ pos times *ℤ m.y
  pub z_is : pos 1 *ℤ x.z +ℤ pos 1 *ℤ y.z ≡ pos times *ℤ m.z
  pub w_is : pos 1 *ℤ x.w +ℤ pos 1 *ℤ y.w ≡ pos times *ℤ m.w

-- m lies halfway, by weights
abbrev pub halfway : {ps : List Point} {t : FacetTriangle} {gs : List Triangle} (m y x : RationalPoint) → IsOpposite ps t gs m y x → IsWeightedMean x y m
halfway m y x o = record {
  total = pos o.times;
  to_x = pos 1;
  to_y = pos 1;
  some = pos_natural o.times o.some;
  x_weighs = omega (arith, ints);
  y_weighs = omega (arith, ints);
  x_is = o.x_is;
  y_is = o.y_is;
  z_is = o.z_is;
  w_is = o.w_is;
}

abbrev pub walls_of : List Point → FacetTriangle → List Triangle
walls_of ps t = opposite_a (circle_corners ps t) ∷ opposite_b (circle_corners ps t) ∷ opposite_c (circle_corners ps t) ∷ []

pub opposite_point : (ps : List Point) (t : FacetTriangle) (gs : List Triangle) (m y : RationalPoint) → pos 0 <ℤ m.w → side_rational (circle_triangle ps t) m ≡ pos 0 → side_rational (circle_triangle ps t) y ≡ pos 0 → IsFacing ps t m y → IsOffPlanes gs y
    → (x : RationalPoint) × IsOpposite ps t gs m y x
unfolding size
opposite_point ps t gs m y mw m_flat y_flat faces off = (
  combined (pos n) m (negated y),
  record {
    inside = record {
      w = multiple_above n m.w (neg_ℤ y.w) (omega arith) mw;
      flat = side_rational-combined (circle_triangle ps t) (pos n) m (negated y) ∙ (λ j. pos n *ℤ m_flat j +ℤ (side-negated (circle_triangle ps t) y ∙ ap neg_ℤ y_flat) j) ∙ zeros (pos n);
      walls = wall;
    };
    off = all gs (omega arith) off;
    times = n;
    some = omega arith;
    x_is = both _ _;
    y_is = both _ _;
    z_is = both _ _;
    w_is = both _ _;
  },
)
  where
    n : ℕ
    n = nat_abs (neg_ℤ y.w) + 1 + (size (walls_of ps t) (negated y) + size gs (negated y))

    zeros : (n : ℤ) → n *ℤ pos 0 +ℤ pos 0 ≡ pos 0
    zeros n = (λ j. *ℤ-zero n j +ℤ pos 0)

    both : (a b : ℤ) → pos 1 *ℤ (a +ℤ neg_ℤ b) +ℤ pos 1 *ℤ b ≡ a
    both a b = omega (arith, ints)

    above : (g : Triangle) → nat_abs (side_rational g (negated y)) < n → (pos 0 <ℤ side_rational g m) ⊎ ((side_rational g m ≡ pos 0) × (side_rational g y <ℤ pos 0)) → pos 0 <ℤ side_rational g (combined (pos n) m (negated y))
    above g l (inl h) = subst (λ k. pos 0 <ℤ k) (sym (side_rational-combined g (pos n) m (negated y))) (multiple_above n (side_rational g m) (side_rational g (negated y)) l h)
    above g l (inr h) = subst (λ k. pos 0 <ℤ k) (sym (side_rational-combined g (pos n) m (negated y))) (second _ _ _ (ap (λ k. pos n *ℤ k) h.0 ∙ *ℤ-zero (pos n)) (side-negated g y) h.1)
      where
        second : (a b c : ℤ) → a ≡ pos 0 → b ≡ neg_ℤ c → c <ℤ pos 0 → pos 0 <ℤ (a +ℤ b)
        second a b c e f h = omega (arith, ints)

    wall : (v : ℕ) (g : Triangle) → Wall ps t v g → pos 0 <ℤ side_rational g (combined (pos n) m (negated y))
    wall v _ (wall_a e) = above (opposite_a (circle_corners ps t)) (omega arith) (faces v _ (wall_a e))
    wall v _ (wall_b e) = above (opposite_b (circle_corners ps t)) (omega arith) (faces v _ (wall_b e))
    wall v _ (wall_c e) = above (opposite_c (circle_corners ps t)) (omega arith) (faces v _ (wall_c e))

    all : (gs : List Triangle) → size gs (negated y) ≤ n → IsOffPlanes gs y → IsOffPlanes gs (combined (pos n) m (negated y))
    all [] l o = tt
    all (g ∷ gs) l o = (one (zero_or_not (side_rational g m)), all gs (omega arith) o.1)
      where
        none : (a b c : ℤ) → a ≡ pos 0 → b ≡ neg_ℤ c → a +ℤ b ≡ pos 0 → c ≡ pos 0
        none a b c e f h = omega (arith, ints)

        one : (side_rational g m ≡ pos 0) ⊎ (side_rational g m ≢ pos 0) → side_rational g (combined (pos n) m (negated y)) ≢ pos 0
        one (inr h) = kept g n m (negated y) (omega arith) h
        one (inl e) = λ c. o.0 (none _ _ _ (ap (λ k. pos n *ℤ k) e ∙ *ℤ-zero (pos n)) (side-negated g y) (sym (side_rational-combined g (pos n) m (negated y)) ∙ c))

-- ---- a point near x

-- a large multiple of x, and a point off the plane
keeps : (g : Triangle) (n : ℕ) (x y : RationalPoint) → nat_abs (side_rational g y) < n → side_rational g y ≢ pos 0 → KeepsSide x (combined (pos n) x y) g
keeps g n x y l off = record {
  off = by (zero_or_not (side_rational g x));
  above = λ h. pos_same _ _ (side_rational-combined g (pos n) x y) (multiple_above n (side_rational g x) (side_rational g y) l h);
  below = λ h. neg_same _ _ (side_rational-combined g (pos n) x y) (multiple_below n (side_rational g x) (side_rational g y) l h);
}
  where
    none : (a b c : ℤ) → c ≡ a +ℤ b → a ≡ pos 0 → c ≡ pos 0 → b ≡ pos 0
    none a b c e f h = omega (arith, ints)

    by : (side_rational g x ≡ pos 0) ⊎ (side_rational g x ≢ pos 0) → side_rational g (combined (pos n) x y) ≢ pos 0
    by (inr h) = kept g n x y l h
    by (inl e) = λ c. off (none _ _ _ (side_rational-combined g (pos n) x y) (ap (λ k. pos n *ℤ k) e ∙ *ℤ-zero (pos n)) c)

all_keep : (gs : List Triangle) (n : ℕ) (x y : RationalPoint) → size gs y ≤ n → IsOffPlanes gs y → AllByRecursion (KeepsSide x (combined (pos n) x y)) gs
unfolding size
all_keep [] n x y l off = tt
all_keep (g ∷ gs) n x y l off = (keeps g n x y (omega arith) off.0, all_keep gs n x y (omega arith) off.1)

-- strictly inside the triangle that holds x, and on the same hands of the planes as x
pub near_point : (ps : List Point) (t : FacetTriangle) (gs : List Triangle) (x y : RationalPoint) → pos 0 <ℤ x.w → side_rational (circle_triangle ps t) x ≡ pos 0 → ((v : ℕ) (g : Triangle) → Wall ps t v g → pos 0 ≤ℤ side_rational g x)
    → IsInside ps t y → IsOffPlanes gs y → (z : RationalPoint) × IsInside ps t z × AllByRecursion (KeepsSide x z) gs
near_point ps t gs x y xw flat walls i off = (
  combined (pos n) x y,
  record {
    w = sum _ _ (mul_nonneg (pos n) x.w (natural n) (weak _ xw)) i.w;
    flat = side_rational-combined (circle_triangle ps t) (pos n) x y ∙ (λ j. pos n *ℤ flat j +ℤ i.flat j) ∙ (λ j. *ℤ-zero (pos n) j +ℤ pos 0);
    walls = λ v g w. subst (λ k. pos 0 <ℤ k) (sym (side_rational-combined g (pos n) x y)) (sum _ _ (mul_nonneg (pos n) (side_rational g x) (natural n) (walls v g w)) (i.walls v g w));
  },
  all_keep gs n x y (omega arith) off,
)
  where
    n : ℕ
    n = size gs y

    natural : (n : ℕ) → pos 0 ≤ℤ pos n
    natural n = omega (arith, ints)

    weak : (n : ℤ) → pos 0 <ℤ n → pos 0 ≤ℤ n
    weak n h = omega (arith, ints)

    sum : (a b : ℤ) → pos 0 ≤ℤ a → pos 0 <ℤ b → pos 0 <ℤ (a +ℤ b)
    sum a b h k = omega (arith, ints)

-- a point of the plane beyond x from y
pub record IsBeyond (f : Triangle) (x y z : RationalPoint) : Type 0 where
  pub w : pos 0 <ℤ z.w
  pub flat : side_rational f z ≡ pos 0
  pub leg : IsWeightedMean y z x
  pub y_weighs : pos 0 <ℤ leg.to_x
  pub z_weighs : pos 0 <ℤ leg.to_y

pub beyond_point : (f : Triangle) (x y : RationalPoint) → pos 0 <ℤ x.w → side_rational f x ≡ pos 0 → side_rational f y ≡ pos 0 → (z : RationalPoint) × IsBeyond f x y z
beyond_point f x y xw fx fy = (
  combined (pos n) x (negated y),
  record {
    w = multiple_above n x.w (neg_ℤ y.w) (omega arith) xw;
    flat = side_rational-combined f (pos n) x (negated y) ∙ (λ j. pos n *ℤ fx j +ℤ (side-negated f y ∙ ap neg_ℤ fy) j) ∙ (λ j. *ℤ-zero (pos n) j +ℤ pos 0);
    leg = record {
      total = pos n;
      to_x = pos 1;
      to_y = pos 1;
      some = pos_natural n (omega arith);
      x_weighs = omega (arith, ints);
      y_weighs = omega (arith, ints);
      x_is = both (pos n *ℤ x.x) y.x;
      y_is = both (pos n *ℤ x.y) y.y;
      z_is = both (pos n *ℤ x.z) y.z;
      w_is = both (pos n *ℤ x.w) y.w;
    };
    y_weighs = omega (arith, ints);
    z_weighs = omega (arith, ints);
  },
)
  where
    n : ℕ
    n = nat_abs (neg_ℤ y.w) + 1

    both : (a b : ℤ) → pos 1 *ℤ b +ℤ pos 1 *ℤ (a +ℤ neg_ℤ b) ≡ a
    both a b = omega (arith, ints)
