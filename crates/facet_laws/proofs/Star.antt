-- Near an inner side the facet goes on: each circle triangle that holds a point strictly within the side lies in the region.
use Rattle.std.proofs.Common.{◌≡◌, ◌≢◌, ◌⊎◌, inl, inr, ℕ, ◌<◌, ℤ, pos, ◌+ℤ◌, ◌-ℤ◌, ◌*ℤ◌, ◌<ℤ◌, ◌≤ℤ◌, Bool, true, false, List, [], ◌∷◌, length, refl, ap, sym, subst, ◌∙◌, arith}
use Rattle.std.specs.Prelude.{Contains}
use Rattle.std.specs.List.{AllByRecursion, list_any}
use Rattle.std.proofs.lemmas.Int.{ints}
use Rattle.exact_algebra.proofs.Ring.{◌⊕◌, ◌⊖◌, ◌⊗◌, num, var, neg, ring_given, given, same}
use Rattle.exact_algebra.proofs.Signs.{by_sign, zero_of_mul, mul_pos, mul_nonneg, nonneg_of_mul, opposite_pos, pos_of_nonneg}
use Rattle.sign_predicates.specs.Point.{Point, RationalPoint, as_rational}
use Rattle.sign_predicates.specs.Orientation.{Triangle, SpansPlane, normal, side, side_rational}
use Rattle.geo_laws.specs.Delaunay.{point}
use Rattle.geo_laws.specs.Segment.{sides, same_ends}
use Rattle.geo_laws.specs.Facet.{Facet, Axis, areas, corner_numbers, is_on_piece, is_on_side, is_round, is_within}
use Rattle.geo_laws.specs.Laws.{KeepsSide}
use Rattle.geo_laws.specs.Simplex.{InSimplex}
use Rattle.geo_laws.specs.declared.complex.FacetTriangle.{FacetTriangle}
use Rattle.geo_laws.proofs.Members.{IsMember, contains_of, member_of}
use Rattle.facet_laws.specs.Circle.{circle_triangle, IsCircleAmong, LiesInPlane}
use Rattle.geo_laws.specs.declared.complex.Piece.{Piece}
use Rattle.facet_laws.specs.Inner.{HasOnce, IsOffInside}
use Rattle.facet_laws.specs.Legs.{IsWeightedMean, IsClear, dropped}
use Rattle.facet_laws.specs.Passing.{PassesThrough, LiesBeside}
use Rattle.facet_laws.proofs.Chains.{all_at, all_both, all_members, all_sides}
use Rattle.facet_laws.proofs.Circles.{Shape, shape_of}
use Rattle.facet_laws.proofs.Common.{law_beside}
use Rattle.facet_laws.proofs.Constant.{middle, IsInside, IsOnPiecesAmong, inside_simplex, leg_clear, all_map}
use Rattle.facet_laws.proofs.Facets.{any_some}
use Rattle.facet_laws.proofs.FirstMet.{has_ends}
use Rattle.facet_laws.proofs.General.{IsOffPlanes, IsBeyond, general, near_point, beyond_point}
use Rattle.facet_laws.proofs.Hands.{Parted, down, up, Passing, side_zero, beyond_beside, clear_or_passing}
use Rattle.facet_laws.proofs.Inner.{leg_back, over, side-over, side_rational-over, zero_over, above_over, within as within_facet}
use Rattle.facet_laws.proofs.Insides.{side-leg, side-zero, wall_holds}
use Rattle.facet_laws.proofs.Meets.{within, corner_plane}
use Rattle.facet_laws.proofs.Once.{between}
use Rattle.facet_laws.proofs.OnPiece.{test_leg}
use Rattle.facet_laws.proofs.SamePlane.{from_triangle, to_triangle}
use Rattle.facet_laws.proofs.Whole.{IsInnerAmong, IsOff, IsPiecedAmong, EdgeWith, AreEdgesWith, OffEdge, planes, plane_off, planes_off, edges_with, inside_off, off_side, ends_off, constant_among}
use lib.IntN.{*ℤ-zero}

-- ---- the part of a leg on the near hand

-- m y + n z ≡ t x and a y + b z ≡ s c: then (n a - b m) y + b t x ≡ n s c
near_part : (m n t a b s x y z c : ℤ) → m *ℤ y +ℤ n *ℤ z ≡ t *ℤ x → a *ℤ y +ℤ b *ℤ z ≡ s *ℤ c → (n *ℤ a -ℤ b *ℤ m) *ℤ y +ℤ (b *ℤ t) *ℤ x ≡ (n *ℤ s) *ℤ c
unfolding same
near_part m n t a b s x y z c e f =
    ring_given ((var 1 ⊗ var 3 ⊖ var 4 ⊗ var 0) ⊗ var 7 ⊕ (var 4 ⊗ var 2) ⊗ var 6) ((var 1 ⊗ var 5) ⊗ var 9)
    (given (neg (var 4)) (var 0 ⊗ var 7 ⊕ var 1 ⊗ var 8) (var 2 ⊗ var 6) ∷ given (var 1) (var 3 ⊗ var 7 ⊕ var 4 ⊗ var 8) (var 5 ⊗ var 9) ∷ [])
    tt (m ∷ n ∷ t ∷ a ∷ b ∷ s ∷ x ∷ y ∷ z ∷ c ∷ []) (e, (f, tt))

near_sign : (m n a b p q : ℤ) → m *ℤ p +ℤ n *ℤ q ≡ pos 0 → n *ℤ (a *ℤ p +ℤ b *ℤ q) ≡ p *ℤ (n *ℤ a -ℤ b *ℤ m)
unfolding same
near_sign m n a b p q e =
    ring_given (var 1 ⊗ (var 2 ⊗ var 4 ⊕ var 3 ⊗ var 5)) (var 4 ⊗ (var 1 ⊗ var 2 ⊖ var 3 ⊗ var 0)) (given (var 3) (var 0 ⊗ var 4 ⊕ var 1 ⊗ var 5) (num (pos 0)) ∷ [])
    tt (m ∷ n ∷ a ∷ b ∷ p ∷ q ∷ []) (e, tt)

-- A leg from y to z passes through a side at x, strictly within it; the polygon on the hand of y has the side at one place, and its other sides have no
-- common point with the part from x to y: so the polygon is round y
pub round_beside : (ps : List Point) (f : Triangle) (axis : Axis) (q : List ℕ) (s : Piece) (g : Triangle) (x y z : RationalPoint) → dropped axis (normal f) ≢ pos 0 → pos 0 <ℤ x.w → pos 0 <ℤ y.w → pos 0 <ℤ z.w
    → side_rational f y ≡ pos 0 → side_rational f z ≡ pos 0 → side g (point ps s.a) ≡ pos 0 → side g (point ps s.b) ≡ pos 0 → point ps s.a ≢ point ps s.b → LiesBeside ps f g q → HasOnce ps s q
    → (leg : IsWeightedMean y z x) → pos 0 <ℤ leg.to_x → pos 0 <ℤ leg.to_y → (part : IsWeightedMean (as_rational (point ps s.a)) (as_rational (point ps s.b)) x) → pos 0 <ℤ part.to_x → pos 0 <ℤ part.to_y
    → side_rational g x ≡ pos 0 → pos 0 <ℤ side_rational g y → AllByRecursion (λ r. same_ends s r ≡ false → IsClear x y (point ps r.a) (point ps r.b)) (sides q) → is_round ps axis q y ≡ true
round_beside ps f axis q s g x y z steep xw yw zw fy fz a_on b_on ends beside has leg y_weighs z_weighs part a_weighs b_weighs gx gy clear =
    (law_beside ps f axis q s steep y yw fy z zw fz
    (record { g = g; a_on = a_on; b_on = b_on; x_side = gy; y_side = gz; ends = ends; at = x; weight = xw; leg = leg; part = part; a_weighs = a_weighs; b_weighs = b_weighs })
    beside has.once
    (all_both (λ r. same_ends s r ≡ false → IsClear x y (point ps r.a) (point ps r.b)) (λ r. (pos 0 ≤ℤ side g (point ps r.a)) × (pos 0 ≤ℤ side g (point ps r.b)))
    (λ r. same_ends s r ≡ false → IsClear y z (point ps r.a) (point ps r.b)) (sides q) (λ r c l e. all_clear r (c e) l.0 l.1) clear least_sides)
    (all_map (λ r. (pos 0 ≤ℤ side g (point ps r.a)) × (pos 0 ≤ℤ side g (point ps r.b))) (λ r. is_on_piece ps r z ≡ false) (sides q) (λ r l. untrue (is_on_piece ps r z) (λ on. z_off r l.0 l.1 (test_leg (point ps r.a) (point ps r.b) z zw on))) least_sides)).0
  where
    untrue : (b : Bool) → ¬ (b ≡ true) → b ≡ false
    untrue true n = absurd (n refl)
    untrue false n = refl

    cancel : leg.to_x *ℤ side_rational g y +ℤ leg.to_y *ℤ side_rational g z ≡ pos 0
    cancel = sym (side-leg g y z x leg) ∙ ap (λ n. leg.total *ℤ n) gx ∙ *ℤ-zero leg.total

    gz : side_rational g z <ℤ pos 0
    gz = opposite_pos leg.to_x leg.to_y (side_rational g y) (side_rational g z) y_weighs z_weighs cancel gy

    least_sides : AllByRecursion (λ r. (pos 0 ≤ℤ side g (point ps r.a)) × (pos 0 ≤ℤ side g (point ps r.b))) (sides q)
    least_sides = all_sides (λ i. pos 0 ≤ℤ side g (point ps i)) q (all_map (λ i. (side f (point ps i) ≡ pos 0) × (pos 0 ≤ℤ side g (point ps i))) (λ i. pos 0 ≤ℤ side g (point ps i)) q (λ i k. k.1) beside)

    z_off : (r : Piece) → pos 0 ≤ℤ side g (point ps r.a) → pos 0 ≤ℤ side g (point ps r.b) → IsWeightedMean (as_rational (point ps r.a)) (as_rational (point ps r.b)) z → ⊥
    z_off r ha hb l = below (side_rational g z) (between g (point ps r.a) (point ps r.b) z ha hb l) gz
      where
        below : (n : ℤ) → pos 0 ≤ℤ n → n <ℤ pos 0 → ⊥
        below n h k = omega (arith, ints)

    all_clear : (r : Piece) → IsClear x y (point ps r.a) (point ps r.b) → pos 0 ≤ℤ side g (point ps r.a) → pos 0 ≤ℤ side g (point ps r.b) → IsClear y z (point ps r.a) (point ps r.b)
    all_clear r c ha hb d dw l k = c d dw (leg_back y x d near) k
      where
        weak : (n : ℤ) → pos 0 <ℤ n → pos 0 ≤ℤ n
        weak n h = omega (arith, ints)

        least : pos 0 ≤ℤ (leg.to_y *ℤ l.to_x -ℤ l.to_y *ℤ leg.to_x)
        least = nonneg_of_mul (side_rational g y) _ gy
            (subst (λ n. pos 0 ≤ℤ n) (near_sign leg.to_x leg.to_y l.to_x l.to_y (side_rational g y) (side_rational g z) cancel)
            (mul_nonneg leg.to_y _ (weak _ z_weighs) (subst (λ n. pos 0 ≤ℤ n) (side-leg g y z d l) (mul_nonneg l.total (side_rational g d) (weak _ l.some) (between g (point ps r.a) (point ps r.b) d ha hb k)))))

        near : IsWeightedMean y x d
        near = record {
          total = leg.to_y *ℤ l.total;
          to_x = leg.to_y *ℤ l.to_x -ℤ l.to_y *ℤ leg.to_x;
          to_y = l.to_y *ℤ leg.total;
          some = mul_pos leg.to_y l.total z_weighs l.some;
          x_weighs = least;
          y_weighs = mul_nonneg l.to_y leg.total l.y_weighs (weak _ leg.some);
          x_is = near_part leg.to_x leg.to_y leg.total l.to_x l.to_y l.total x.x y.x z.x d.x leg.x_is l.x_is;
          y_is = near_part leg.to_x leg.to_y leg.total l.to_x l.to_y l.total x.y y.y z.y d.y leg.y_is l.y_is;
          z_is = near_part leg.to_x leg.to_y leg.total l.to_x l.to_y l.total x.z y.z z.z d.z leg.z_is l.z_is;
          w_is = near_part leg.to_x leg.to_y leg.total l.to_x l.to_y l.total x.w y.w z.w d.w leg.w_is l.w_is;
        }

-- ---- a point strictly within a side is on no other side of the polygon

-- x is none of the points of the plane
abbrev pub IsNoPoint : List Point → Triangle → RationalPoint → Type 0
IsNoPoint ps f x = (i : ℕ) → i < length ps → side f (point ps i) ≡ pos 0 → (c : RationalPoint) (l : IsWeightedMean (as_rational (point ps i)) c x) → l.to_y ≢ pos 0

pub other_off : (ps : List Point) (f : Triangle) (q : List ℕ) (s : Piece) (x : RationalPoint) → pos 0 <ℤ x.w → AllByRecursion (λ i. i < length ps) q → AllByRecursion (λ i. side f (point ps i) ≡ pos 0) q
    → HasOnce ps s q → IsWeightedMean (as_rational (point ps s.a)) (as_rational (point ps s.b)) x → IsNoPoint ps f x → AllByRecursion (λ r. same_ends s r ≡ false → is_on_piece ps r x ≡ false) (sides q)
other_off ps f q s x xw on flat has part none =
    all_both (λ r. same_ends s r ≡ false → IsOffInside (point ps s.a) (point ps s.b) (point ps r.a) (point ps r.b)) (λ r. ((r.a < length ps) × (r.b < length ps)) × ((side f (point ps r.a) ≡ pos 0) × (side f (point ps r.b) ≡ pos 0)))
    (λ r. same_ends s r ≡ false → is_on_piece ps r x ≡ false) (sides q)
    (λ r apart k e. untrue (is_on_piece ps r x) (λ t. off r (apart e) k (test_leg (point ps r.a) (point ps r.b) x xw t))) has.others
    (all_both (λ r. (r.a < length ps) × (r.b < length ps)) (λ r. (side f (point ps r.a) ≡ pos 0) × (side f (point ps r.b) ≡ pos 0)) _ (sides q) (λ r a b. (a, b)) (all_sides (λ i. i < length ps) q on) (all_sides (λ i. side f (point ps i) ≡ pos 0) q flat))
  where
    untrue : (b : Bool) → ¬ (b ≡ true) → b ≡ false
    untrue true n = absurd (n refl)
    untrue false n = refl

    above : (n : ℤ) → pos 0 ≤ℤ n → n ≢ pos 0 → pos 0 <ℤ n
    above n h k = pos_of_nonneg n h k

    off : (r : Piece) → IsOffInside (point ps s.a) (point ps s.b) (point ps r.a) (point ps r.b) → ((r.a < length ps) × (r.b < length ps)) × ((side f (point ps r.a) ≡ pos 0) × (side f (point ps r.b) ≡ pos 0)) → IsWeightedMean (as_rational (point ps r.a)) (as_rational (point ps r.b)) x → ⊥
    off r apart k l = apart x xw part l
        (above l.to_x l.x_weighs (none r.b k.0.1 k.1.1 (as_rational (point ps r.a)) (leg_back (as_rational (point ps r.a)) (as_rational (point ps r.b)) x l)))
        (above l.to_y l.y_weighs (none r.a k.0.0 k.1.0 (as_rational (point ps r.b)) l))

-- ---- the triangles that hold such a point

-- a point within a side that is no point of the plane is strictly within it
pub strictly : (ps : List Point) (f : Triangle) (s : Piece) (x : RationalPoint) → IsNoPoint ps f x → s.a < length ps → s.b < length ps → side f (point ps s.a) ≡ pos 0 → side f (point ps s.b) ≡ pos 0
    → (l : IsWeightedMean (as_rational (point ps s.a)) (as_rational (point ps s.b)) x) → (pos 0 <ℤ l.to_x) × (pos 0 <ℤ l.to_y)
strictly ps f s x none la lb fa fb l = (
  pos_of_nonneg l.to_x l.x_weighs (none s.b lb fb (as_rational (point ps s.a)) (leg_back (as_rational (point ps s.a)) (as_rational (point ps s.b)) x l)),
  pos_of_nonneg l.to_y l.y_weighs (none s.a la fa (as_rational (point ps s.b)) l),
)

-- what is known of a polygon: its corners are points of the plane, and its sides lie on pieces or are inner
abbrev Polygon : (Triangle → Type 0) → List Point → Triangle → Facet → List ℕ → List ℕ → Type 0
Polygon P ps f facet ns q = IsMember q (areas facet) × AllByRecursion (λ i. i < length ps) q × AllByRecursion (λ i. side f (point ps i) ≡ pos 0) q × AllByRecursion (EdgeWith P ps f facet ns q) (sides q)

-- a side that x is on: it lies on pieces, or is inner
pub record IsOnEdge (P : Triangle → Type 0) (ps : List Point) (f : Triangle) (facet : Facet) (ns : List ℕ) (x : RationalPoint) : Type 0 where
  pub q : List ℕ
  pub listed : IsMember q (areas facet)
  pub on : AllByRecursion (λ i. i < length ps) q
  pub flat : AllByRecursion (λ i. side f (point ps i) ≡ pos 0) q
  pub s : Piece
  pub part : IsWeightedMean (as_rational (point ps s.a)) (as_rational (point ps s.b)) x
  pub edge : EdgeWith P ps f facet ns q s

pub on_edge : (P : Triangle → Type 0) (ps : List Point) (f : Triangle) (facet : Facet) (ns : List ℕ) (x : RationalPoint) → pos 0 <ℤ x.w → AllByRecursion (λ q. AllByRecursion (λ i. i < length ps) q) (areas facet)
    → AllByRecursion (λ q. AllByRecursion (λ i. side f (point ps i) ≡ pos 0) q) (areas facet) → AreEdgesWith P ps f facet ns (areas facet) → is_on_side ps facet x ≡ true → IsOnEdge P ps f facet ns x
on_edge P ps f facet ns x xw on flat edges e =
    let q = any_some (Polygon P ps f facet ns) (λ q. list_any (λ s. is_on_piece ps s x) (sides q)) (areas facet)
    (all_both (λ q. IsMember q (areas facet)) (λ q. AllByRecursion (λ i. i < length ps) q × AllByRecursion (λ i. side f (point ps i) ≡ pos 0) q × AllByRecursion (EdgeWith P ps f facet ns q) (sides q)) (Polygon P ps f facet ns) (areas facet) (λ q m a. (m, a.0, a.1, a.2)) (all_members (areas facet))
    (all_both (λ q. AllByRecursion (λ i. i < length ps) q) (λ q. AllByRecursion (λ i. side f (point ps i) ≡ pos 0) q × AllByRecursion (EdgeWith P ps f facet ns q) (sides q)) (λ q. AllByRecursion (λ i. i < length ps) q × AllByRecursion (λ i. side f (point ps i) ≡ pos 0) q × AllByRecursion (EdgeWith P ps f facet ns q) (sides q)) (areas facet) (λ q a b. (a, b.0, b.1)) on
    (all_both (λ q. AllByRecursion (λ i. side f (point ps i) ≡ pos 0) q) (λ q. AllByRecursion (EdgeWith P ps f facet ns q) (sides q)) (λ q. AllByRecursion (λ i. side f (point ps i) ≡ pos 0) q × AllByRecursion (EdgeWith P ps f facet ns q) (sides q)) (areas facet) (λ q a b. (a, b)) flat edges))) e in
    let s = any_some (EdgeWith P ps f facet ns q.0) (λ s. is_on_piece ps s x) (sides q.0) q.1.3 q.2 in
    record { q = q.0; listed = q.1.0; on = q.1.1; flat = q.1.2; s = s.0; part = test_leg (point ps s.0.a) (point ps s.0.b) x xw s.2; edge = s.1 }

-- each lies in the region
pub star_at : {ns : List ℕ} (ps : List Point) (facet : Facet) (f : Triangle) (axis : Axis) (t : FacetTriangle) → SpansPlane f → dropped axis (normal f) ≢ pos 0 → AllByRecursion (λ q. AllByRecursion (λ i. i < length ps) q) (areas facet)
    → AllByRecursion (IsPiecedAmong ps f facet ns) (areas facet) → IsCircleAmong ps ns t → LiesInPlane ps f t → (x : RationalPoint) → pos 0 <ℤ x.w → InSimplex ps (corner_numbers t) x → IsNoPoint ps f x
    → (q : List ℕ) → IsMember q (areas facet) → (s : Piece) → IsInnerAmong ps f facet ns q s → IsWeightedMean (as_rational (point ps s.a)) (as_rational (point ps s.b)) x → is_within ps axis facet (middle ps t) ≡ true
star_at {ns} ps facet f axis t sf steep on h c p x xw in_t none own_q own_m own_s own part_of = sym (constant_among ps facet f axis t sf steep h c p z.0 z.1.w (inside_simplex ps t z.0 shape z.1) z_off) ∙ z_within
  where
    shape : Shape ps t
    shape = shape_of ps t c

    flat : AllByRecursion (λ q. AllByRecursion (λ i. side f (point ps i) ≡ pos 0) q) (areas facet)
    flat = all_map (IsPiecedAmong ps f facet ns) (λ q. AllByRecursion (λ i. side f (point ps i) ≡ pos 0) q) (areas facet) (λ q e. e.flat) h

    y : (y : RationalPoint) × IsInside ps t y × IsOffPlanes (own.inner.g ∷ planes ps f facet ns (areas facet) h) y
    y = general ps t (own.inner.g ∷ planes ps f facet ns (areas facet) h) (shape_of ps t c) (plane_off ps f facet t own_q own_s sf c p own, planes_off ps f facet t sf c p h)

    x_flat : side_rational f x ≡ pos 0
    x_flat = side-zero ps f (corner_numbers t) in_t.0 x in_t.1 (corner_plane ps f t p)

    x_in_plane : side_rational (circle_triangle ps t) x ≡ pos 0
    x_in_plane = to_triangle f (circle_triangle ps t) x sf (within ps f t p) x_flat

    z : (z : RationalPoint) × IsInside ps t z × AllByRecursion (KeepsSide x z) (own.inner.g ∷ planes ps f facet ns (areas facet) h)
    z = near_point ps t (own.inner.g ∷ planes ps f facet ns (areas facet) h) x y.0 xw x_in_plane (λ v g w. wall_holds ps t v g x xw shape w in_t) y.1 y.2

    edges : AreEdgesWith (KeepsSide x z.0) ps f facet ns (areas facet)
    edges = edges_with (KeepsSide x z.0) ps f facet ns (areas facet) h z.2.1

    z_flat : side_rational f z.0 ≡ pos 0
    z_flat = from_triangle f (circle_triangle ps t) z.0 sf c.spans (within ps f t p) z.1.flat

    z_off : is_on_side ps facet z.0 ≡ false
    z_off = off_side ps facet z.0 (inside_off ps f facet t z.0 sf c p z.1
        (all_map (λ q. AllByRecursion (EdgeWith (KeepsSide x z.0) ps f facet ns q) (sides q)) (λ q. AllByRecursion (OffEdge ps f facet ns z.0 q) (sides q)) (areas facet)
        (λ q. all_map (EdgeWith (KeepsSide x z.0) ps f facet ns q) (OffEdge ps f facet ns z.0 q) (sides q) (λ s e. off_of q s e)) edges))
      where
        off_of : (q : List ℕ) (s : Piece) → EdgeWith (KeepsSide x z.0) ps f facet ns q s → OffEdge ps f facet ns z.0 q s
        off_of q s (inl o) = inl o
        off_of q s (inr i) = inr (i.0, i.1.off)

    -- the sides that x is not on are clear of the leg to the point near it
    clear : (q : List ℕ) (s : Piece) → is_on_piece ps s x ≡ false → EdgeWith (KeepsSide x z.0) ps f facet ns q s → IsClear x z.0 (point ps s.a) (point ps s.b)
    clear q s off (inl o) = leg_clear ps f t x z.0 s xw sf c p in_t x_in_plane z.1 off o
    clear q s off (inr i) = by (clear_or_passing ps x z.0 s i.0.inner.g xw z.1.w i.0.inner.a_on i.0.inner.b_on off i.1.off (ends_off ps f facet t x z.0 q s sf c p xw in_t x_in_plane z.1 off i.0))
      where
        not_both : (n : ℤ) → pos 0 <ℤ n → n <ℤ pos 0 → ⊥
        not_both n h k = omega (arith, ints)

        by : IsClear x z.0 (point ps s.a) (point ps s.b) ⊎ Passing ps x z.0 s i.0.inner.g → IsClear x z.0 (point ps s.a) (point ps s.b)
        by (inl k) = k
        by (inr k) = hands k.hands
          where
            hands : Parted (side_rational i.0.inner.g x) (side_rational i.0.inner.g z.0) → IsClear x z.0 (point ps s.a) (point ps s.b)
            hands (down a b) = absurd (not_both _ (i.1.above a) b)
            hands (up a b) = absurd (not_both _ b (i.1.below a))

    beyond : (b : RationalPoint) × IsBeyond f x z.0 b
    beyond = beyond_point f x z.0 xw x_flat z_flat

    -- the polygon on the hand of the point near x is round it
    round : (q : List ℕ) (s : Piece) (g : Triangle) → IsMember q (areas facet) → side g (point ps s.a) ≡ pos 0 → side g (point ps s.b) ≡ pos 0 → point ps s.a ≢ point ps s.b → LiesBeside ps f g q → HasOnce ps s q
        → (part : IsWeightedMean (as_rational (point ps s.a)) (as_rational (point ps s.b)) x) → (pos 0 <ℤ part.to_x) × (pos 0 <ℤ part.to_y) → pos 0 <ℤ side_rational g z.0 → is_round ps axis q z.0 ≡ true
    round q s g m a b ends beside has part strict above =
        round_beside ps f axis q s g x z.0 beyond.0 steep xw z.1.w beyond.1.w z_flat beyond.1.flat a b ends beside has beyond.1.leg beyond.1.y_weighs beyond.1.z_weighs part strict.0 strict.1
        (zero_of_mul part.total (side_rational g x) part.some (side_zero ps g s x a b part)) above
        (all_both (λ r. same_ends s r ≡ false → is_on_piece ps r x ≡ false) (EdgeWith (KeepsSide x z.0) ps f facet ns q) (λ r. same_ends s r ≡ false → IsClear x z.0 (point ps r.a) (point ps r.b)) (sides q) (λ r off e k. clear q r (off k) e)
        (other_off ps f q s x xw (all_at (λ q. AllByRecursion (λ i. i < length ps) q) q (areas facet) on m) (all_at (λ q. AllByRecursion (λ i. side f (point ps i) ≡ pos 0) q) q (areas facet) flat m) has part none)
        (all_at (λ q. AllByRecursion (EdgeWith (KeepsSide x z.0) ps f facet ns q) (sides q)) q (areas facet) edges m))

    strict : (pos 0 <ℤ part_of.to_x) × (pos 0 <ℤ part_of.to_y)
    strict =
        let ends = has_ends ps own_s own_q own.inner.own in
        let q_flat = all_at (λ q. AllByRecursion (λ i. side f (point ps i) ≡ pos 0) q) own_q (areas facet) flat own_m in
        strictly ps f own_s x none own.a_below own.b_below (all_at (λ k. side f (point ps k) ≡ pos 0) own_s.a own_q q_flat (member_of own_q own_s.a ends.0)) (all_at (λ k. side f (point ps k) ≡ pos 0) own_s.b own_q q_flat (member_of own_q own_s.b ends.1)) part_of

    z_within : is_within ps axis facet z.0 ≡ true
    z_within = by_sign (side_rational own.inner.g z.0)
        (λ n. within_facet ps facet axis own.inner.other z.0 own.inner.no_holes own.inner.listed
        (round own.inner.other own_s (over own.inner.g) (member_of (areas facet) own.inner.other own.inner.listed) (zero_over _ (side own.inner.g (point ps own_s.a)) (side-over own.inner.g (point ps own_s.a)) own.inner.a_on)
        (zero_over _ (side own.inner.g (point ps own_s.b)) (side-over own.inner.g (point ps own_s.b)) own.inner.b_on) own.inner.ends (beyond_beside ps f own.inner.g own.inner.other own.inner.beyond) own.inner.others part_of strict
        (above_over _ (side_rational own.inner.g z.0) (side_rational-over own.inner.g z.0) n)))
        (λ e. absurd (z.2.0.off e))
        (λ g. within_facet ps facet axis own_q z.0 own.inner.no_holes (contains_of (areas facet) own_q own_m)
        (round own_q own_s own.inner.g own_m own.inner.a_on own.inner.b_on own.inner.ends own.inner.beside own.inner.own part_of strict g))

-- where x is on some side, x is on a piece, or each lies in the region
pub star : {ns : List ℕ} (ps : List Point) (facet : Facet) (f : Triangle) (axis : Axis) (t : FacetTriangle) → SpansPlane f → dropped axis (normal f) ≢ pos 0 → AllByRecursion (λ q. AllByRecursion (λ i. i < length ps) q) (areas facet)
    → AllByRecursion (IsPiecedAmong ps f facet ns) (areas facet) → IsCircleAmong ps ns t → LiesInPlane ps f t → (x : RationalPoint) → pos 0 <ℤ x.w → InSimplex ps (corner_numbers t) x → IsNoPoint ps f x → is_on_side ps facet x ≡ true
    → ((s : Piece) × IsOnPiecesAmong ps f ns s × IsWeightedMean (as_rational (point ps s.a)) (as_rational (point ps s.b)) x) ⊎ (is_within ps axis facet (middle ps t) ≡ true)
star {ns} ps facet f axis t sf steep on h c p x xw in_t none x_on = go (on_edge (IsOff y.0) ps f facet ns x xw on flat (edges_with (IsOff y.0) ps f facet ns (areas facet) h y.2) x_on)
  where
    flat : AllByRecursion (λ q. AllByRecursion (λ i. side f (point ps i) ≡ pos 0) q) (areas facet)
    flat = all_map (IsPiecedAmong ps f facet ns) (λ q. AllByRecursion (λ i. side f (point ps i) ≡ pos 0) q) (areas facet) (λ q e. e.flat) h

    y : (y : RationalPoint) × IsInside ps t y × IsOffPlanes (planes ps f facet ns (areas facet) h) y
    y = general ps t (planes ps f facet ns (areas facet) h) (shape_of ps t c) (planes_off ps f facet t sf c p h)

    go : IsOnEdge (IsOff y.0) ps f facet ns x → ((s : Piece) × IsOnPiecesAmong ps f ns s × IsWeightedMean (as_rational (point ps s.a)) (as_rational (point ps s.b)) x) ⊎ (is_within ps axis facet (middle ps t) ≡ true)
    go o = by o.edge
      where
        by : EdgeWith (IsOff y.0) ps f facet ns o.q o.s → ((s : Piece) × IsOnPiecesAmong ps f ns s × IsWeightedMean (as_rational (point ps s.a)) (as_rational (point ps s.b)) x) ⊎ (is_within ps axis facet (middle ps t) ≡ true)
        by (inl pieces) = inl (o.s, pieces, o.part)
        by (inr i) = inr (star_at ps facet f axis t sf steep on h c p x xw in_t none o.q o.listed o.s i.0 o.part)
