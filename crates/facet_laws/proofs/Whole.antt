-- A circle triangle lies in the region of a facet or off it as a whole, also where some sides of the facet's polygons are inner. From any point of the
-- triangle a leg leads to one strictly inside it and in general position: it meets no side on pieces, and where it passes through inner sides both ends are within.
use Rattle.std.proofs.Common.{◌≡◌, ◌≢◌, ◌⊎◌, inl, inr, ℕ, ◌<◌, ℤ, pos, ◌+ℤ◌, ◌*ℤ◌, ◌<ℤ◌, ◌≤ℤ◌, Bool, true, false, ◌||◌, ◌&&◌, List, [], ◌∷◌, length, refl, ap, sym, subst, ◌∙◌, arith}
use Rattle.std.specs.Prelude.{not, Contains}
use Rattle.std.specs.List.{AllByRecursion, list_any, list_all}
use Rattle.std.proofs.lemmas.Int.{ints}
use Rattle.exact_algebra.proofs.Signs.{by_sign, zero_of_mul}
use Rattle.sign_predicates.specs.Point.{Point, RationalPoint, as_rational}
use Rattle.sign_predicates.specs.Orientation.{Triangle, SpansPlane, normal, side, side_rational}
use Rattle.geo_laws.specs.Delaunay.{point, all_numbers}
use Rattle.geo_laws.specs.Simplex.{InSimplex}
use Rattle.geo_laws.specs.Segment.{sides}
use Rattle.geo_laws.specs.Facet.{Facet, Axis, areas, is_on_side, is_on_piece, is_round, is_within, same, corner_numbers, is_over_side, keeps}
use Rattle.geo_laws.specs.declared.complex.Piece.{Piece}
use Rattle.geo_laws.specs.declared.complex.FacetTriangle.{FacetTriangle}
use Rattle.geo_laws.proofs.Corners.{contains_below}
use Rattle.geo_laws.proofs.Members.{IsMember, contains_of, member_of}
use Rattle.facet_laws.specs.Circle.{circle_triangle, IsCircle, IsCircleAmong, LiesInPlane}
use Rattle.facet_laws.specs.Inner.{IsInnerSide}
use Rattle.facet_laws.specs.Legs.{IsWeightedMean, IsClear, dropped}
use Rattle.facet_laws.specs.Region.{IsOnPieces, IsPieced, ConstantLaw}
use Rattle.facet_laws.proofs.Chains.{all_at, all_both, all_sides}
use Rattle.facet_laws.proofs.Circles.{Shape, shape_of, among_all, in_or_not}
use Rattle.facet_laws.proofs.Constant.{middle, IsInside, IsOnPiecesAmong, middle_is_inside, inside_simplex, none_any, any_none, any_same, all_same, all_map, all_of, leg_clear, leg_inside, moved_leg, no_leg, not_on_piece}
use Rattle.facet_laws.proofs.FirstMet.{Status, AreClear, AreDecided, AreOff, has_ends, through}
use Rattle.facet_laws.proofs.General.{IsOffPlanes, HasOff, IsOpposite, corner_off, general, opposite_point, halfway}
use Rattle.facet_laws.proofs.Hands.{IsInnerIn, inner_in, IsOffLeg, Passing, side_zero, clear_or_passing}
use Rattle.facet_laws.proofs.Inner.{leg_back}
use Rattle.facet_laws.proofs.Insides.{side-zero}
use Rattle.facet_laws.proofs.Meets.{within, corner_plane}
use Rattle.facet_laws.proofs.NoPoint.{not_point}
use Rattle.facet_laws.proofs.OnPiece.{test_leg}
use Rattle.facet_laws.proofs.Rays.{law_parity}
use Rattle.facet_laws.proofs.SamePlane.{from_triangle, to_triangle, point_to_triangle}

-- ---- sides on pieces, and inner sides, with ends among some numbers

pub record IsInnerAmong (ps : List Point) (f : Triangle) (facet : Facet) (ns : List ℕ) (q : List ℕ) (s : Piece) : Type 0 where
  pub inner : IsInnerIn ps f facet q s
  pub a_below : s.a < length ps
  pub b_below : s.b < length ps
  pub a_among : Contains ns s.a
  pub b_among : Contains ns s.b

abbrev pub Edge : List Point → Triangle → Facet → List ℕ → List ℕ → Piece → Type 0
Edge ps f facet ns q s = IsOnPiecesAmong ps f ns s ⊎ IsInnerAmong ps f facet ns q s

pub record IsPiecedAmong (ps : List Point) (f : Triangle) (facet : Facet) (ns : List ℕ) (q : List ℕ) : Type 0 where
  pub flat : AllByRecursion (λ i. side f (point ps i) ≡ pos 0) q
  pub edges : AllByRecursion (Edge ps f facet ns q) (sides q)

-- ---- the planes of the inner sides

abbrev with_plane : {ps : List Point} {f : Triangle} {facet : Facet} {ns q : List ℕ} {s : Piece} → Edge ps f facet ns q s → List Triangle → List Triangle
with_plane (inl o) gs = gs
with_plane (inr i) gs = i.inner.g ∷ gs

abbrev side_planes : (ps : List Point) (f : Triangle) (facet : Facet) (ns q : List ℕ) (ss : List Piece) → AllByRecursion (Edge ps f facet ns q) ss → List Triangle → List Triangle
side_planes ps f facet ns q [] h gs = gs
side_planes ps f facet ns q (s ∷ ss) h gs = with_plane {ps = ps} {f = f} {facet = facet} {ns = ns} {q = q} {s = s} h.0 (side_planes ps f facet ns q ss h.1 gs)

abbrev pub planes : (ps : List Point) (f : Triangle) (facet : Facet) (ns : List ℕ) (qs : List (List ℕ)) → AllByRecursion (IsPiecedAmong ps f facet ns) qs → List Triangle
planes ps f facet ns [] h = []
planes ps f facet ns (q ∷ qs) h = side_planes ps f facet ns q (sides q) h.0.edges (planes ps f facet ns qs h.1)

-- what is known of each plane
pub each_plane : (P : Triangle → Type 0) (ps : List Point) (f : Triangle) (facet : Facet) (ns : List ℕ) (qs : List (List ℕ)) (h : AllByRecursion (IsPiecedAmong ps f facet ns) qs)
    → ((q : List ℕ) (s : Piece) (i : IsInnerAmong ps f facet ns q s) → P i.inner.g) → AllByRecursion P (planes ps f facet ns qs h)
each_plane P ps f facet ns [] h each = tt
each_plane P ps f facet ns (q ∷ qs) h each = of_sides (sides q) h.0.edges (planes ps f facet ns qs h.1) (each_plane P ps f facet ns qs h.1 each)
  where
    of_sides : (ss : List Piece) (e : AllByRecursion (Edge ps f facet ns q) ss) (gs : List Triangle) → AllByRecursion P gs → AllByRecursion P (side_planes ps f facet ns q ss e gs)
    of_sides [] e gs r = r
    of_sides (s ∷ ss) e gs r = one e.0 (of_sides ss e.1 gs r)
      where
        one : (o : Edge ps f facet ns q s) → AllByRecursion P (side_planes ps f facet ns q ss e.1 gs) → AllByRecursion P (with_plane {ps = ps} {f = f} {facet = facet} {ns = ns} {q = q} {s = s} o (side_planes ps f facet ns q ss e.1 gs))
        one (inl o) r = r
        one (inr i) r = (each q s i, r)

-- a side on pieces, or an inner one of whose plane something is known
abbrev pub EdgeWith : (Triangle → Type 0) → List Point → Triangle → Facet → List ℕ → List ℕ → Piece → Type 0
EdgeWith P ps f facet ns q s = IsOnPiecesAmong ps f ns s ⊎ ((i : IsInnerAmong ps f facet ns q s) × P i.inner.g)

abbrev pub AreEdgesWith : (Triangle → Type 0) → List Point → Triangle → Facet → List ℕ → List (List ℕ) → Type 0
AreEdgesWith P ps f facet ns qs = AllByRecursion (λ q. AllByRecursion (EdgeWith P ps f facet ns q) (sides q)) qs

-- what is known of all planes is known of each
pub edges_with : (P : Triangle → Type 0) (ps : List Point) (f : Triangle) (facet : Facet) (ns : List ℕ) (qs : List (List ℕ)) (h : AllByRecursion (IsPiecedAmong ps f facet ns) qs)
    → AllByRecursion P (planes ps f facet ns qs h) → AreEdgesWith P ps f facet ns qs
edges_with P ps f facet ns [] h o = tt
edges_with P ps f facet ns (q ∷ qs) h o = let r = of_sides (sides q) h.0.edges (planes ps f facet ns qs h.1) o in (r.0, edges_with P ps f facet ns qs h.1 r.1)
  where
    of_sides : (ss : List Piece) (e : AllByRecursion (Edge ps f facet ns q) ss) (gs : List Triangle) → AllByRecursion P (side_planes ps f facet ns q ss e gs) → AllByRecursion (EdgeWith P ps f facet ns q) ss × AllByRecursion P gs
    of_sides [] e gs o = (tt, o)
    of_sides (s ∷ ss) e gs o = one e.0 o (λ r. of_sides ss e.1 gs r)
      where
        one : (d : Edge ps f facet ns q s) → AllByRecursion P (with_plane {ps = ps} {f = f} {facet = facet} {ns = ns} {q = q} {s = s} d (side_planes ps f facet ns q ss e.1 gs))
            → (AllByRecursion P (side_planes ps f facet ns q ss e.1 gs) → AllByRecursion (EdgeWith P ps f facet ns q) ss × AllByRecursion P gs) → (EdgeWith P ps f facet ns q s × AllByRecursion (EdgeWith P ps f facet ns q) ss) × AllByRecursion P gs
        one (inl p) o rest = let r = rest o in ((inl p, r.0), r.1)
        one (inr i) o rest = let r = rest o.1 in ((inr (i, o.0), r.0), r.1)

-- y is off the planes
abbrev pub IsOff : RationalPoint → Triangle → Type 0
IsOff y g = side_rational g y ≢ pos 0

abbrev pub OffEdge : List Point → Triangle → Facet → List ℕ → RationalPoint → List ℕ → Piece → Type 0
OffEdge ps f facet ns y = EdgeWith (IsOff y) ps f facet ns

abbrev pub AreOffEdges : List Point → Triangle → Facet → List ℕ → RationalPoint → List (List ℕ) → Type 0
AreOffEdges ps f facet ns y = AreEdgesWith (IsOff y) ps f facet ns

-- ---- a point strictly inside, off the planes

untrue : (b : Bool) → ¬ (b ≡ true) → b ≡ false
untrue true n = absurd (n refl)
untrue false n = refl

-- it is on no side
pub inside_off : {ns : List ℕ} (ps : List Point) (f : Triangle) (facet : Facet) (t : FacetTriangle) (y : RationalPoint) → SpansPlane f → IsCircleAmong ps ns t → LiesInPlane ps f t → IsInside ps t y
    → AreOffEdges ps f facet ns y (areas facet) → AreOff ps facet y
inside_off {ns} ps f facet t y sf h p inside = all_map (λ q. AllByRecursion (OffEdge ps f facet ns y q) (sides q)) (λ q. AllByRecursion (λ s. is_on_piece ps s y ≡ false) (sides q)) (areas facet)
    (λ q. all_map (OffEdge ps f facet ns y q) (λ s. is_on_piece ps s y ≡ false) (sides q) (λ s e. untrue (is_on_piece ps s y) (λ on. one q s e (test_leg (point ps s.a) (point ps s.b) y inside.w on))))
  where
    one : (q : List ℕ) (s : Piece) → OffEdge ps f facet ns y q s → IsWeightedMean (as_rational (point ps s.a)) (as_rational (point ps s.b)) y → ⊥
    one q s (inl pieces) l = let o = pieces y inside.w l in not_on_piece ps f t y sf h p inside o.0 o.1 o.2
    one q s (inr i) l = i.1 (zero_of_mul l.total (side_rational i.0.inner.g y) l.some (side_zero ps i.0.inner.g s y i.0.inner.a_on i.0.inner.b_on l))

-- an end of a side that x is not on is not on the leg
end_off : {ns : List ℕ} (ps : List Point) (f : Triangle) (t : FacetTriangle) (x y : RationalPoint) (a b : ℕ) → SpansPlane f → IsCircleAmong ps ns t → LiesInPlane ps f t → pos 0 <ℤ x.w → InSimplex ps (corner_numbers t) x
    → side_rational (circle_triangle ps t) x ≡ pos 0 → IsInside ps t y → a < length ps → Contains ns a → side f (point ps a) ≡ pos 0 → ¬ IsWeightedMean (as_rational (point ps a)) (as_rational (point ps b)) x → ¬ IsWeightedMean x y (as_rational (point ps a))
end_off ps f t x y a b sf h p xw in_t flat inside below among a_flat off l =
    by_sign l.to_y (λ n. not_below l.to_y l.y_weighs n)
    (λ e. off (moved_leg (as_rational (point ps a)) (as_rational (point ps b)) x y (as_rational (point ps a)) xw one l e own))
    (λ g. not_point ps f t a sf h p below among a_flat (leg_inside ps t x y (as_rational (point ps a)) xw one (shape_of ps t h) in_t flat inside l g))
  where
    one : pos 0 <ℤ pos 1
    one = omega (arith, ints)

    not_below : (n : ℤ) → pos 0 ≤ℤ n → n <ℤ pos 0 → ⊥
    not_below n h k = omega (arith, ints)

    first : (u v : ℤ) → pos 1 *ℤ u +ℤ pos 0 *ℤ v ≡ pos 1 *ℤ u
    first u v = omega (arith, ints)

    own : IsWeightedMean (as_rational (point ps a)) (as_rational (point ps b)) (as_rational (point ps a))
    own = record {
      total = pos 1;
      to_x = pos 1;
      to_y = pos 0;
      some = one;
      x_weighs = omega (arith, ints);
      y_weighs = omega (arith, ints);
      x_is = first (point ps a).x (point ps b).x;
      y_is = first (point ps a).y (point ps b).y;
      z_is = first (point ps a).z (point ps b).z;
      w_is = refl;
    }

turned_back : (a b x : RationalPoint) → IsWeightedMean a b x → IsWeightedMean b a x
turned_back a b x l = leg_back a b x l

-- so neither end of an inner side is
pub ends_off : {ns : List ℕ} (ps : List Point) (f : Triangle) (facet : Facet) (t : FacetTriangle) (x y : RationalPoint) (q : List ℕ) (s : Piece) → SpansPlane f → IsCircleAmong ps ns t → LiesInPlane ps f t → pos 0 <ℤ x.w
    → InSimplex ps (corner_numbers t) x → side_rational (circle_triangle ps t) x ≡ pos 0 → IsInside ps t y → is_on_piece ps s x ≡ false → IsInnerAmong ps f facet ns q s → IsOffLeg ps x y s
ends_off ps f facet t x y q s sf h p xw in_t flat inside off i = record {
  a_off = end_off ps f t x y s.a s.b sf h p xw in_t flat inside i.a_below i.a_among a_flat (no_leg ps x s off);
  b_off = end_off ps f t x y s.b s.a sf h p xw in_t flat inside i.b_below i.b_among b_flat (λ l. no_leg ps x s off (turned_back (as_rational (point ps s.b)) (as_rational (point ps s.a)) x l));
}
  where
    ends : Contains q s.a × Contains q s.b
    ends = has_ends ps s q i.inner.own

    a_flat : side f (point ps s.a) ≡ pos 0
    a_flat = (all_at (λ k. (side f (point ps k) ≡ pos 0) × (pos 0 ≤ℤ side i.inner.g (point ps k))) s.a q i.inner.beside (member_of q s.a ends.0)).0

    b_flat : side f (point ps s.b) ≡ pos 0
    b_flat = (all_at (λ k. (side f (point ps k) ≡ pos 0) × (pos 0 ≤ℤ side i.inner.g (point ps k))) s.b q i.inner.beside (member_of q s.b ends.1)).0

-- each side is clear of the leg from x, or passed through
pub decide : {ns : List ℕ} (ps : List Point) (f : Triangle) (facet : Facet) (t : FacetTriangle) (x y : RationalPoint) → SpansPlane f → IsCircleAmong ps ns t → LiesInPlane ps f t → pos 0 <ℤ x.w → InSimplex ps (corner_numbers t) x
    → side_rational (circle_triangle ps t) x ≡ pos 0 → IsInside ps t y → AreOff ps facet x → AreOffEdges ps f facet ns y (areas facet) → AreDecided ps f facet x y
decide {ns} ps f facet t x y sf h p xw in_t flat inside x_off edges =
    all_both (λ q. AllByRecursion (λ s. is_on_piece ps s x ≡ false) (sides q)) (λ q. AllByRecursion (OffEdge ps f facet ns y q) (sides q)) (λ q. AllByRecursion (Status ps f facet x y q) (sides q)) (areas facet)
    (λ q. all_both (λ s. is_on_piece ps s x ≡ false) (OffEdge ps f facet ns y q) (Status ps f facet x y q) (sides q) (λ s off e. one q s off e)) x_off edges
  where
    one : (q : List ℕ) (s : Piece) → is_on_piece ps s x ≡ false → OffEdge ps f facet ns y q s → Status ps f facet x y q s
    one q s off (inl pieces) = inl (leg_clear ps f t x y s xw sf h p in_t flat inside off pieces)
    one q s off (inr i) = go (clear_or_passing ps x y s i.0.inner.g xw inside.w i.0.inner.a_on i.0.inner.b_on off i.1 (ends_off ps f facet t x y q s sf h p xw in_t flat inside off i.0))
      where
        go : IsClear x y (point ps s.a) (point ps s.b) ⊎ Passing ps x y s i.0.inner.g → Status ps f facet x y q s
        go (inl c) = inl c
        go (inr g) = inr (i.0.inner, g)

-- ---- tests of the region

pub are_off : (ps : List Point) (facet : Facet) (x : RationalPoint) → is_on_side ps facet x ≡ false → AreOff ps facet x
are_off ps facet x e = all_map (λ q. list_any (λ s. is_on_piece ps s x) (sides q) ≡ false) (λ q. AllByRecursion (λ s. is_on_piece ps s x ≡ false) (sides q)) (areas facet) (λ q d. none_any (λ s. is_on_piece ps s x) (sides q) d)
    (none_any (λ q. list_any (λ s. is_on_piece ps s x) (sides q)) (areas facet) e)

pub off_side : (ps : List Point) (facet : Facet) (x : RationalPoint) → AreOff ps facet x → is_on_side ps facet x ≡ false
off_side ps facet x o = any_none (λ q. list_any (λ s. is_on_piece ps s x) (sides q)) (areas facet)
    (all_map (λ q. AllByRecursion (λ s. is_on_piece ps s x ≡ false) (sides q)) (λ q. list_any (λ s. is_on_piece ps s x) (sides q) ≡ false) (areas facet) (λ q d. any_none (λ s. is_on_piece ps s x) (sides q) d) o)

-- where the same polygons are round two points on no side, both are within or none is
pub within_same : (ps : List Point) (facet : Facet) (axis : Axis) (x y : RationalPoint) → is_on_side ps facet x ≡ false → is_on_side ps facet y ≡ false
    → AllByRecursion (λ q. is_round ps axis q x ≡ is_round ps axis q y) (areas facet) → is_within ps axis facet x ≡ is_within ps axis facet y
within_same ps facet axis x y x_off y_off round =
    (λ j. x_off j || (any_same (λ q. is_round ps axis q x) (λ q. is_round ps axis q y) (areas facet) round j
    && all_same (keeps ps axis facet x) (keeps ps axis facet y) facet.holes (all_of _ facet.holes (λ h. ap (λ b. is_over_side ps axis facet h || not b) (alike h))) j))
    ∙ (λ j. sym y_off j || (list_any (λ q. is_round ps axis q y) (areas facet) && list_all (keeps ps axis facet y) facet.holes))
  where
    alike : (h : RationalPoint) → list_all (λ q. same (is_round ps axis q x) (is_round ps axis q h)) (areas facet) ≡ list_all (λ q. same (is_round ps axis q y) (is_round ps axis q h)) (areas facet)
    alike h = all_same (λ q. same (is_round ps axis q x) (is_round ps axis q h)) (λ q. same (is_round ps axis q y) (is_round ps axis q h)) (areas facet)
        (all_map (λ q. is_round ps axis q x ≡ is_round ps axis q y) _ (areas facet) (λ q e. ap (λ b. same b (is_round ps axis q h)) e) round)

-- a point on a side is within
pub on_within : (ps : List Point) (facet : Facet) (axis : Axis) (x : RationalPoint) → is_on_side ps facet x ≡ true → is_within ps axis facet x ≡ true
on_within ps facet axis x e = λ j. e j || (list_any (λ q. is_round ps axis q x) (areas facet) && list_all (keeps ps axis facet x) facet.holes)

-- a leg that is decided: both ends are within or none is
pub leg_same : (ps : List Point) (f : Triangle) (facet : Facet) (axis : Axis) (x y : RationalPoint) → dropped axis (normal f) ≢ pos 0 → AllByRecursion (λ q. AllByRecursion (λ i. side f (point ps i) ≡ pos 0) q) (areas facet)
    → pos 0 <ℤ x.w → pos 0 <ℤ y.w → side_rational f x ≡ pos 0 → side_rational f y ≡ pos 0 → AreOff ps facet x → AreOff ps facet y → AreDecided ps f facet x y
    → is_within ps axis facet x ≡ is_within ps axis facet y
leg_same ps f facet axis x y steep flat xw yw fx fy x_off y_off decided = go (through ps f facet axis x y steep xw yw fx fy x_off y_off decided)
  where
    go : AreClear ps facet x y ⊎ ((is_within ps axis facet x ≡ true) × (is_within ps axis facet y ≡ true)) → is_within ps axis facet x ≡ is_within ps axis facet y
    go (inl clear) = within_same ps facet axis x y (off_side ps facet x x_off) (off_side ps facet y y_off)
        (all_both (λ q. AllByRecursion (λ i. side f (point ps i) ≡ pos 0) q) (λ q. AllByRecursion (λ s. IsClear x y (point ps s.a) (point ps s.b)) (sides q)) (λ q. is_round ps axis q x ≡ is_round ps axis q y) (areas facet)
        (λ q p c. law_parity ps f axis q steep p x xw fx y yw fy c) flat clear)
    go (inr b) = b.0 ∙ sym b.1

-- and where it leads through a point on a side, both are within
pub leg_through : (ps : List Point) (f : Triangle) (facet : Facet) (axis : Axis) (x y m : RationalPoint) → dropped axis (normal f) ≢ pos 0 → pos 0 <ℤ x.w → pos 0 <ℤ y.w → pos 0 <ℤ m.w → side_rational f x ≡ pos 0 → side_rational f y ≡ pos 0
    → AreOff ps facet x → AreOff ps facet y → AreDecided ps f facet x y → IsWeightedMean x y m → is_on_side ps facet m ≡ true → is_within ps axis facet y ≡ true
leg_through ps f facet axis x y m steep xw yw mw fx fy x_off y_off decided l on = go (through ps f facet axis x y steep xw yw fx fy x_off y_off decided)
  where
    never : true ≡ false → ⊥
    never e = cc

    go : AreClear ps facet x y ⊎ ((is_within ps axis facet x ≡ true) × (is_within ps axis facet y ≡ true)) → is_within ps axis facet y ≡ true
    go (inr b) = b.1
    go (inl clear) = absurd (never (sym on ∙ off_side ps facet m
        (all_map (λ q. AllByRecursion (λ s. IsClear x y (point ps s.a) (point ps s.b)) (sides q)) (λ q. AllByRecursion (λ s. is_on_piece ps s m ≡ false) (sides q)) (areas facet)
        (λ q. all_map (λ s. IsClear x y (point ps s.a) (point ps s.b)) (λ s. is_on_piece ps s m ≡ false) (sides q) (λ s c. untrue (is_on_piece ps s m) (λ e. c m mw l (test_leg (point ps s.a) (point ps s.b) m mw e)))) clear)))

-- ---- the law

-- the plane of an inner side is off a corner of the triangle
pub plane_off : {ns : List ℕ} (ps : List Point) (f : Triangle) (facet : Facet) (t : FacetTriangle) (q : List ℕ) (s : Piece) → SpansPlane f → IsCircleAmong ps ns t → LiesInPlane ps f t → (i : IsInnerAmong ps f facet ns q s) → HasOff ps t i.inner.g
plane_off ps f facet t q s sf c p i = corner_off ps t i.inner.g (point ps i.inner.off) (shape_of ps t c)
    (point_to_triangle f (circle_triangle ps t) (point ps i.inner.off) sf (within ps f t p)
    (all_at (λ k. (side f (point ps k) ≡ pos 0) × (pos 0 ≤ℤ side i.inner.g (point ps k))) i.inner.off q i.inner.beside (member_of q i.inner.off i.inner.off_is)).0)
    (above_not_zero _ i.inner.off_line)
  where
    above_not_zero : (n : ℤ) → pos 0 <ℤ n → n ≡ pos 0 → ⊥
    above_not_zero n h e = omega (arith, ints)

-- so is each
pub planes_off : {ns : List ℕ} (ps : List Point) (f : Triangle) (facet : Facet) (t : FacetTriangle) → SpansPlane f → IsCircleAmong ps ns t → LiesInPlane ps f t → (h : AllByRecursion (IsPiecedAmong ps f facet ns) (areas facet))
    → AllByRecursion (HasOff ps t) (planes ps f facet ns (areas facet) h)
planes_off {ns} ps f facet t sf c p h = each_plane (HasOff ps t) ps f facet ns (areas facet) h (λ q s i. plane_off ps f facet t q s sf c p i)

-- for a circle triangle among some numbers, with the ends of all pieces and inner sides among them
pub constant_among : {ns : List ℕ} (ps : List Point) (facet : Facet) (f : Triangle) (axis : Axis) (t : FacetTriangle) → SpansPlane f → dropped axis (normal f) ≢ pos 0 → AllByRecursion (IsPiecedAmong ps f facet ns) (areas facet)
    → IsCircleAmong ps ns t → LiesInPlane ps f t → (x : RationalPoint) → pos 0 <ℤ x.w → InSimplex ps (corner_numbers t) x → is_on_side ps facet x ≡ false
    → is_within ps axis facet x ≡ is_within ps axis facet (middle ps t)
constant_among {ns} ps facet f axis t sf steep h c p x xw in_t off = from_x x xw in_t off ∙ sym (to_middle (is_on_side ps facet (middle ps t)) refl)
  where
    shape : Shape ps t
    shape = shape_of ps t c

    gs : List Triangle
    gs = planes ps f facet ns (areas facet) h

    g : (y : RationalPoint) × IsInside ps t y × IsOffPlanes (planes ps f facet ns (areas facet) h) y
    g = general ps t (planes ps f facet ns (areas facet) h) (shape_of ps t c) (planes_off ps f facet t sf c p h)

    y : RationalPoint
    y = g.0

    y_edges : AreOffEdges ps f facet ns g.0 (areas facet)
    y_edges = edges_with (IsOff g.0) ps f facet ns (areas facet) h g.2

    flat : AllByRecursion (λ q. AllByRecursion (λ i. side f (point ps i) ≡ pos 0) q) (areas facet)
    flat = all_map (IsPiecedAmong ps f facet ns) (λ q. AllByRecursion (λ i. side f (point ps i) ≡ pos 0) q) (areas facet) (λ q e. e.flat) h

    y_off : AreOff ps facet g.0
    y_off = inside_off ps f facet t g.0 sf c p g.1 y_edges

    in_plane : (z : RationalPoint) → side_rational (circle_triangle ps t) z ≡ pos 0 → side_rational f z ≡ pos 0
    in_plane z e = from_triangle f (circle_triangle ps t) z sf c.spans (within ps f t p) e

    from_x : (x : RationalPoint) → pos 0 <ℤ x.w → InSimplex ps (corner_numbers t) x → is_on_side ps facet x ≡ false → is_within ps axis facet x ≡ is_within ps axis facet g.0
    from_x x xw in_t off =
        let flat_f : side_rational f x ≡ pos 0 = side-zero ps f (corner_numbers t) in_t.0 x in_t.1 (corner_plane ps f t p) in
        leg_same ps f facet axis x g.0 steep flat xw g.1.w flat_f (in_plane g.0 g.1.flat) (are_off ps facet x off) y_off
        (decide ps f facet t x g.0 sf c p xw in_t (to_triangle f (circle_triangle ps t) x sf (within ps f t p) flat_f) g.1 (are_off ps facet x off) y_edges)

    m_inside : IsInside ps t (middle ps t)
    m_inside = middle_is_inside ps t shape

    to_middle : (b : Bool) → is_on_side ps facet (middle ps t) ≡ b → is_within ps axis facet (middle ps t) ≡ is_within ps axis facet g.0
    to_middle false e = from_x (middle ps t) m_inside.w (inside_simplex ps t (middle ps t) shape m_inside) e
    to_middle true e = on_within ps facet axis (middle ps t) e ∙ sym y_within
      where
        o : (x : RationalPoint) × IsOpposite ps t (planes ps f facet ns (areas facet) h) (middle ps t) g.0 x
        o = opposite_point ps t (planes ps f facet ns (areas facet) h) (middle ps t) g.0 m_inside.w m_inside.flat g.1.flat (λ v g w. inl (m_inside.walls v g w)) g.2

        o_edges : AreOffEdges ps f facet ns o.0 (areas facet)
        o_edges = edges_with (IsOff o.0) ps f facet ns (areas facet) h o.1.off

        o_off : AreOff ps facet o.0
        o_off = inside_off ps f facet t o.0 sf c p o.1.inside o_edges

        y_within : is_within ps axis facet g.0 ≡ true
        y_within = leg_through ps f facet axis o.0 g.0 (middle ps t) steep o.1.inside.w g.1.w m_inside.w (in_plane o.0 o.1.inside.flat) (in_plane g.0 g.1.flat) o_off y_off
            (decide ps f facet t o.0 g.0 sf c p o.1.inside.w (inside_simplex ps t o.0 shape o.1.inside) o.1.inside.flat g.1 o_off y_edges)
            (halfway (middle ps t) g.0 o.0 o.1) e

-- a point strictly inside the triangle and on no side, which is within where the centroid is
pub inner_point : {ns : List ℕ} (ps : List Point) (facet : Facet) (f : Triangle) (axis : Axis) (t : FacetTriangle) → SpansPlane f → dropped axis (normal f) ≢ pos 0 → AllByRecursion (IsPiecedAmong ps f facet ns) (areas facet)
    → IsCircleAmong ps ns t → LiesInPlane ps f t → (y : RationalPoint) × IsInside ps t y × (is_on_side ps facet y ≡ false) × (is_within ps axis facet y ≡ is_within ps axis facet (middle ps t))
inner_point {ns} ps facet f axis t sf steep h c p =
    let g = general ps t (planes ps f facet ns (areas facet) h) (shape_of ps t c) (planes_off ps f facet t sf c p h) in
    let off = off_side ps facet g.0 (inside_off ps f facet t g.0 sf c p g.1 (edges_with (IsOff g.0) ps f facet ns (areas facet) h g.2)) in
    (g.0, g.1, off, constant_among ps facet f axis t sf steep h c p g.0 g.1.w (inside_simplex ps t g.0 (shape_of ps t c) g.1) off)

-- all numbers will do
pub pieced_among : (ps : List Point) (f : Triangle) (facet : Facet) → AllByRecursion (IsPieced ps f facet) (areas facet) → AllByRecursion (IsPiecedAmong ps f facet (all_numbers ps)) (areas facet)
pieced_among ps f facet pieced = all_map (IsPieced ps f facet) (IsPiecedAmong ps f facet (all_numbers ps)) (areas facet) each pieced
  where
    flat : AllByRecursion (λ q. AllByRecursion (λ i. side f (point ps i) ≡ pos 0) q) (areas facet)
    flat = all_map (IsPieced ps f facet) (λ q. AllByRecursion (λ i. side f (point ps i) ≡ pos 0) q) (areas facet) (λ q e. e.flat) pieced

    one : (q : List ℕ) (s : Piece) → AllByRecursion (λ i. side f (point ps i) ≡ pos 0) q → IsOnPieces ps f s ⊎ IsInnerSide ps facet q s → s.a < length ps → s.b < length ps → Edge ps f facet (all_numbers ps) q s
    one q s q_flat (inl pieces) la lb = inl (λ z zw l. let o = pieces z zw l in (o, o.is_row.is_on o.p o.p_corner, o.is_row.is_on o.q o.q_corner))
    one q s q_flat (inr i) la lb = inr (record { inner = inner_in ps f facet q s flat q_flat i; a_below = la; b_below = lb; a_among = contains_below (length ps) s.a la; b_among = contains_below (length ps) s.b lb })

    each : (q : List ℕ) → IsPieced ps f facet q → IsPiecedAmong ps f facet (all_numbers ps) q
    each q h = record {
      flat = h.flat;
      edges = all_both (λ s. IsOnPieces ps f s ⊎ IsInnerSide ps facet q s) (λ s. (s.a < length ps) × (s.b < length ps)) (Edge ps f facet (all_numbers ps) q) (sides q) (λ s e l. one q s h.flat e l.0 l.1) h.on_pieces (all_sides (λ i. i < length ps) q h.on_list);
    }

pub law_constant : ConstantLaw
law_constant ps facet f axis t sf steep pieced h p x xw in_t off =
    constant_among ps facet f axis t sf steep (pieced_among ps f facet pieced) (among_all ps t h) p x xw in_t off
