-- On the rim of the plane's hull no inner side lies: on either hand of it there is a polygon.
use Rattle.std.proofs.Common.{◌≡◌, ◌≢◌, ◌⊎◌, inl, inr, ℕ, ◌<◌, ℤ, pos, ◌+ℤ◌, ◌*ℤ◌, ◌<ℤ◌, ◌≤ℤ◌, Bool, true, false, List, length, refl, ap, sym, subst, ◌∙◌, arith}
use Rattle.std.specs.List.{AllByRecursion}
use Rattle.std.proofs.lemmas.Int.{ints}
use Rattle.exact_algebra.proofs.Signs.{by_sign, opposite_pos, opposite_neg, zero_of_mul}
use Rattle.sign_predicates.specs.Point.{Point, RationalPoint, as_rational}
use Rattle.sign_predicates.specs.Orientation.{Triangle, SpansPlane, normal, side, side_rational}
use Rattle.geo_laws.specs.Delaunay.{point, all_numbers}
use Rattle.geo_laws.specs.Segment.{sides, same_ends}
use Rattle.geo_laws.specs.Simplex.{InSimplex}
use Rattle.geo_laws.specs.Facet.{Facet, areas, axis_of, corner_numbers, is_on_side, is_on_piece, is_round}
use Rattle.geo_laws.specs.declared.complex.Piece.{Piece}
use Rattle.geo_laws.specs.declared.complex.FacetTriangle.{FacetTriangle}
use Rattle.geo_laws.proofs.Members.{IsMember, member_of}
use Rattle.facet_laws.specs.Circle.{circle_triangle, IsCircle, LiesInPlane}
use Rattle.facet_laws.specs.Inner.{HasOnce}
use Rattle.facet_laws.specs.Legs.{IsWeightedMean, IsClear}
use Rattle.facet_laws.specs.Passing.{LiesBeside}
use Rattle.facet_laws.specs.Region.{IsPieced, IsFacetProtected, through}
use Rattle.facet_laws.proofs.Chains.{all_at, all_both, all_sides}
use Rattle.facet_laws.proofs.Circles.{among_all, shape_of}
use Rattle.facet_laws.proofs.Common.{not_beyond}
use Rattle.facet_laws.proofs.Constant.{IsInside, IsOnPiecesAmong, all_map}
use Rattle.facet_laws.proofs.Facets.{plane_spans, steep}
use Rattle.facet_laws.proofs.FirstMet.{has_ends}
use Rattle.facet_laws.proofs.General.{IsOffPlanes, IsBeyond, general, beyond_point}
use Rattle.facet_laws.proofs.Hands.{side_zero, beyond_beside}
use Rattle.facet_laws.proofs.Inner.{leg_back, over, side-over, side_rational-over, zero_over, above_over}
use Rattle.facet_laws.proofs.Insides.{Wall, side-leg, side-zero}
use Rattle.facet_laws.proofs.Meets.{within, corner_plane}
use Rattle.facet_laws.proofs.Once.{between}
use Rattle.facet_laws.proofs.OnPiece.{test_leg}
use Rattle.facet_laws.proofs.SamePlane.{from_triangle}
use Rattle.facet_laws.proofs.Star.{IsNoPoint, IsOnEdge, on_edge, strictly, other_off, round_beside}
use Rattle.facet_laws.proofs.Whole.{IsOff, IsPiecedAmong, EdgeWith, AreEdgesWith, planes, planes_off, edges_with, pieced_among}
use Rattle.complex_laws.proofs.Beyond.{HoldsPlane, outward_clear}
use lib.IntN.{*ℤ-zero}

-- a point of a circle triangle on a side of the facet, and on a wall that has all points of the plane on one hand, and no point itself, lies on pieces
pub rim_pieces : (ps : List Point) (facet : Facet) (p : ℕ × ℕ × ℕ) → IsFacetProtected ps facet p → (t : FacetTriangle) (v : ℕ) (g : Triangle) → IsCircle ps t → LiesInPlane ps (through ps p) t → Wall ps t v g → HoldsPlane ps (through ps p) g
    → (m : RationalPoint) → pos 0 <ℤ m.w → InSimplex ps (corner_numbers t) m → IsNoPoint ps (through ps p) m → side_rational g m ≡ pos 0 → is_on_side ps facet m ≡ true
    → (s : Piece) × IsOnPiecesAmong ps (through ps p) (all_numbers ps) s × IsWeightedMean (as_rational (point ps s.a)) (as_rational (point ps s.b)) m
rim_pieces ps facet p h t v g circle lies wall holds m mw in_t none on_wall on = go (on_edge (IsOff y.0) ps (through ps p) facet (all_numbers ps) m mw on_list flat edges on)
  where
    spans : SpansPlane (through ps p)
    spans = plane_spans ps facet p h.has_plane

    among : AllByRecursion (IsPiecedAmong ps (through ps p) facet (all_numbers ps)) (areas facet)
    among = pieced_among ps (through ps p) facet h.pieced

    on_list : AllByRecursion (λ q. AllByRecursion (λ i. i < length ps) q) (areas facet)
    on_list = all_map (IsPieced ps (through ps p) facet) (λ q. AllByRecursion (λ i. i < length ps) q) (areas facet) (λ q d. d.on_list) h.pieced

    flat : AllByRecursion (λ q. AllByRecursion (λ i. side (through ps p) (point ps i) ≡ pos 0) q) (areas facet)
    flat = all_map (IsPieced ps (through ps p) facet) (λ q. AllByRecursion (λ i. side (through ps p) (point ps i) ≡ pos 0) q) (areas facet) (λ q d. d.flat) h.pieced

    y : (y : RationalPoint) × IsInside ps t y × IsOffPlanes (planes ps (through ps p) facet (all_numbers ps) (areas facet) among) y
    y = general ps t (planes ps (through ps p) facet (all_numbers ps) (areas facet) among) (shape_of ps t (among_all ps t circle)) (planes_off ps (through ps p) facet t spans (among_all ps t circle) lies among)

    edges : AreEdgesWith (IsOff y.0) ps (through ps p) facet (all_numbers ps) (areas facet)
    edges = edges_with (IsOff y.0) ps (through ps p) facet (all_numbers ps) (areas facet) among y.2

    m_flat : side_rational (through ps p) m ≡ pos 0
    m_flat = side-zero ps (through ps p) (corner_numbers t) in_t.0 m in_t.1 (corner_plane ps (through ps p) t lies)

    y_flat : side_rational (through ps p) y.0 ≡ pos 0
    y_flat = from_triangle (through ps p) (circle_triangle ps t) y.0 spans circle.spans (within ps (through ps p) t lies) y.1.flat

    b : (b : RationalPoint) × IsBeyond (through ps p) m y.0 b
    b = beyond_point (through ps p) m y.0 mw m_flat y_flat

    -- y and the point beyond m are on either hand of a plane that holds m
    cancel : (k : Triangle) → side_rational k m ≡ pos 0 → b.1.leg.to_x *ℤ side_rational k y.0 +ℤ b.1.leg.to_y *ℤ side_rational k b.0 ≡ pos 0
    cancel k e = sym (side-leg k y.0 b.0 m b.1.leg) ∙ ap (λ n. b.1.leg.total *ℤ n) e ∙ *ℤ-zero b.1.leg.total

    out : side_rational g b.0 <ℤ pos 0
    out = opposite_pos b.1.leg.to_x b.1.leg.to_y (side_rational g y.0) (side_rational g b.0) b.1.y_weighs b.1.z_weighs (cancel g on_wall) (y.1.walls v g wall)

    never : true ≡ false → ⊥
    never e = cc

    untrue : (b : Bool) → ¬ (b ≡ true) → b ≡ false
    untrue true n = absurd (n refl)
    untrue false n = refl

    -- a polygon on the far hand would be round a point beyond the rim
    not_far : (q : List ℕ) (s : Piece) (k : Triangle) → IsMember q (areas facet) → side k (point ps s.a) ≡ pos 0 → side k (point ps s.b) ≡ pos 0 → point ps s.a ≢ point ps s.b → LiesBeside ps (through ps p) k q → HasOnce ps s q
        → (part : IsWeightedMean (as_rational (point ps s.a)) (as_rational (point ps s.b)) m) → (pos 0 <ℤ part.to_x) × (pos 0 <ℤ part.to_y) → pos 0 <ℤ side_rational k b.0 → ⊥
    not_far q s k mq ka kb ends beside has part strict above = never (sym round ∙ outside)
      where
        q_on : AllByRecursion (λ i. i < length ps) q
        q_on = all_at (λ q. AllByRecursion (λ i. i < length ps) q) q (areas facet) on_list mq

        q_flat : AllByRecursion (λ i. side (through ps p) (point ps i) ≡ pos 0) q
        q_flat = all_at (λ q. AllByRecursion (λ i. side (through ps p) (point ps i) ≡ pos 0) q) q (areas facet) flat mq

        held : LiesBeside ps (through ps p) g q
        held = all_both (λ i. i < length ps) (λ i. side (through ps p) (point ps i) ≡ pos 0) (λ i. (side (through ps p) (point ps i) ≡ pos 0) × (pos 0 ≤ℤ side g (point ps i))) q (λ i a b. (b, holds i a b)) q_on q_flat

        held_sides : AllByRecursion (λ r. (pos 0 ≤ℤ side g (point ps r.a)) × (pos 0 ≤ℤ side g (point ps r.b))) (sides q)
        held_sides = all_sides (λ i. pos 0 ≤ℤ side g (point ps i)) q (all_map (λ i. (side (through ps p) (point ps i) ≡ pos 0) × (pos 0 ≤ℤ side g (point ps i))) (λ i. pos 0 ≤ℤ side g (point ps i)) q (λ i k. k.1) held)

        round : is_round ps (axis_of (normal (through ps p))) q b.0 ≡ true
        round = round_beside ps (through ps p) (axis_of (normal (through ps p))) q s k m b.0 y.0 (steep (normal (through ps p)) spans) mw b.1.w y.1.w b.1.flat y_flat ka kb ends beside has
            (leg_back y.0 b.0 m b.1.leg) b.1.z_weighs b.1.y_weighs part strict.0 strict.1 (zero_of_mul part.total (side_rational k m) part.some (side_zero ps k s m ka kb part)) above
            (all_both (λ r. same_ends s r ≡ false → is_on_piece ps r m ≡ false) (λ r. (pos 0 ≤ℤ side g (point ps r.a)) × (pos 0 ≤ℤ side g (point ps r.b))) (λ r. same_ends s r ≡ false → IsClear m b.0 (point ps r.a) (point ps r.b)) (sides q)
            (λ r off l e. outward_clear ps g m b.0 r mw l.0 l.1 on_wall out (off e)) (other_off ps (through ps p) q s m mw q_on q_flat has part none) held_sides)

        below : (n : ℤ) → pos 0 ≤ℤ n → n <ℤ pos 0 → ⊥
        below n h k = omega (arith, ints)

        outside : is_round ps (axis_of (normal (through ps p))) q b.0 ≡ false
        outside = not_beyond ps (through ps p) g (axis_of (normal (through ps p))) q b.0 b.1.w (steep (normal (through ps p)) spans) b.1.flat held
            (all_map (λ r. (pos 0 ≤ℤ side g (point ps r.a)) × (pos 0 ≤ℤ side g (point ps r.b))) (λ r. is_on_piece ps r b.0 ≡ false) (sides q)
            (λ r l. untrue (is_on_piece ps r b.0) (λ on. below (side_rational g b.0) (between g (point ps r.a) (point ps r.b) b.0 l.0 l.1 (test_leg (point ps r.a) (point ps r.b) b.0 b.1.w on)) out)) held_sides) out

    go : IsOnEdge (IsOff y.0) ps (through ps p) facet (all_numbers ps) m → (s : Piece) × IsOnPiecesAmong ps (through ps p) (all_numbers ps) s × IsWeightedMean (as_rational (point ps s.a)) (as_rational (point ps s.b)) m
    go o = by o.edge
      where
        by : EdgeWith (IsOff y.0) ps (through ps p) facet (all_numbers ps) o.q o.s → (s : Piece) × IsOnPiecesAmong ps (through ps p) (all_numbers ps) s × IsWeightedMean (as_rational (point ps s.a)) (as_rational (point ps s.b)) m
        by (inl pieces) = (o.s, pieces, o.part)
        by (inr i) = absurd (by_sign (side_rational i.0.inner.g y.0)
            (λ n. not_far o.q o.s i.0.inner.g o.listed i.0.inner.a_on i.0.inner.b_on i.0.inner.ends i.0.inner.beside i.0.inner.own o.part strict
            (opposite_neg b.1.leg.to_x b.1.leg.to_y (side_rational i.0.inner.g y.0) (side_rational i.0.inner.g b.0) b.1.y_weighs b.1.z_weighs (cancel i.0.inner.g on_plane) n))
            (λ e. i.1 e)
            (λ g. not_far i.0.inner.other o.s (over i.0.inner.g) (member_of (areas facet) i.0.inner.other i.0.inner.listed) (zero_over _ (side i.0.inner.g (point ps o.s.a)) (side-over i.0.inner.g (point ps o.s.a)) i.0.inner.a_on)
            (zero_over _ (side i.0.inner.g (point ps o.s.b)) (side-over i.0.inner.g (point ps o.s.b)) i.0.inner.b_on) i.0.inner.ends (beyond_beside ps (through ps p) i.0.inner.g i.0.inner.other i.0.inner.beyond) i.0.inner.others o.part strict
            (above_over _ (side_rational i.0.inner.g b.0) (side_rational-over i.0.inner.g b.0)
            (opposite_pos b.1.leg.to_x b.1.leg.to_y (side_rational i.0.inner.g y.0) (side_rational i.0.inner.g b.0) b.1.y_weighs b.1.z_weighs (cancel i.0.inner.g on_plane) g))))
          where
            on_plane : side_rational i.0.inner.g m ≡ pos 0
            on_plane = zero_of_mul o.part.total (side_rational i.0.inner.g m) o.part.some (side_zero ps i.0.inner.g o.s m i.0.inner.a_on i.0.inner.b_on o.part)

            strict : (pos 0 <ℤ o.part.to_x) × (pos 0 <ℤ o.part.to_y)
            strict =
                let ends = has_ends ps o.s o.q i.0.inner.own in
                strictly ps (through ps p) o.s m none i.0.a_below i.0.b_below (all_at (λ k. side (through ps p) (point ps k) ≡ pos 0) o.s.a o.q o.flat (member_of o.q o.s.a ends.0))
                (all_at (λ k. side (through ps p) (point ps k) ≡ pos 0) o.s.b o.q o.flat (member_of o.q o.s.b ends.1)) o.part
