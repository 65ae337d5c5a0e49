-- Sides over which facets are joined are inner in the merged facet.
use Rattle.std.proofs.Common.{◌≡◌, ◌≢◌, ◌⊎◌, inl, inr, ℕ, ◌+◌, ◌<◌, ℤ, pos, ◌+ℤ◌, ◌-ℤ◌, ◌*ℤ◌, ◌<ℤ◌, ◌≤ℤ◌, Bool, true, false, cond, ◌&&◌, ◌||◌, List, [], ◌∷◌, length, refl, ap, sym, subst, ◌∙◌, arith, eqb-true, eq-eqb}
use Rattle.std.specs.Prelude.{Contains, IsTrue, Option, ◌==◌, nat_lt, sum_by, not, flat_map}
use Rattle.std.specs.List.{AllByRecursion, list_any}
use Rattle.std.proofs.lemmas.Int.{ints}
use Rattle.exact_algebra.proofs.Ring.{◌⊕◌, ◌⊗◌, num, var, neg, ring_given, given, same}
use Rattle.exact_algebra.proofs.Signs.{cancel_mul}
use Rattle.sign_predicates.specs.Point.{Point, RationalPoint, from_to, as_rational}
use Rattle.sign_predicates.specs.Orientation.{cross, side}
use Rattle.geo_laws.specs.Delaunay.{point, HasDistinctPoints}
use Rattle.geo_laws.specs.Segment.{sides, same_ends, is_zero_vector}
use Rattle.geo_laws.specs.Simplex.{InSimplex, ProperlyMet, has_number, common_corners}
use Rattle.geo_laws.specs.Facet.{Facet, areas, all_corners, spans_plane}
use Rattle.geo_laws.specs.Complex.{Complex}
use Rattle.geo_laws.specs.declared.complex.Piece.{Piece}
use Rattle.geo_laws.proofs.Members.{IsMember, here, in_filter, in_flat_map, some_true, any_true, either_true, contains_of, member_of}
use Rattle.facet_laws.specs.Inner.{HasOnce, IsInnerSide, IsOffInside}
use Rattle.facet_laws.specs.Legs.{IsWeightedMean}
use Rattle.facet_laws.proofs.Chains.{all_at, all_both, all_members, all_sides}
use Rattle.facet_laws.proofs.Circles.{squares_above}
use Rattle.facet_laws.proofs.Constant.{all_map}
use Rattle.facet_laws.proofs.FirstMet.{has_ends}
use Rattle.facet_laws.proofs.Inner.{leg_back}
use Rattle.facet_laws.proofs.Pieces.{leg_simplex, ends_same, straight, turned, points_differ, all_sides_tested, area_listed}
use Rattle.facet_laws.proofs.PlaneOf.{IsZero, zero_of, test_of, OnLine, line_fails, not_false}
use Rattle.merged_facets.specs.Merged.{only_polygon, has_span, MeetsOthers, places_of, facet_at, marker_at, AreJoinedOver, AreJoined, IsInner, AreChained, alone, onward, IsMerging, members, merged_facet}
use Rattle.merged_facets.specs.Groups.{wall, IsBetweenThem}
use Rattle.merged_facets.specs.Facets.{HasCornersOn, InnerLaw}
use Rattle.merged_facets.proofs.FacetGroups.{law_wall, law_either_hand, joined_chains, chain_back, law_group, law_joined_back}
use Rattle.merged_facets.proofs.Members.{Member, HasOnly, has_only, is_only, only_corner, in_members, member_is, nothing_joined}

-- ---- sides that are properly met

-- where z lies at p, and between p and q with a weight of q, q is p
one_coordinate : (n p q x w k l t : ℤ) → pos 0 <ℤ n → pos 0 <ℤ l → (n *ℤ p +ℤ pos 0) *ℤ w ≡ x *ℤ n → k *ℤ p +ℤ l *ℤ q ≡ t *ℤ x → k *ℤ pos 1 +ℤ l *ℤ pos 1 ≡ t *ℤ w → q ≡ p
unfolding same
one_coordinate n p q x w k l t hn hl e f g =
    cancel_mul l q p hl (cancel_mul n (l *ℤ q) (l *ℤ p) hn
    (ring_given (var 0 ⊗ (var 6 ⊗ var 2)) (var 0 ⊗ (var 6 ⊗ var 1))
    (given (var 0) (var 5 ⊗ var 1 ⊕ var 6 ⊗ var 2) (var 7 ⊗ var 3) ∷ given (neg (var 0 ⊗ var 1)) (var 5 ⊗ num (pos 1) ⊕ var 6 ⊗ num (pos 1)) (var 7 ⊗ var 4)
    ∷ given (neg (var 7)) ((var 0 ⊗ var 1 ⊕ num (pos 0)) ⊗ var 4) (var 3 ⊗ var 0) ∷ [])
    tt (n ∷ p ∷ q ∷ x ∷ w ∷ k ∷ l ∷ t ∷ []) (f, (g, (e, tt)))))

-- a point strictly between two points is neither
not_end : (ps : List Point) (e : ℕ) (b : Point) (z : RationalPoint) → point ps e ≢ b → InSimplex ps (e ∷ []) z → (l : IsWeightedMean (as_rational (point ps e)) (as_rational b) z) → pos 0 <ℤ l.to_y → ⊥
not_end ps e b z differ (m, mean) l above = differ (λ j. record { x = sym (one (point ps e).x b.x z.x mean.x_is l.x_is) j; y = sym (one (point ps e).y b.y z.y mean.y_is l.y_is) j; z = sym (one (point ps e).z b.z z.z mean.z_is l.z_is) j })
  where
    total : sum_by m (e ∷ []) ≡ m e
    total = first (m e)
      where
        first : (n : ℕ) → 0 + n ≡ n
        first n = omega arith

    some : pos 0 <ℤ pos (m e)
    some = natural (m e) (subst (λ n. 0 < n) total mean.some)
      where
        natural : (n : ℕ) → 0 < n → pos 0 <ℤ pos n
        natural n h = omega (arith, ints)

    one : (p q x : ℤ) → (pos (m e) *ℤ p +ℤ pos 0) *ℤ z.w ≡ x *ℤ pos (sum_by m (e ∷ [])) → l.to_x *ℤ p +ℤ l.to_y *ℤ q ≡ l.total *ℤ x → q ≡ p
    one p q x h k = one_coordinate (pos (m e)) p q x z.w l.to_x l.to_y l.total some above (h ∙ ap (λ n. x *ℤ pos n) total) k l.w_is

-- a side that is properly met with another one of other ends has no point strictly within it
met_apart : (ps : List Point) (s r : Piece) → s.a ≢ s.b → point ps r.a ≢ point ps r.b → same_ends s r ≡ false → ProperlyMet ps (s.a ∷ s.b ∷ []) (r.a ∷ r.b ∷ []) → IsOffInside (point ps s.a) (point ps s.b) (point ps r.a) (point ps r.b)
met_apart ps s r differ apart other met z zw l k kx ky = go (has_number (r.a ∷ r.b ∷ []) s.a) refl (has_number (r.a ∷ r.b ∷ []) s.b) refl (met z zw (leg_simplex ps s.a s.b z zw l) (leg_simplex ps r.a r.b z zw k))
  where
    never : true ≡ false → ⊥
    never e = cc

    empty : InSimplex ps [] z → ⊥
    empty (m, mean) = let h = mean.some in omega arith

    ends_of : (i : ℕ) → has_number (r.a ∷ r.b ∷ []) i ≡ true → (i ≡ r.a) ⊎ (i ≡ r.b)
    ends_of i e = by (either_true (r.a == i) ((r.b == i) || false) e)
      where
        by : ((r.a == i) ≡ true) ⊎ (((r.b == i) || false) ≡ true) → (i ≡ r.a) ⊎ (i ≡ r.b)
        by (inl d) = inl (sym (eqb-true r.a i d))
        by (inr d) = inr (sym (eqb-true r.b i (second (r.b == i) d)))
          where
            second : (b : Bool) → (b || false) ≡ true → b ≡ true
            second true e = refl
            second false e = e

    at_end : (i : ℕ) → (i ≡ r.a) ⊎ (i ≡ r.b) → InSimplex ps (i ∷ []) z → ⊥
    at_end i (inl e) h = not_end ps r.a (point ps r.b) z apart (subst (λ n. InSimplex ps (n ∷ []) z) e h) k ky
    at_end i (inr e) h = not_end ps r.b (point ps r.a) z (λ d. apart (sym d)) (subst (λ n. InSimplex ps (n ∷ []) z) e h) (leg_back (as_rational (point ps r.a)) (as_rational (point ps r.b)) z k) kx

    both_ends : (s.a ≡ r.a) ⊎ (s.a ≡ r.b) → (s.b ≡ r.a) ⊎ (s.b ≡ r.b) → ⊥
    both_ends (inl a) (inl b) = differ (a ∙ sym b)
    both_ends (inl a) (inr b) = never (sym (ends_same s r (straight a b)) ∙ other)
    both_ends (inr a) (inl b) = never (sym (ends_same s r (turned a b)) ∙ other)
    both_ends (inr a) (inr b) = differ (a ∙ sym b)

    go : (a : Bool) → has_number (r.a ∷ r.b ∷ []) s.a ≡ a → (b : Bool) → has_number (r.a ∷ r.b ∷ []) s.b ≡ b → InSimplex ps (common_corners (s.a ∷ s.b ∷ []) (r.a ∷ r.b ∷ [])) z → ⊥
    go false e false f h = empty (subst (λ v. InSimplex ps v z) (λ j. cond (e j) (s.a ∷ cond (f j) (s.b ∷ []) []) (cond (f j) (s.b ∷ []) [])) h)
    go true e false f h = at_end s.a (ends_of s.a e) (subst (λ v. InSimplex ps v z) (λ j. cond (e j) (s.a ∷ cond (f j) (s.b ∷ []) []) (cond (f j) (s.b ∷ []) [])) h)
    go false e true f h = at_end s.b (ends_of s.b f) (subst (λ v. InSimplex ps v z) (λ j. cond (e j) (s.a ∷ cond (f j) (s.b ∷ []) []) (cond (f j) (s.b ∷ []) [])) h)
    go true e true f h = both_ends (ends_of s.a e) (ends_of s.b f)

-- a polygon that has the side at one place, and whose other sides are properly met with it
has_once : (ps : List Point) (s : Piece) (p : List ℕ) → HasDistinctPoints ps → AllByRecursion (λ i. i < length ps) p → s.a ≢ s.b → places_of s p ≡ 1 → MeetsOthers ps s p → HasOnce ps s p
has_once ps s p distinct on differ once met = record {
  once = once;
  others = all_both (λ r. same_ends s r ≡ false → ProperlyMet ps (s.a ∷ s.b ∷ []) (r.a ∷ r.b ∷ [])) (λ r. ((r.a < length ps) × (r.b < length ps)) × (r.a ≢ r.b))
      (λ r. same_ends s r ≡ false → IsOffInside (point ps s.a) (point ps s.b) (point ps r.a) (point ps r.b)) (sides p)
      (λ r m k e. met_apart ps s r differ (points_differ ps distinct r.a r.b k.0.0 k.0.1 k.1) e (m e)) met
      (all_both (λ r. (r.a < length ps) × (r.b < length ps)) (λ r. r.a ≢ r.b) (λ r. ((r.a < length ps) × (r.b < length ps)) × (r.a ≢ r.b)) (sides p) (λ r a b. (a, b)) (all_sides (λ i. i < length ps) p on) (all_sides_tested p));
}

-- ---- a corner off the line of the side

-- three of the corners that are not on a line
pub record Span (ps : List Point) (p : List ℕ) : Type 0 where
  pub a : ℕ
  pub b : ℕ
  pub c : ℕ
  pub a_in : IsMember a p
  pub b_in : IsMember b p
  pub c_in : IsMember c p
  pub spans : spans_plane ps a b c ≡ true

pub span_of : (ps : List Point) (p : List ℕ) → IsTrue (has_span ps p) → Span ps p
span_of ps p e =
    let a = some_true (λ a. list_any (λ b. list_any (λ c. spans_plane ps a b c) p) p) p e in
    let b = some_true (λ b. list_any (λ c. spans_plane ps a.0 b c) p) p a.2 in
    let c = some_true (λ c. spans_plane ps a.0 b.0 c) p b.2 in
    record { a = a.0; b = b.0; c = c.0; a_in = a.1; b_in = b.1; c_in = c.1; spans = c.2 }

off_line : (ps : List Point) (s : Piece) (p : List ℕ) → Span ps p → ¬ (((from_to (point ps s.a) (point ps s.b)).x ≡ pos 0) × ((from_to (point ps s.a) (point ps s.b)).y ≡ pos 0) × ((from_to (point ps s.a) (point ps s.b)).z ≡ pos 0))
    → (i : ℕ) × IsMember i p × ¬ IsZero (cross (from_to (point ps s.a) (point ps s.b)) (from_to (point ps s.a) (point ps i)))
off_line ps s p span long = go (list_any (λ i. not (on i)) p) refl
  where
    on : ℕ → Bool
    on i = is_zero_vector (cross (from_to (point ps s.a) (point ps s.b)) (from_to (point ps s.a) (point ps i)))

    never : true ≡ false → ⊥
    never e = cc

    not_true : (b : Bool) → not b ≡ true → b ≡ true → ⊥
    not_true b e f = cc

    go : (b : Bool) → list_any (λ i. not (is_zero_vector (cross (from_to (point ps s.a) (point ps s.b)) (from_to (point ps s.a) (point ps i))))) p ≡ b
        → (i : ℕ) × IsMember i p × ¬ IsZero (cross (from_to (point ps s.a) (point ps s.b)) (from_to (point ps s.a) (point ps i)))
    go true e =
        let r = some_true (λ i. not (is_zero_vector (cross (from_to (point ps s.a) (point ps s.b)) (from_to (point ps s.a) (point ps i))))) p e in
        (r.0, r.1, λ z. not_true (is_zero_vector (cross (from_to (point ps s.a) (point ps s.b)) (from_to (point ps s.a) (point ps r.0)))) r.2 (test_of (cross (from_to (point ps s.a) (point ps s.b)) (from_to (point ps s.a) (point ps r.0))) z))
    go false e = absurd (never (sym span.spans ∙ line_fails ps s.a p (record {
      u = from_to (point ps s.a) (point ps s.b);
      not_zero = long;
      on = λ i m. zero_of (cross (from_to (point ps s.a) (point ps s.b)) (from_to (point ps s.a) (point ps i))) (not_false (is_zero_vector (cross (from_to (point ps s.a) (point ps s.b)) (from_to (point ps s.a) (point ps i)))) (none i m));
    }) span.a span.b span.c span.a_in span.b_in span.c_in))
      where
        untrue : (b : Bool) → ¬ (b ≡ true) → b ≡ false
        untrue true n = absurd (n refl)
        untrue false n = refl

        none : (i : ℕ) → IsMember i p → not (is_zero_vector (cross (from_to (point ps s.a) (point ps s.b)) (from_to (point ps s.a) (point ps i)))) ≡ false
        none i m = untrue _ (λ t. never (sym (any_true (λ i. not (is_zero_vector (cross (from_to (point ps s.a) (point ps s.b)) (from_to (point ps s.a) (point ps i))))) p i m t) ∙ e))

-- ---- in a facet with both polygons

pub joined_inner : (ps : List Point) (s : Piece) (f g facet : Facet) (m n : Option ℤ) → HasDistinctPoints ps → AllByRecursion (λ i. i < length ps) (only_polygon f) → AllByRecursion (λ i. i < length ps) (only_polygon g) → s.a ≢ s.b → AreJoinedOver ps s f g m n
    → facet.holes ≡ [] → Contains (areas facet) (only_polygon g) → IsInnerSide ps facet (only_polygon f) s
joined_inner ps s f g facet m n distinct f_on g_on differ joined none listed = record {
  no_holes = none;
  other = only_polygon g;
  listed = listed;
  g = wall ps s i.0;
  a_on = hands.a_on;
  b_on = hands.b_on;
  ends = apart;
  beside = all_map (λ j. IsMember j (only_polygon f)) (λ j. pos 0 ≤ℤ side (wall ps s i.0) (point ps j)) (only_polygon f) (λ j k. hands.first j (contains_of (only_polygon f) j k)) (all_members (only_polygon f));
  beyond = all_map (λ j. IsMember j (only_polygon g)) (λ j. side (wall ps s i.0) (point ps j) ≤ℤ pos 0) (only_polygon g) (λ j k. hands.second j (contains_of (only_polygon g) j k)) (all_members (only_polygon g));
  off = i.0;
  off_is = contains_of (only_polygon f) i.0 i.1;
  off_line = subst (λ k. pos 0 <ℤ k) (sym (law_wall ps s i.0 i.0)) (squares_above n3.x n3.y n3.z (λ z. i.2 (record { at_x = z.0; at_y = z.1; at_z = z.2 })));
  own = own;
  others = has_once ps s (only_polygon g) distinct g_on differ joined.once_in_second joined.second_met;
}
  where
    own : HasOnce ps s (only_polygon f)
    own = has_once ps s (only_polygon f) distinct f_on differ joined.once_in_first joined.first_met

    apart : point ps s.a ≢ point ps s.b
    apart =
        let ends = has_ends ps s (only_polygon f) own in
        points_differ ps distinct s.a s.b (all_at (λ i. i < length ps) s.a (only_polygon f) f_on (member_of (only_polygon f) s.a ends.0)) (all_at (λ i. i < length ps) s.b (only_polygon f) f_on (member_of (only_polygon f) s.b ends.1)) differ

    i : (i : ℕ) × IsMember i (only_polygon f) × ¬ IsZero (cross (from_to (point ps s.a) (point ps s.b)) (from_to (point ps s.a) (point ps i)))
    i = off_line ps s (only_polygon f) (span_of ps (only_polygon f) joined.first_spans) (λ z. apart (same_point (point ps s.a) (point ps s.b) z))
      where
        equal : (m n : ℤ) → n -ℤ m ≡ pos 0 → m ≡ n
        equal m n e = omega (arith, ints)

        same_point : (a b : Point) → ((from_to a b).x ≡ pos 0) × ((from_to a b).y ≡ pos 0) × ((from_to a b).z ≡ pos 0) → a ≡ b
        same_point a b z = λ j. record { x = equal a.x b.x z.0 j; y = equal a.y b.y z.1 j; z = equal a.z b.z z.2 j }

    n3 : Point
    n3 = cross (from_to (point ps s.a) (point ps s.b)) (from_to (point ps s.a) (point ps i.0))

    hands : IsBetweenThem ps s (only_polygon f) (only_polygon g) i.0
    hands = law_either_hand ps s (only_polygon f) (only_polygon g) i.0 joined.first_beside joined.either_side (contains_of (only_polygon f) i.0 i.1)

-- ---- in the merged facet

pub joined_only : (ps : List Point) (s : Piece) (f g : Facet) (m n : Option ℤ) → AreJoinedOver ps s f g m n → HasOnly f
joined_only ps s f g m n j = let span = span_of ps (only_polygon f) j.first_spans in has_only f span.a span.a_in

-- in a chain with a joined facet none has a hole point
chained_holes : (ps : List Point) (c : Complex) (h f : ℕ) → HasOnly (facet_at c f) → AreChained ps c h f → (facet_at c h).holes ≡ []
chained_holes ps c _ _ only (alone h) = only.holes
chained_holes ps c _ _ only (onward h m k t j r) = (joined_only ps t (facet_at c h) (facet_at c m) (marker_at c h) (marker_at c m) j.over).holes

pub law_inner : InnerLaw
law_inner ps c group inner distinct on merging f q s below cq cs is_inner = by (merging.sides_of f s below).0
  where
    by : (IsTrue (inner f s) → IsInner ps c f s) → IsInnerSide ps (merged_facet group c (group f)) q s
    by to = go (to is_inner)
      where
        go : IsInner ps c f s → IsInnerSide ps (merged_facet group c (group f)) q s
        go (g, j) = subst (λ p. IsInnerSide ps (merged_facet group c (group f)) p s) (sym q_is)
            (joined_inner ps s (facet_at c f) (facet_at c g) (merged_facet group c (group f)) (marker_at c f) (marker_at c g) distinct (on_list f j.has_first f_only) (on_list g j.has_second g_only) differ j.over none listed)
          where
            f_only : HasOnly (facet_at c f)
            f_only = joined_only ps s (facet_at c f) (facet_at c g) (marker_at c f) (marker_at c g) j.over

            g_only : HasOnly (facet_at c g)
            g_only = joined_only ps s (facet_at c g) (facet_at c f) (marker_at c g) (marker_at c f) (law_joined_back ps c s f g j).over

            q_is : q ≡ only_polygon (facet_at c f)
            q_is = is_only (facet_at c f) q f_only (area_listed (facet_at c f) q (member_of (areas (facet_at c f)) q cq))

            differ : s.a ≢ s.b
            differ = all_at (λ s. s.a ≢ s.b) s (sides q) (all_sides_tested q) (member_of (sides q) s cs)

            on_list : (h : ℕ) → h < length c.facets → HasOnly (facet_at c h) → AllByRecursion (λ i. i < length ps) (only_polygon (facet_at c h))
            on_list h l only = all_map (λ i. IsMember i (only_polygon (facet_at c h))) (λ i. i < length ps) (only_polygon (facet_at c h)) (λ i m. on h i l (contains_of (all_corners (facet_at c h)) i (only_corner (facet_at c h) i only m))) (all_members (only_polygon (facet_at c h)))

            -- the other facet is in the group
            same_group : group g ≡ group f
            same_group = law_group ps c g f (group g) (group f) (onward g f f s (law_joined_back ps c s f g j) (alone f)) (merging.groups g j.has_second) (merging.groups f j.has_first)

            listed : Contains (areas (merged_facet group c (group f))) (only_polygon (facet_at c g))
            listed = contains_of (areas (merged_facet group c (group f))) (only_polygon (facet_at c g))
                (in_filter (λ p. nat_lt 2 (length p)) (only_polygon (facet_at c g)) (merged_facet group c (group f)).polygons
                (in_flat_map (λ (e : ℕ × Facet). e.1.polygons) (g, facet_at c g) (only_polygon (facet_at c g)) (members group c (group f)) (in_members group c (group f) g j.has_second same_group) (subst (λ l. IsMember (only_polygon (facet_at c g)) l) (sym g_only.polygons) here)) g_only.long)

            -- no member has a hole point
            none : (merged_facet group c (group f)).holes ≡ []
            none = nothing_joined (λ (e : ℕ × Facet). e.1.holes) (members group c (group f)) each
              where
                each : (e : ℕ × Facet) → IsMember e (members group c (group f)) → e.1.holes ≡ []
                each e m =
                    let r = member_is group c (group f) e m in
                    ap (λ (x : Facet). x.holes) r.is ∙ chained_holes ps c e.0 f f_only (joined_chains ps c e.0 (group f) f (subst (λ k. AreChained ps c e.0 k) r.grouped (merging.groups e.0 r.below).chained) (chain_back ps c f (group f) (merging.groups f below).chained))
