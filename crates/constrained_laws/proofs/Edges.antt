-- An edge of a Delaunay tetrahedron that meets no facet triangle but in its own corners is an edge of a whole mesh. A tetrahedron of the mesh that
-- holds the edge's middle has one of its ends in its circumsphere, if it lacks one: over the middle its lifted plane is not below that of the
-- Delaunay tetrahedron, which has the lifted edge. And nothing hides that end from the middle.
use Rattle.std.proofs.Common.{◌≡◌, ◌≢◌, ◌⊎◌, inl, inr, ℕ, ◌+◌, ◌*◌, ◌<◌, ℤ, pos, negsuc, neg_ℤ, ◌+ℤ◌, ◌*ℤ◌, ◌<ℤ◌, ◌≤ℤ◌, Bool, true, false, cond, ◌&&◌, List, [], ◌∷◌, map, length, refl, ap, sym, subst, ◌∙◌, arith, eqb-true, eq-eqb}
use lib.IntN.{zero-*ℤ}
use Rattle.std.specs.Prelude.{Contains, All, ◌==◌, sum_by}
use Rattle.std.proofs.lemmas.Int.{ints}
use Rattle.std.proofs.lemmas.List.Elements.{All-contains}
use Rattle.exact_algebra.proofs.Ring.{num, var, ring, ring_given, given, same, ◌⊕◌, ◌⊗◌}
use Rattle.std.proofs.lemmas.List.Sums.{sum_by-cons}
use Rattle.exact_algebra.proofs.Signs.{mul_pos, mul_nonneg, pos_not_zero}
use Rattle.sign_predicates.specs.Point.{Point, RationalPoint, as_rational}
use Rattle.sign_predicates.specs.Orientation.{volume, InClosed, IsPositive}
use Rattle.geo_laws.specs.Delaunay.{point, corners, numbers, all_numbers, delaunay_rows, has_corner, IsDelaunay, IsOn}
use Rattle.geo_laws.specs.Height.{IsLexPositive, residual_at, residual, places, lifted, IsLowest}
use Rattle.geo_laws.specs.Simplex.{sum_by_weights, InSimplex, ProperlyMet, has_number, common_corners}
use Rattle.geo_laws.specs.Facet.{corner_numbers}
use Rattle.geo_laws.specs.Segment.{is_side}
use Rattle.geo_laws.specs.Path.{IsOnLeg}
use Rattle.geo_laws.specs.declared.complex.FacetTriangle.{FacetTriangle}
use Rattle.geo_laws.specs.declared.complex.Piece.{Piece}
use Rattle.geo_laws.specs.declared.tetrahedra.Tet.{Tet}
use Rattle.sign_predicates.proofs.Places.{Place, A, B, C, D, IsOther, same_or_other}
use Rattle.geo_laws.proofs.Places.{number, other_back, over_places}
use Rattle.geo_laws.proofs.Determinants.{combined}
use Rattle.geo_laws.proofs.DelaunayList.{law_delaunay_list}
use Rattle.geo_laws.proofs.Members.{IsMember, in_cons, member_of, contains_of, some_true, any_true, both_true, filter_cases}
use Rattle.geo_laws.proofs.Corners.{IsCorner, corner_of, corner_or_not, contains_corner, member_corner, on_corner, on_of_among, contains_below, all_within, found, same_or_not, distinct}
use Rattle.geo_laws.proofs.Lexicographic.{IsLexAbove, IsLexAtLeast, lex_scale, lex_same, above_add, add_above, at_least_add, at_least_scale, at_least_multiple, above_not_zero, zero_everywhere}
use Rattle.geo_laws.proofs.LeastHeight.{law_residual}
use Rattle.geo_laws.proofs.Lift.{lowest_of}
use Rattle.geo_laws.proofs.Means.{weighted_sum-numbers, weighted_sum-at_least}
use Rattle.geo_laws.proofs.Radical.{SidesMean, residuals-cancel, residual-own, residual-at_least}
use Rattle.path_laws.specs.Places.{IsFilling}
use Rattle.path_laws.proofs.Signs.{natural, pos_of_nat, zero_nat, some_weight, sum_pos_right}
use Rattle.path_laws.proofs.Forms.{Form, mix, value-mix, value-combined, leg_side}
use Rattle.path_laws.proofs.Means.{at, mean_zero}
use Rattle.path_laws.proofs.Rows.{wall, wall_own, wall_other, wall_least, place_of, member_or_not, closed_by, mean_of, positive_row, on_row}
use Rattle.path_laws.proofs.Clear.{TriangleFace, triangle_face}
use Rattle.path_laws.proofs.Crossings.{LegMissesFacets}
use Rattle.crossing_laws.proofs.Tests.{never}
use Rattle.path_laws.proofs.HolePoints.{NearRow, near_row}
use Rattle.constrained_laws.specs.Constrained.{KeptPieceLaw}
use Rattle.constrained_laws.proofs.Across.{IsInSphere, neg-map}
use Rattle.constrained_laws.proofs.Walk.{number_in}
use Rattle.constrained_laws.proofs.Sight.{seen_not}

-- ---- sums over four places

-- a sum of four lists that are at least 0, of which one is above 0
four_above : (f : Place → ℕ → ℤ) (ks : List ℕ) → ((v : Place) → IsLexAtLeast (f v) ks) → (v : Place) → IsLexAbove (f v) ks → IsLexAbove (λ k. over_places (λ u. f u k)) ks
four_above f ks l A h = above_add (λ k. f A k +ℤ f B k +ℤ f C k) (f D) ks (above_add (λ k. f A k +ℤ f B k) (f C) ks (above_add (f A) (f B) ks h (l B)) (l C)) (l D)
four_above f ks l B h = above_add (λ k. f A k +ℤ f B k +ℤ f C k) (f D) ks (above_add (λ k. f A k +ℤ f B k) (f C) ks (add_above (f A) (f B) ks (l A) h) (l C)) (l D)
four_above f ks l C h = above_add (λ k. f A k +ℤ f B k +ℤ f C k) (f D) ks (add_above (λ k. f A k +ℤ f B k) (f C) ks (at_least_add (f A) (f B) ks (l A) (l B)) h) (l D)
four_above f ks l D h = add_above (λ k. f A k +ℤ f B k +ℤ f C k) (f D) ks (at_least_add (λ k. f A k +ℤ f B k) (f C) ks (at_least_add (f A) (f B) ks (l A) (l B)) (l C)) h

-- ---- a segment between two corners of a tetrahedron

-- two corners of a Delaunay tetrahedron, by their places
record IsEdge (ps : List Point) (t : Tet) (i j : ℕ) : Type 0 where
  delaunay : IsDelaunay ps t
  p : Place
  q : Place
  other : IsOther p q
  first : i ≡ number t p
  second : j ≡ number t q

-- the middle of the segment
middle : List Point → ℕ → ℕ → RationalPoint
middle ps i j = mix (pos 1) (pos 1) (as_rational (point ps i)) (as_rational (point ps j))

middle_weight : (ps : List Point) (i j : ℕ) → pos 0 <ℤ (middle ps i j).w
unfolding middle
middle_weight ps i j = omega (arith, ints)

-- the side of the middle, from those of the ends
middle-value : (g : Form) (ps : List Point) (i j : ℕ) → g.value (middle ps i j) ≡ pos 1 *ℤ at g ps i +ℤ pos 1 *ℤ at g ps j
unfolding middle
middle-value g ps i j = value-mix g (pos 1) (pos 1) (as_rational (point ps i)) (as_rational (point ps j))

one-one : (a b : ℤ) → pos 1 *ℤ a +ℤ pos 1 *ℤ b ≡ a +ℤ b
unfolding same
one-one a b = ring (num (pos 1) ⊗ var 0 ⊕ num (pos 1) ⊗ var 1) (var 0 ⊕ var 1) tt (a ∷ b ∷ [])

-- with the sides of the ends as numbers
middle_is : (g : Form) (ps : List Point) (i j : ℕ) (a b : ℤ) → at g ps i ≡ a → at g ps j ≡ b → g.value (middle ps i j) ≡ a +ℤ b
middle_is g ps i j a b e d = middle-value g ps i j ∙ one-one (at g ps i) (at g ps j) ∙ (λ k. e k +ℤ d k)

above_first : (a v : ℤ) → a ≡ v +ℤ pos 0 → pos 0 <ℤ v → pos 0 <ℤ a
above_first a v e h = omega (arith, ints)

above_second : (a v : ℤ) → a ≡ pos 0 +ℤ v → pos 0 <ℤ v → pos 0 <ℤ a
above_second a v e h = omega (arith, ints)

least_sum : (a b c : ℤ) → a ≡ b +ℤ c → pos 0 ≤ℤ b → pos 0 ≤ℤ c → pos 0 ≤ℤ a
least_sum a b c e h k = omega (arith, ints)

module _ (ps : List Point) (t : Tet) (i j : ℕ) (edge : IsEdge ps t i j) where
  positive : IsPositive (corners ps t)
  positive = edge.delaunay.is_positive

  within : (v : Place) → number t v < length ps
  within v = on_corner ps t (on_of_among ps (all_numbers ps) t (all_within ps) edge.delaunay.is_on) v

  first_within : i < length ps
  first_within = subst (λ n. n < length ps) (sym edge.first) (within edge.p)

  second_within : j < length ps
  second_within = subst (λ n. n < length ps) (sym edge.second) (within edge.q)

  wall_first : (v : Place) → IsOther v edge.p → at (wall ps t v) ps i ≡ pos 0
  wall_first v o = ap (at (wall ps t v) ps) edge.first ∙ wall_other ps t v edge.p o

  wall_second : (v : Place) → IsOther v edge.q → at (wall ps t v) ps j ≡ pos 0
  wall_second v o = ap (at (wall ps t v) ps) edge.second ∙ wall_other ps t v edge.q o

  own_first : at (wall ps t edge.p) ps i ≡ volume (corners ps t)
  own_first = ap (at (wall ps t edge.p) ps) edge.first ∙ wall_own ps t edge.p

  own_second : at (wall ps t edge.q) ps j ≡ volume (corners ps t)
  own_second = ap (at (wall ps t edge.q) ps) edge.second ∙ wall_own ps t edge.q

  -- the middle weighs at the two ends alone
  middle_first : pos 0 <ℤ (wall ps t edge.p).value (middle ps i j)
  middle_first = above_first _ _ (middle_is (wall ps t edge.p) ps i j _ _ own_first (wall_second edge.p edge.other)) positive

  middle_second : pos 0 <ℤ (wall ps t edge.q).value (middle ps i j)
  middle_second = above_second _ _ (middle_is (wall ps t edge.q) ps i j _ _ (wall_first edge.q (other_back edge.p edge.q edge.other)) own_second) positive

  middle_none : (v : Place) → IsOther v edge.p → IsOther v edge.q → (wall ps t v).value (middle ps i j) ≡ pos 0
  middle_none v o r = middle_is (wall ps t v) ps i j (pos 0) (pos 0) (wall_first v o) (wall_second v r)

  middle_closed : InClosed (corners ps t) (middle ps i j)
  middle_closed = closed_by ps t (middle ps i j) (λ v. least_sum _ _ _ (middle_is (wall ps t v) ps i j _ _ refl refl)
      (wall_least ps t v positive i (subst (λ n. IsMember n (numbers t)) (sym edge.first) (member_corner t edge.p)))
      (wall_least ps t v positive j (subst (λ n. IsMember n (numbers t)) (sym edge.second) (member_corner t edge.q))))

  low : IsLowest ps (lifted ps) t
  low = lowest_of ps (all_numbers ps) (all_within ps) t edge.delaunay

  -- a closed tetrahedron u that holds the middle does not have both ends on or above its lifted plane, one of them above it
  not_above : (u : Tet) → IsOn ps u → IsPositive (corners ps u) → InClosed (corners ps u) (middle ps i j)
      → IsLexAtLeast (residual_at ps (lifted ps) u i) (places (length ps)) → IsLexAtLeast (residual_at ps (lifted ps) u j) (places (length ps))
      → IsLexAbove (residual_at ps (lifted ps) u i) (places (length ps)) ⊎ IsLexAbove (residual_at ps (lifted ps) u j) (places (length ps)) → ⊥
  not_above u on p_u closed at_i at_j some =
      above_not_zero _ ks (add_above (λ k. c *ℤ f k) (λ k. d *ℤ g k) ks (at_least_scale c f ks c_above f_least) (lex_scale d g ks d_above (g_above some)))
      (zero_everywhere _ ks (residuals-cancel ps (lifted ps) t u m.weight n.weight x m.mean n.mean))
    where
      x : RationalPoint
      x = middle ps i j

      ks : List ℕ
      ks = places (length ps)

      m : SidesMean ps t x
      m = mean_of ps t x (middle_weight ps i j) positive middle_closed

      n : SidesMean ps u x
      n = mean_of ps u x (middle_weight ps i j) p_u closed

      c : ℤ
      c = volume (corners ps u) *ℤ (pos (sum_by m.weight (numbers t)) *ℤ x.w)

      d : ℤ
      d = volume (corners ps t) *ℤ (pos (sum_by n.weight (numbers u)) *ℤ x.w)

      f : ℕ → ℤ
      f k = sum_by_weights n.weight (λ e. residual_at ps (lifted ps) t e k) (numbers u)

      g : ℕ → ℤ
      g k = sum_by_weights m.weight (λ e. residual_at ps (lifted ps) u e k) (numbers t)

      c_above : pos 0 <ℤ c
      c_above = mul_pos _ _ p_u (mul_pos _ _ (pos_of_nat _ m.mean.some) (middle_weight ps i j))

      d_above : pos 0 <ℤ d
      d_above = mul_pos _ _ positive (mul_pos _ _ (pos_of_nat _ n.mean.some) (middle_weight ps i j))

      f_least : IsLexAtLeast f ks
      f_least = weighted_sum-at_least n.weight (λ e. residual_at ps (lifted ps) t e) ks (numbers u)
          (λ e h. residual-at_least ps (all_numbers ps) (lifted ps) t low e (let v = place_of u e h in contains_below (length ps) e (subst (λ a. a < length ps) (sym v.1) (on_corner ps u on v.0))))

      part : Place → ℕ → ℤ
      part v k = pos (m.weight (number t v)) *ℤ residual_at ps (lifted ps) u (number t v) k

      part_least : (v : Place) → (v ≡ edge.p) ⊎ IsOther v edge.p → (v ≡ edge.q) ⊎ IsOther v edge.q → IsLexAtLeast (part v) ks
      part_least v (inl e) _ = at_least_multiple (pos (m.weight (number t v))) (residual_at ps (lifted ps) u (number t v)) ks (natural _) (subst (λ a. IsLexAtLeast (residual_at ps (lifted ps) u a) ks) (edge.first ∙ ap (number t) (sym e)) at_i)
      part_least v (inr o) (inl e) = at_least_multiple (pos (m.weight (number t v))) (residual_at ps (lifted ps) u (number t v)) ks (natural _) (subst (λ a. IsLexAtLeast (residual_at ps (lifted ps) u a) ks) (edge.second ∙ ap (number t) (sym e)) at_j)
      part_least v (inr o) (inr r) = inr (zero_everywhere (part v) ks (λ k. ap (λ a. pos a *ℤ residual_at ps (lifted ps) u (number t v) k) (zero_nat _ _ (m.is v) (middle_none v o r)) ∙ zero-*ℤ (residual_at ps (lifted ps) u (number t v) k)))

      part_above : (v : Place) (e : ℕ) → e ≡ number t v → pos 0 <ℤ (wall ps t v).value (middle ps i j) → IsLexAbove (residual_at ps (lifted ps) u e) ks → IsLexAbove (part v) ks
      part_above v e is up h = lex_scale (pos (m.weight (number t v))) (residual_at ps (lifted ps) u (number t v)) ks (pos_of_nat _ (some_weight _ _ (m.is v) up)) (subst (λ a. IsLexAbove (residual_at ps (lifted ps) u a) ks) is h)

      four : (v : Place) → IsLexAbove (part v) ks → IsLexAbove g ks
      four v h = lex_same (λ k. over_places (λ w. part w k)) g ks (λ k. sym (weighted_sum-numbers m.weight (λ e. residual_at ps (lifted ps) u e k) t))
          (four_above part ks (λ w. part_least w (same_or_other w edge.p) (same_or_other w edge.q)) v h)

      g_above : IsLexAbove (residual_at ps (lifted ps) u i) ks ⊎ IsLexAbove (residual_at ps (lifted ps) u j) ks → IsLexAbove g ks
      g_above (inl h) = four edge.p (part_above edge.p i edge.first middle_first h)
      g_above (inr h) = four edge.q (part_above edge.q j edge.second middle_second h)

  -- ---- so where it lacks one of the ends, one is in its circumsphere

  -- a point is a corner, above the lifted plane, or in the circumsphere
  data Lies (u : Tet) (e : ℕ) : Type 0 where
    own : IsCorner u e → Lies u e
    above : IsLexAbove (residual_at ps (lifted ps) u e) (places (length ps)) → Lies u e
    below : IsInSphere ps u e → Lies u e

  lies : (u : Tet) → IsPositive (corners ps u) → (e : ℕ) → e < length ps → Lies u e
  lies u p_u e l = go (corner_or_not u e)
    where
      by : IsLexPositive (residual ps (lifted ps) u e) ⊎ IsLexPositive (map neg_ℤ (residual ps (lifted ps) u e)) → Lies u e
      by (inl a) = above a
      by (inr b) = below (subst IsLexPositive (neg-map (residual_at ps (lifted ps) u e) (places (length ps))) b)

      go : IsCorner u e ⊎ ¬ Contains (numbers u) e → Lies u e
      go (inl c) = own c
      go (inr further) = by (law_residual ps (lifted ps) u e l p_u further)

  zero_own : (u : Tet) (e : ℕ) → IsCorner u e → IsLexAtLeast (residual_at ps (lifted ps) u e) (places (length ps))
  zero_own u e c = inr (zero_everywhere (residual_at ps (lifted ps) u e) (places (length ps)) (residual-own ps (lifted ps) u e c))

  one_below : (u : Tet) → IsOn ps u → IsPositive (corners ps u) → InClosed (corners ps u) (middle ps i j) → (IsCorner u i → IsCorner u j → ⊥) → IsInSphere ps u i ⊎ IsInSphere ps u j
  one_below u on p_u closed none = go (lies u p_u i first_within) (lies u p_u j second_within)
    where
      go : Lies u i → Lies u j → IsInSphere ps u i ⊎ IsInSphere ps u j
      go (below h) _ = inl h
      go (own c) (below h) = inr h
      go (above a) (below h) = inr h
      go (own c) (own d) = absurd (none c d)
      go (own c) (above a) = absurd (not_above u on p_u closed (zero_own u i c) (inl a) (inr a))
      go (above a) (own c) = absurd (not_above u on p_u closed (inl a) (zero_own u j c) (inl a))
      go (above a) (above b) = absurd (not_above u on p_u closed (inl a) (inl b) (inl a))

-- ---- nothing hides an end from the middle

pair-sum : (zw zx al be a b : ℤ) → zx *ℤ (al +ℤ be) ≡ zw *ℤ (al *ℤ a +ℤ be *ℤ b) → (al *ℤ a +ℤ (be *ℤ b +ℤ pos 0)) *ℤ zw ≡ zx *ℤ (al +ℤ be)
unfolding same
pair-sum zw zx al be a b e =
    ring_given ((var 2 ⊗ var 4 ⊕ (var 3 ⊗ var 5 ⊕ num (pos 0))) ⊗ var 0) (var 1 ⊗ (var 2 ⊕ var 3))
    (given (num (negsuc 0)) (var 1 ⊗ (var 2 ⊕ var 3)) (var 0 ⊗ (var 2 ⊗ var 4 ⊕ var 3 ⊗ var 5)) ∷ []) tt (zw ∷ zx ∷ al ∷ be ∷ a ∷ b ∷ []) (e, tt)

-- a mean of two points lies in their hull
pair_in : (ps : List Point) (i j : ℕ) → i ≢ j → (al be : ℕ) → 0 < al + be → (z : RationalPoint)
    → z.x *ℤ pos (al + be) ≡ z.w *ℤ (pos al *ℤ (point ps i).x +ℤ pos be *ℤ (point ps j).x)
    → z.y *ℤ pos (al + be) ≡ z.w *ℤ (pos al *ℤ (point ps i).y +ℤ pos be *ℤ (point ps j).y)
    → z.z *ℤ pos (al + be) ≡ z.w *ℤ (pos al *ℤ (point ps i).z +ℤ pos be *ℤ (point ps j).z) → InSimplex ps (i ∷ j ∷ []) z
pair_in ps i j differ al be some z x y w = (
  weight,
  record {
    some = subst (λ n. 0 < n) (sym total) some;
    x_is = by (λ n. (point ps n).x) z.x x;
    y_is = by (λ n. (point ps n).y) z.y y;
    z_is = by (λ n. (point ps n).z) z.z w;
  },
)
  where
    weight : ℕ → ℕ
    weight n = cond (n == i) al be

    at_i : weight i ≡ al
    at_i = ap (λ b. cond b al be) (eq-eqb i i refl)

    not_i : (b : Bool) → (j == i) ≡ b → (j == i) ≡ false
    not_i true e = absurd (differ (sym (eqb-true j i e)))
    not_i false e = e

    at_j : weight j ≡ be
    at_j = ap (λ b. cond b al be) (not_i (j == i) refl)

    total : sum_by weight (i ∷ j ∷ []) ≡ al + be
    total = let e = sum_by-cons weight i (j ∷ []) in let d = sum_by-cons weight j [] in let a = at_i in let b = at_j in omega arith

    by : (f : ℕ → ℤ) (q : ℤ) → q *ℤ pos (al + be) ≡ z.w *ℤ (pos al *ℤ f i +ℤ pos be *ℤ f j) → sum_by_weights weight f (i ∷ j ∷ []) *ℤ z.w ≡ q *ℤ pos (sum_by weight (i ∷ j ∷ []))
    by f q e = (λ k. (pos (at_i k) *ℤ f i +ℤ (pos (at_j k) *ℤ f j +ℤ pos 0)) *ℤ z.w) ∙ pair-sum z.w q (pos al) (pos be) (f i) (f j) e ∙ ap (λ n. q *ℤ pos n) (sym total)

pair_cases : (e i j : ℕ) → IsMember e (i ∷ j ∷ []) → (e ≡ i) ⊎ (e ≡ j)
pair_cases e i j m = go (in_cons e i (j ∷ []) m)
  where
    last : (e ≡ j) ⊎ IsMember e [] → (e ≡ i) ⊎ (e ≡ j)
    last (inl d) = inr d
    last (inr n) = elim n [ ]

    go : (e ≡ i) ⊎ IsMember e (j ∷ []) → (e ≡ i) ⊎ (e ≡ j)
    go (inl d) = inl d
    go (inr n) = last (in_cons e j [] n)

-- a point of the leg from the middle to near the first end, as a mean of both
near-first : (z w m n k a b : ℤ) → z *ℤ (m *ℤ (pos 1 *ℤ pos 1 +ℤ pos 1 *ℤ pos 1) +ℤ n *ℤ (k *ℤ pos 1 +ℤ (pos 1 *ℤ pos 1 +ℤ pos 1 *ℤ pos 1))) ≡ w *ℤ (m *ℤ (pos 1 *ℤ a +ℤ pos 1 *ℤ b) +ℤ n *ℤ (k *ℤ a +ℤ (pos 1 *ℤ a +ℤ pos 1 *ℤ b)))
    → z *ℤ ((m +ℤ n +ℤ n *ℤ k) +ℤ (m +ℤ n)) ≡ w *ℤ ((m +ℤ n +ℤ n *ℤ k) *ℤ a +ℤ (m +ℤ n) *ℤ b)
unfolding same
near-first z w m n k a b e =
    ring_given (var 0 ⊗ ((var 2 ⊕ var 3 ⊕ var 3 ⊗ var 4) ⊕ (var 2 ⊕ var 3))) (var 1 ⊗ ((var 2 ⊕ var 3 ⊕ var 3 ⊗ var 4) ⊗ var 5 ⊕ (var 2 ⊕ var 3) ⊗ var 6))
    (given (num (pos 1)) (var 0 ⊗ (var 2 ⊗ (num (pos 1) ⊗ num (pos 1) ⊕ num (pos 1) ⊗ num (pos 1)) ⊕ var 3 ⊗ (var 4 ⊗ num (pos 1) ⊕ (num (pos 1) ⊗ num (pos 1) ⊕ num (pos 1) ⊗ num (pos 1)))))
    (var 1 ⊗ (var 2 ⊗ (num (pos 1) ⊗ var 5 ⊕ num (pos 1) ⊗ var 6) ⊕ var 3 ⊗ (var 4 ⊗ var 5 ⊕ (num (pos 1) ⊗ var 5 ⊕ num (pos 1) ⊗ var 6)))) ∷ [])
    tt (z ∷ w ∷ m ∷ n ∷ k ∷ a ∷ b ∷ []) (e, tt)

near-second : (z w m n k a b : ℤ) → z *ℤ (m *ℤ (pos 1 *ℤ pos 1 +ℤ pos 1 *ℤ pos 1) +ℤ n *ℤ (k *ℤ pos 1 +ℤ (pos 1 *ℤ pos 1 +ℤ pos 1 *ℤ pos 1))) ≡ w *ℤ (m *ℤ (pos 1 *ℤ a +ℤ pos 1 *ℤ b) +ℤ n *ℤ (k *ℤ b +ℤ (pos 1 *ℤ a +ℤ pos 1 *ℤ b)))
    → z *ℤ ((m +ℤ n) +ℤ (m +ℤ n +ℤ n *ℤ k)) ≡ w *ℤ ((m +ℤ n) *ℤ a +ℤ (m +ℤ n +ℤ n *ℤ k) *ℤ b)
unfolding same
near-second z w m n k a b e =
    ring_given (var 0 ⊗ ((var 2 ⊕ var 3) ⊕ (var 2 ⊕ var 3 ⊕ var 3 ⊗ var 4))) (var 1 ⊗ ((var 2 ⊕ var 3) ⊗ var 5 ⊕ (var 2 ⊕ var 3 ⊕ var 3 ⊗ var 4) ⊗ var 6))
    (given (num (pos 1)) (var 0 ⊗ (var 2 ⊗ (num (pos 1) ⊗ num (pos 1) ⊕ num (pos 1) ⊗ num (pos 1)) ⊕ var 3 ⊗ (var 4 ⊗ num (pos 1) ⊕ (num (pos 1) ⊗ num (pos 1) ⊕ num (pos 1) ⊗ num (pos 1)))))
    (var 1 ⊗ (var 2 ⊗ (num (pos 1) ⊗ var 5 ⊕ num (pos 1) ⊗ var 6) ⊕ var 3 ⊗ (var 4 ⊗ var 6 ⊕ (num (pos 1) ⊗ var 5 ⊕ num (pos 1) ⊗ var 6)))) ∷ [])
    tt (z ∷ w ∷ m ∷ n ∷ k ∷ a ∷ b ∷ []) (e, tt)

leg_in : (ps : List Point) (i j e : ℕ) → i ≢ j → (e ≡ i) ⊎ (e ≡ j) → (k : ℕ) (z : RationalPoint) → IsOnLeg (middle ps i j) (combined (pos k) (as_rational (point ps e)) (middle ps i j)) z → InSimplex ps (i ∷ j ∷ []) z
unfolding middle
leg_in ps i j e differ (inl is) k z l =
    let h = subst (λ n. IsOnLeg (middle ps i j) (combined (pos k) (as_rational (point ps n)) (middle ps i j)) z) is l in
    pair_in ps i j differ (h.0 + h.1 + h.1 * k) (h.0 + h.1) (let s = h.2 in omega arith) z
    (near-first z.x z.w (pos h.0) (pos h.1) (pos k) (point ps i).x (point ps j).x h.3) (near-first z.y z.w (pos h.0) (pos h.1) (pos k) (point ps i).y (point ps j).y h.4) (near-first z.z z.w (pos h.0) (pos h.1) (pos k) (point ps i).z (point ps j).z h.5)
leg_in ps i j e differ (inr is) k z l =
    let h = subst (λ n. IsOnLeg (middle ps i j) (combined (pos k) (as_rational (point ps n)) (middle ps i j)) z) is l in
    pair_in ps i j differ (h.0 + h.1) (h.0 + h.1 + h.1 * k) (let s = h.2 in omega arith) z
    (near-second z.x z.w (pos h.0) (pos h.1) (pos k) (point ps i).x (point ps j).x h.3) (near-second z.y z.w (pos h.0) (pos h.1) (pos k) (point ps i).y (point ps j).y h.4) (near-second z.z z.w (pos h.0) (pos h.1) (pos k) (point ps i).z (point ps j).z h.5)

module _ (ps : List Point) (ts : List FacetTriangle) (rows : List Tet) (fill : IsFilling ps ts rows) (t : Tet) (i j : ℕ) (edge : IsEdge ps t i j)
    (met : All (λ k. ProperlyMet ps (corner_numbers k) (i ∷ j ∷ [])) ts) (none : (u : Tet) → Contains rows u → IsCorner u i → IsCorner u j → ⊥) where
  differ : i ≢ j
  differ e = distinct ps t edge.delaunay.is_positive edge.p edge.q edge.other (sym edge.first ∙ e ∙ edge.second)

  -- a point of the leg is off the faces of the tetrahedron opposite the two ends
  leg_above_wall : (e : ℕ) → (e ≡ i) ⊎ (e ≡ j) → (k : ℕ) (z : RationalPoint) → pos 0 <ℤ z.w → IsOnLeg (middle ps i j) (combined (pos k) (as_rational (point ps e)) (middle ps i j)) z
      → (v : Place) → pos 0 <ℤ (wall ps t v).value (middle ps i j) → pos 0 <ℤ (wall ps t v).value z
  leg_above_wall e is k z zw l v up = leg_side (wall ps t v) (middle ps i j) (combined (pos k) (as_rational (point ps e)) (middle ps i j)) z (middle_weight ps i j) near_w zw l up
      (subst (λ a. pos 0 <ℤ a) (sym (value-combined (wall ps t v) (pos k) (as_rational (point ps e)) (middle ps i j))) (sum_pos_right _ _ (mul_nonneg (pos k) _ (natural k) (wall_least ps t v edge.delaunay.is_positive e (own is))) up))
    where
      own : (e ≡ i) ⊎ (e ≡ j) → IsMember e (numbers t)
      own (inl d) = subst (λ n. IsMember n (numbers t)) (sym (d ∙ edge.first)) (member_corner t edge.p)
      own (inr d) = subst (λ n. IsMember n (numbers t)) (sym (d ∙ edge.second)) (member_corner t edge.q)

      near_w : pos 0 <ℤ (combined (pos k) (as_rational (point ps e)) (middle ps i j)).w
      near_w = sum_pos_right (pos k *ℤ pos 1) (middle ps i j).w (mul_nonneg (pos k) (pos 1) (natural k) (omega (arith, ints))) (middle_weight ps i j)

  -- where a facet triangle has such a point, it has both ends
  both_ends : (f : FacetTriangle) → Contains ts f → (z : RationalPoint) → pos 0 <ℤ z.w → InSimplex ps (corner_numbers f) z → InSimplex ps (i ∷ j ∷ []) z
      → pos 0 <ℤ (wall ps t edge.p).value z → pos 0 <ℤ (wall ps t edge.q).value z → IsMember i (corner_numbers f) × IsMember j (corner_numbers f)
  both_ends f in_f z zw a b above_p above_q = (first (member_or_not i common), second (member_or_not j common))
    where
      common : List ℕ
      common = common_corners (corner_numbers f) (i ∷ j ∷ [])

      in_common : InSimplex ps common z
      in_common = All-contains (λ k. ProperlyMet ps (corner_numbers k) (i ∷ j ∷ [])) ts f met in_f z zw a b

      kept : (e : ℕ) → IsMember e common → IsMember e (corner_numbers f) × (has_number (i ∷ j ∷ []) e ≡ true)
      kept e m = filter_cases (has_number (i ∷ j ∷ [])) e (corner_numbers f) m

      of_pair : (e : ℕ) → IsMember e common → (e ≡ i) ⊎ (e ≡ j)
      of_pair e m = pair_cases e i j (member_of (i ∷ j ∷ []) e (number_in (i ∷ j ∷ []) e (kept e m).1))

      first : IsMember i common ⊎ (IsMember i common → ⊥) → IsMember i (corner_numbers f)
      first (inl m) = (kept i m).0
      first (inr n) = absurd (pos_not_zero _ above_p (mean_zero ps (wall ps t edge.p) common in_common.0 z in_common.1 (λ e m. zero e m (of_pair e m))))
        where
          zero : (e : ℕ) → IsMember e common → (e ≡ i) ⊎ (e ≡ j) → at (wall ps t edge.p) ps e ≡ pos 0
          zero e m (inl d) = absurd (n (subst (λ k. IsMember k common) d m))
          zero e m (inr d) = ap (at (wall ps t edge.p) ps) d ∙ wall_second ps t i j edge edge.p edge.other

      second : IsMember j common ⊎ (IsMember j common → ⊥) → IsMember j (corner_numbers f)
      second (inl m) = (kept j m).0
      second (inr n) = absurd (pos_not_zero _ above_q (mean_zero ps (wall ps t edge.q) common in_common.0 z in_common.1 (λ e m. zero e m (of_pair e m))))
        where
          zero : (e : ℕ) → IsMember e common → (e ≡ i) ⊎ (e ≡ j) → at (wall ps t edge.q) ps e ≡ pos 0
          zero e m (inl d) = ap (at (wall ps t edge.q) ps) d ∙ wall_first ps t i j edge edge.q (other_back edge.p edge.q edge.other)
          zero e m (inr d) = absurd (n (subst (λ k. IsMember k common) d m))

  sees : (e : ℕ) → (e ≡ i) ⊎ (e ≡ j) → (k : ℕ) → LegMissesFacets ps ts (middle ps i j) (combined (pos k) (as_rational (point ps e)) (middle ps i j))
  sees e is k z zw l (place, f, within, at_f, in_f) = none r.row r.listed (corner (both.0)) (corner (both.1))
    where
      r : TriangleFace rows f
      r = triangle_face ps ts rows fill f (place, within, at_f)

      both : IsMember i (corner_numbers f) × IsMember j (corner_numbers f)
      both = both_ends f (place, within, at_f) z zw in_f (leg_in ps i j e differ is k z l) (leg_above_wall e is k z zw l edge.p (middle_first ps t i j edge)) (leg_above_wall e is k z zw l edge.q (middle_second ps t i j edge))

      corner : {n : ℕ} → IsMember n (corner_numbers f) → IsCorner r.row n
      corner {n} m = let v = r.own n m in (v.0, v.2)

-- ---- the law

-- two corners of a tetrahedron are the ends of an edge of the list
edge_found : (rows : List Tet) (p : Piece) (u : Tet) → Contains rows u → IsCorner u p.a → IsCorner u p.b → is_side rows p ≡ true
edge_found rows p u in_u a b = any_true (λ t. has_corner t p.a && has_corner t p.b) rows u (member_of rows u in_u)
    (λ k. found (numbers u) p.a (contains_corner u p.a a) k && found (numbers u) p.b (contains_corner u p.b b) k)

pub law_kept_piece : KeptPieceLaw
law_kept_piece ps ts rows whole each p is_edge met = go (is_side rows p) refl
  where
    fill : IsFilling ps ts rows
    fill = whole.filling

    row : (u : Tet) × IsMember u (delaunay_rows ps) × (has_corner u p.a && has_corner u p.b ≡ true)
    row = some_true (λ u. has_corner u p.a && has_corner u p.b) (delaunay_rows ps) is_edge

    t : Tet
    t = row.0

    both : (has_corner t p.a ≡ true) × (has_corner t p.b ≡ true)
    both = both_true (has_corner t p.a) (has_corner t p.b) row.2

    delaunay : IsDelaunay ps t
    delaunay = ((law_delaunay_list ps).exactly t).0 (contains_of (delaunay_rows ps) t row.1)

    a : IsCorner t p.a
    a = corner_of t p.a (number_in (numbers t) p.a both.0)

    b : IsCorner t p.b
    b = corner_of t p.b (number_in (numbers t) p.b both.1)

    within : p.a < length ps
    within = subst (λ n. n < length ps) (sym a.1) (on_corner ps t (on_of_among ps (all_numbers ps) t (all_within ps) delaunay.is_on) a.0)

    -- one point is an edge of each tetrahedron that has it
    single : p.a ≡ p.b → is_side rows p ≡ true
    single e = let r = each p.a within in let c = corner_of r.1 p.a r.4 in edge_found rows p r.1 (r.0, r.2, r.3) c (c.0, sym e ∙ c.1)

    -- a tetrahedron that holds the middle, which lacks an end
    absurd_row : IsEdge ps t p.a p.b → ((u : Tet) → Contains rows u → IsCorner u p.a → IsCorner u p.b → ⊥) → ⊥
    absurd_row edge none = at_middle (near_row ps ts rows fill (middle ps p.a p.b) (middle_weight ps p.a p.b) (record { row = t; is_on = delaunay.is_on; is_positive = delaunay.is_positive; holds = middle_closed ps t p.a p.b edge }) [])
      where
        seen : (u : Tet) → Contains rows u → InClosed (corners ps u) (middle ps p.a p.b) → (e : ℕ) → (e ≡ p.a) ⊎ (e ≡ p.b) → e < length ps → IsInSphere ps u e → ⊥
        seen u in_u closed e is l h = seen_not ps ts rows u (middle ps p.a p.b) e (record {
          whole = whole;
          listed = in_u;
          weight = middle_weight ps p.a p.b;
          closed = closed;
          corner = each e l;
          in_sphere = h;
          sees = sees ps ts rows fill t p.a p.b edge met none e is;
        })

        at_middle : NearRow ps rows (middle ps p.a p.b) [] → ⊥
        at_middle r = by (one_below ps t p.a p.b edge r.row (on_row ps ts rows fill r.row r.listed) (positive_row ps ts rows fill r.row r.listed) r.closed (none r.row r.listed))
          where
            by : IsInSphere ps r.row p.a ⊎ IsInSphere ps r.row p.b → ⊥
            by (inl h) = seen r.row r.listed r.closed p.a (inl refl) within h
            by (inr h) = seen r.row r.listed r.closed p.b (inr refl) (second_within ps t p.a p.b edge) h

    edge_of : p.a ≢ p.b → IsEdge ps t p.a p.b
    edge_of apart = record { delaunay = delaunay; p = a.0; q = b.0; other = other (same_or_other a.0 b.0); first = a.1; second = b.1 }
      where
        other : (a.0 ≡ b.0) ⊎ IsOther a.0 b.0 → IsOther a.0 b.0
        other (inl e) = absurd (apart (a.1 ∙ ap (number t) e ∙ sym b.1))
        other (inr o) = o

    by_ends : is_side rows p ≡ false → (p.a ≡ p.b) ⊎ (p.a ≢ p.b) → is_side rows p ≡ true
    by_ends e (inl d) = single d
    by_ends e (inr d) = absurd (absurd_row (edge_of d) (λ u in_u c q. never (sym e ∙ edge_found rows p u in_u c q)))

    go : (s : Bool) → is_side rows p ≡ s → is_side rows p ≡ true
    go true e = e
    go false e = by_ends e (same_or_not p.a p.b)
