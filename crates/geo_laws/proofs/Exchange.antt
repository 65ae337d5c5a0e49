-- The exchange step: a tetrahedron of least height at a generic point has no point below it. Else let e be below it. Of the corners at which e weighs
-- above 0 take one with the least ratio of the weight of x to that of e (the ratio test of the simplex method), and let e take its place:
-- the new tetrahedron strictly holds x too, and is lower there.
use Rattle.std.proofs.Common.{◌≡◌, ◌≢◌, ◌⊎◌, inl, inr, ℕ, ℤ, pos, neg_ℤ, ◌+ℤ◌, ◌-ℤ◌, ◌*ℤ◌, ◌<ℤ◌, ◌≤ℤ◌, List, [], ◌∷◌, length, ap, sym, subst, ◌∙◌, arith}
use Rattle.std.specs.Prelude.{Contains}
use Rattle.std.proofs.lemmas.Int.{ints}
use lib.IntN.{*ℤ-zero}
use Rattle.exact_algebra.proofs.Ring.{var, neg, ring, ring_given, given, same, ◌⊕◌, ◌⊖◌, ◌⊗◌}
use Rattle.exact_algebra.proofs.Signs.{mul_pos, mul_nonneg, mul_le, pos_or_not, nonneg_of_pos, pos_of_nonneg, nonneg_of_mul, nonneg_same, pos_same}
use Rattle.sign_predicates.specs.Point.{Point, RationalPoint}
use Rattle.sign_predicates.specs.Orientation.{volume, side, side_rational, IsPositive, SpansPlane}
use Rattle.geo_laws.specs.Delaunay.{point, corners}
use Rattle.geo_laws.specs.Height.{height, residual_at, places}
use Rattle.geo_laws.specs.Laws.{IsGeneric}
use Rattle.geo_laws.specs.declared.tetrahedra.Tet.{Tet}
use Rattle.sign_predicates.proofs.Places.{Place, A, B, C, D, IsOther, same_or_other, opposite}
use Rattle.geo_laws.proofs.Places.{second, third, fourth, other-second, other-third, other-fourth, number, with_number, corners-with_number, number-with, number-with_other, opposite-replaced, at_planes, at_face, all_faces, over_places, sum-front}
use Rattle.geo_laws.proofs.Determinants.{sides-sum, spans, volume-replaced, minor, weight-replaced}
use Rattle.geo_laws.proofs.Members.{IsMember, here, there}
use Rattle.geo_laws.proofs.Lexicographic.{IsLexAbove, at_least_same, not_below}
use Rattle.geo_laws.proofs.Heights.{Holds, IsAtMost, gap_at}

-- ---- the ratio test

-- v has a number above 0, and no lesser ratio than v stands at another of the places
record IsBest (l s : Place → ℤ) (among : List Place) (v : Place) : Type 0 where
  above : pos 0 <ℤ s v
  best : (u : Place) → IsMember u among → pos 0 ≤ℤ (l u *ℤ s v -ℤ l v *ℤ s u)

-- a sum of two numbers that are at least 0
sum_both : (p a b : ℤ) → p ≡ a +ℤ b → pos 0 ≤ℤ a → pos 0 ≤ℤ b → pos 0 ≤ℤ p
sum_both p a b e h k = omega (arith, ints)

-- a place whose number is at most 0 has no lesser ratio
flat_ratio : (lu su lv sv : ℤ) → pos 0 <ℤ lu → pos 0 <ℤ lv → pos 0 <ℤ sv → su ≤ℤ pos 0 → pos 0 ≤ℤ (lu *ℤ sv -ℤ lv *ℤ su)
flat_ratio lu su lv sv hu hv h k = omega (arith, ints, mul_pos lu sv hu h, mul_le lv su (pos 0) (nonneg_of_pos lv hv) k, *ℤ-zero lv)

-- from the ratio of c to v and that of v to u to that of c to u
ratio-trans : (lc sc lv sv lu su : ℤ) → sv *ℤ (lu *ℤ sc -ℤ lc *ℤ su) ≡ sc *ℤ (lu *ℤ sv -ℤ lv *ℤ su) +ℤ su *ℤ (lv *ℤ sc -ℤ lc *ℤ sv)
unfolding same
ratio-trans lc sc lv sv lu su =
    ring (var 3 ⊗ (var 4 ⊗ var 1 ⊖ var 0 ⊗ var 5)) (var 1 ⊗ (var 4 ⊗ var 3 ⊖ var 2 ⊗ var 5) ⊕ var 5 ⊗ (var 2 ⊗ var 1 ⊖ var 0 ⊗ var 3)) tt (lc ∷ sc ∷ lv ∷ sv ∷ lu ∷ su ∷ [])

module _ (l s : Place → ℤ) (weighs : (u : Place) → pos 0 <ℤ l u) where
  through : (u v c : Place) → pos 0 <ℤ s v → pos 0 <ℤ s c → pos 0 ≤ℤ (l u *ℤ s v -ℤ l v *ℤ s u) → pos 0 ≤ℤ (l v *ℤ s c -ℤ l c *ℤ s v) → pos 0 ≤ℤ (l u *ℤ s c -ℤ l c *ℤ s u)
  through u v c hv hc uv vc = go (pos_or_not (s u))
    where
      go : (pos 0 <ℤ s u) ⊎ (s u ≤ℤ pos 0) → pos 0 ≤ℤ (l u *ℤ s c -ℤ l c *ℤ s u)
      go (inr k) = flat_ratio (l u) (s u) (l c) (s c) (weighs u) (weighs c) hc k
      go (inl k) = nonneg_of_mul (s v) (l u *ℤ s c -ℤ l c *ℤ s u) hv
          (sum_both _ (s c *ℤ (l u *ℤ s v -ℤ l v *ℤ s u)) (s u *ℤ (l v *ℤ s c -ℤ l c *ℤ s v)) (ratio-trans (l c) (s c) (l v) (s v) (l u) (s u)) (mul_nonneg (s c) (l u *ℤ s v -ℤ l v *ℤ s u) (nonneg_of_pos (s c) hc) uv) (mul_nonneg (s u) (l v *ℤ s c -ℤ l c *ℤ s v) (nonneg_of_pos (s u) k) vc))

  -- all numbers are at most 0, or one of those above 0 has the least ratio
  best_of : (among : List Place) → ((u : Place) → IsMember u among → s u ≤ℤ pos 0) ⊎ ((v : Place) × IsBest l s among v)
  best_of [] = inl (λ u m. elim m [ ])
  best_of (c ∷ vs) = go (pos_or_not (s c)) (best_of vs)
    where
      swapped : (a b : ℤ) → (pos 0 ≤ℤ (a -ℤ b)) ⊎ (pos 0 ≤ℤ (b -ℤ a))
      swapped a b = split (pos_or_not (a -ℤ b))
        where
          split : (pos 0 <ℤ (a -ℤ b)) ⊎ ((a -ℤ b) ≤ℤ pos 0) → (pos 0 ≤ℤ (a -ℤ b)) ⊎ (pos 0 ≤ℤ (b -ℤ a))
          split (inl h) = inl (omega (arith, ints))
          split (inr h) = inr (omega (arith, ints))

      self : (v : Place) → pos 0 ≤ℤ (l v *ℤ s v -ℤ l v *ℤ s v)
      self v = zero_at_least (l v *ℤ s v)
        where
          zero_at_least : (a : ℤ) → pos 0 ≤ℤ (a -ℤ a)
          zero_at_least a = omega (arith, ints)

      go : (pos 0 <ℤ s c) ⊎ (s c ≤ℤ pos 0) → ((u : Place) → IsMember u vs → s u ≤ℤ pos 0) ⊎ ((v : Place) × IsBest l s vs v)
          → ((u : Place) → IsMember u (c ∷ vs) → s u ≤ℤ pos 0) ⊎ ((v : Place) × IsBest l s (c ∷ vs) v)
      go (inr k) (inl flat) = inl (λ u m. each u m)
        where
          each : (u : Place) → IsMember u (c ∷ vs) → s u ≤ℤ pos 0
          each u here = k
          each u (there m) = flat u m
      go (inr k) (inr r) = inr (r.0, record { above = r.1.above; best = λ u m. each r.0 r.1 u m })
        where
          each : (v : Place) → IsBest l s vs v → (u : Place) → IsMember u (c ∷ vs) → pos 0 ≤ℤ (l u *ℤ s v -ℤ l v *ℤ s u)
          each v b u here = flat_ratio (l c) (s c) (l v) (s v) (weighs c) (weighs v) b.above k
          each v b u (there m) = b.best u m
      go (inl h) (inl flat) = inr (c, record { above = h; best = λ u m. each u m })
        where
          each : (u : Place) → IsMember u (c ∷ vs) → pos 0 ≤ℤ (l u *ℤ s c -ℤ l c *ℤ s u)
          each u here = self c
          each u (there m) = flat_ratio (l u) (s u) (l c) (s c) (weighs u) (weighs c) h (flat u m)
      go (inl h) (inr r) = inr (compared r.0 r.1 (swapped (l c *ℤ s r.0) (l r.0 *ℤ s c)))
        where
          kept : (v : Place) → IsBest l s vs v → pos 0 ≤ℤ (l c *ℤ s v -ℤ l v *ℤ s c) → (u : Place) → IsMember u (c ∷ vs) → pos 0 ≤ℤ (l u *ℤ s v -ℤ l v *ℤ s u)
          kept v b k u here = k
          kept v b k u (there m) = b.best u m

          changed : (v : Place) → IsBest l s vs v → pos 0 ≤ℤ (l v *ℤ s c -ℤ l c *ℤ s v) → (u : Place) → IsMember u (c ∷ vs) → pos 0 ≤ℤ (l u *ℤ s c -ℤ l c *ℤ s u)
          changed v b k u here = self c
          changed v b k u (there m) = through u v c b.above h (b.best u m) k

          compared : (v : Place) → IsBest l s vs v → (pos 0 ≤ℤ (l c *ℤ s v -ℤ l v *ℤ s c)) ⊎ (pos 0 ≤ℤ (l v *ℤ s c -ℤ l c *ℤ s v)) → (w : Place) × IsBest l s (c ∷ vs) w
          compared v b (inl k) = (v, record { above = b.above; best = kept v b k })
          compared v b (inr k) = (c, record { above = h; best = changed v b k })

-- ---- the exchange

-- The heights at x, before and after e takes the place v: l and n are the weights of x, s those of e, g and f the heights of the corners
exchange-gap : (vo vn he : ℤ) (l n s g f : Place → ℤ) (v : Place) → vn ≡ s v → n v ≡ l v → f v ≡ he
    → ((u : Place) → IsOther u v → vo *ℤ n u ≡ l u *ℤ s v -ℤ l v *ℤ s u) → ((u : Place) → IsOther u v → f u ≡ g u)
    → vo *ℤ over_places (λ u. n u *ℤ f u) -ℤ vn *ℤ over_places (λ u. l u *ℤ g u) ≡ l v *ℤ (vo *ℤ he -ℤ over_places (λ u. s u *ℤ g u))
unfolding same
exchange-gap vo vn he l n s g f v volume_is own_weight own_height weights heights =
    let u1 = second v in
    let u2 = third v in
    let u3 = fourth v in
    let o1 = other-second v in
    let o2 = other-third v in
    let o3 = other-fourth v in
    (λ j. vo *ℤ sum-front v (λ u. n u *ℤ f u) j -ℤ vn *ℤ sum-front v (λ u. l u *ℤ g u) j)
    ∙ ring_given (var 0 ⊗ (var 7 ⊗ var 19 ⊕ var 8 ⊗ var 20 ⊕ var 9 ⊗ var 21 ⊕ var 10 ⊗ var 22) ⊖ var 1 ⊗ (var 3 ⊗ var 15 ⊕ var 4 ⊗ var 16 ⊕ var 5 ⊗ var 17 ⊕ var 6 ⊗ var 18))
    (var 3 ⊗ (var 0 ⊗ var 2 ⊖ (var 11 ⊗ var 15 ⊕ var 12 ⊗ var 16 ⊕ var 13 ⊗ var 17 ⊕ var 14 ⊗ var 18)))
    (given (neg (var 3 ⊗ var 15 ⊕ var 4 ⊗ var 16 ⊕ var 5 ⊗ var 17 ⊕ var 6 ⊗ var 18)) (var 1) (var 11) ∷ given (var 0 ⊗ var 19) (var 7) (var 3) ∷ given (var 0 ⊗ var 3) (var 19) (var 2)
    ∷ given (var 16) (var 0 ⊗ var 8) (var 4 ⊗ var 11 ⊖ var 3 ⊗ var 12) ∷ given (var 17) (var 0 ⊗ var 9) (var 5 ⊗ var 11 ⊖ var 3 ⊗ var 13) ∷ given (var 18) (var 0 ⊗ var 10) (var 6 ⊗ var 11 ⊖ var 3 ⊗ var 14)
    ∷ given (var 0 ⊗ var 8) (var 20) (var 16) ∷ given (var 0 ⊗ var 9) (var 21) (var 17) ∷ given (var 0 ⊗ var 10) (var 22) (var 18) ∷ [])
    tt (vo ∷ vn ∷ he ∷ l v ∷ l u1 ∷ l u2 ∷ l u3 ∷ n v ∷ n u1 ∷ n u2 ∷ n u3 ∷ s v ∷ s u1 ∷ s u2 ∷ s u3 ∷ g v ∷ g u1 ∷ g u2 ∷ g u3 ∷ f v ∷ f u1 ∷ f u2 ∷ f u3 ∷ [])
    (volume_is, (own_weight, (own_height, (weights u1 o1, (weights u2 o2, (weights u3 o3, (heights u1 o1, (heights u2 o2, (heights u3 o3, tt)))))))))
    ∙ (λ j. l v *ℤ (vo *ℤ he -ℤ sym (sum-front v (λ u. s u *ℤ g u)) j))

-- m is of least height at x among the tetrahedra that strictly hold x, and e is below it
pub record Setting (ps : List Point) (ms : List ℕ) (first : ℕ → ℤ) (x : RationalPoint) (m : Tet) (e : ℕ) : Type 0 where
  pub generic : IsGeneric ps ms x
  pub holds : Holds ps ms x m
  pub least : (t : Tet) → Holds ps ms x t → IsAtMost ps first x m t
  pub on_e : Contains ms e
  pub below : IsLexAbove (λ k. neg_ℤ (residual_at ps first m e k)) (places (length ps))

-- a generic point is off the faces of each positive tetrahedron on the numbers
pub generic_face : (ps : List Point) (ms : List ℕ) (x : RationalPoint) → IsGeneric ps ms x → (t : Tet) → ((u : Place) → Contains ms (number t u)) → IsPositive (corners ps t)
    → (u : Place) → side_rational (opposite (corners ps t) u) x ≢ pos 0
generic_face ps ms x generic t on p u = at_planes ps ms (λ f. SpansPlane f → side_rational f x ≢ pos 0) generic t on u (spans (corners ps t) p u)

-- no corner at which e weighs above 0 has the least ratio
no_exchange : (ps : List Point) (ms : List ℕ) (first : ℕ → ℤ) (x : RationalPoint) (m : Tet) (e : ℕ) → Setting ps ms first x m e → (v : Place)
    → pos 0 <ℤ side (opposite (corners ps m) v) (point ps e) → ((u : Place) → pos 0 ≤ℤ minor (corners ps m) (point ps e) x u v) → ⊥
no_exchange ps ms first x m e h v above best =
    not_below (l v) (residual_at ps first m e) (places (length ps)) (old v)
    (at_least_same (gap_at ps first x m t) (λ k. l v *ℤ residual_at ps first m e k) (places (length ps)) same_gap (h.least t new_holds).gap) h.below
  where
    t : Tet
    t = with_number m v e

    l : Place → ℤ
    l u = side_rational (opposite (corners ps m) u) x

    old : (u : Place) → pos 0 <ℤ side_rational (opposite (corners ps m) u) x
    old = at_face (λ f. pos 0 <ℤ side_rational f x) (corners ps m) h.holds.inside

    new_volume : volume (corners ps (with_number m v e)) ≡ side (opposite (corners ps m) v) (point ps e)
    new_volume = ap volume (corners-with_number ps m v e) ∙ volume-replaced (corners ps m) v (point ps e)

    own_weight : side_rational (opposite (corners ps (with_number m v e)) v) x ≡ side_rational (opposite (corners ps m) v) x
    own_weight = ap (λ c. side_rational (opposite c v) x) (corners-with_number ps m v e) ∙ ap (λ f. side_rational f x) (opposite-replaced (corners ps m) v (point ps e))

    weight : (u : Place) → IsOther u v → volume (corners ps m) *ℤ side_rational (opposite (corners ps (with_number m v e)) u) x ≡ minor (corners ps m) (point ps e) x u v
    weight u o = ap (λ c. volume (corners ps m) *ℤ side_rational (opposite c u) x) (corners-with_number ps m v e) ∙ weight-replaced (corners ps m) (point ps e) x u v o

    new_positive : IsPositive (corners ps (with_number m v e))
    new_positive = pos_same _ _ new_volume above

    new_on : (u : Place) → Contains ms (number (with_number m v e) u)
    new_on u = by (same_or_other u v)
      where
        by : (u ≡ v) ⊎ IsOther u v → Contains ms (number (with_number m v e) u)
        by (inl d) = subst (Contains ms) (sym (ap (number (with_number m v e)) d ∙ number-with m v e)) h.on_e
        by (inr o) = subst (Contains ms) (sym (number-with_other m u v e o)) (h.holds.on u)

    new_inside : (u : Place) → pos 0 <ℤ side_rational (opposite (corners ps (with_number m v e)) u) x
    new_inside u = by (same_or_other u v)
      where
        by : (u ≡ v) ⊎ IsOther u v → pos 0 <ℤ side_rational (opposite (corners ps (with_number m v e)) u) x
        by (inl d) = pos_same _ _ (ap (λ w. side_rational (opposite (corners ps (with_number m v e)) w) x) d ∙ own_weight) (old v)
        by (inr o) =
            pos_of_nonneg _ (nonneg_of_mul (volume (corners ps m)) _ h.holds.positive (nonneg_same _ _ (weight u o) (best u)))
            (generic_face ps ms x h.generic (with_number m v e) new_on new_positive u)

    new_holds : Holds ps ms x (with_number m v e)
    new_holds = record { on = new_on; positive = new_positive; inside = all_faces (λ f. pos 0 <ℤ side_rational f x) (corners ps (with_number m v e)) new_inside }

    same_gap : (k : ℕ) → gap_at ps first x m (with_number m v e) k ≡ side_rational (opposite (corners ps m) v) x *ℤ residual_at ps first m e k
    same_gap k =
        exchange-gap (volume (corners ps m)) (volume (corners ps (with_number m v e))) (height first e k)
        (λ u. side_rational (opposite (corners ps m) u) x) (λ u. side_rational (opposite (corners ps (with_number m v e)) u) x) (λ u. side (opposite (corners ps m) u) (point ps e))
        (λ u. height first (number m u) k) (λ u. height first (number (with_number m v e) u) k) v
        new_volume own_weight (ap (λ i. height first i k) (number-with m v e)) weight (λ u o. ap (λ i. height first i k) (number-with_other m u v e o))

-- the four places
abbrev all_places : List Place
all_places = A ∷ B ∷ C ∷ D ∷ []

is_place : (u : Place) → IsMember u all_places
is_place A = here
is_place B = there here
is_place C = there (there here)
is_place D = there (there (there here))

-- the weights of e add up to the volume: not all are at most 0
no_sum : (f : Place → ℤ) (v : ℤ) → over_places f ≡ v → pos 0 <ℤ v → ((u : Place) → f u ≤ℤ pos 0) → ⊥
no_sum f v e p h = omega (arith, ints, h A, h B, h C, h D)

-- no point is below a least tetrahedron
pub not_below_least : (ps : List Point) (ms : List ℕ) (first : ℕ → ℤ) (x : RationalPoint) (m : Tet) (e : ℕ) → Setting ps ms first x m e → ⊥
not_below_least ps ms first x m e h = go (best_of (λ u. side_rational (opposite (corners ps m) u) x) (λ u. side (opposite (corners ps m) u) (point ps e)) (at_face (λ f. pos 0 <ℤ side_rational f x) (corners ps m) h.holds.inside) all_places)
  where
    go : ((u : Place) → IsMember u all_places → side (opposite (corners ps m) u) (point ps e) ≤ℤ pos 0)
        ⊎ ((v : Place) × IsBest (λ u. side_rational (opposite (corners ps m) u) x) (λ u. side (opposite (corners ps m) u) (point ps e)) all_places v) → ⊥
    go (inl flat) = no_sum (λ u. side (opposite (corners ps m) u) (point ps e)) (volume (corners ps m)) (sides-sum (corners ps m) (point ps e)) h.holds.positive (λ u. flat u (is_place u))
    go (inr r) = no_exchange ps ms first x m e h r.0 r.1.above (λ u. r.1.best u (is_place u))
