-- Two lowest tetrahedra are properly met. Let x be the mean of the corners of s under weights m and of those of t under weights n. The residuals of
-- s over the corners of t, weighted by n, add up to how far the mean height of the one is above that of the other, and those of t to the opposite:
-- up to positive factors the two sums cancel. No residual is below 0, so each that weighs is 0: what weighs is a corner of both.
use Rattle.std.proofs.Common.{◌≡◌, ◌⊎◌, inl, inr, ℕ, zero, suc, ◌+◌, ◌<◌, ℤ, pos, ◌+ℤ◌, ◌-ℤ◌, ◌*ℤ◌, ◌<ℤ◌, ◌≤ℤ◌, Bool, true, false, List, [], ◌∷◌, length, refl, ap, sym, subst, ◌∙◌, arith, eq-eqb, ne_eqb}
use Rattle.std.proofs.lemmas.Int.{ints}
use Rattle.std.specs.Prelude.{sum_by, Contains, ◌==◌, if◌then◌else◌}
use lib.IntN.{*ℤ-zero, zero-*ℤ}
use Rattle.exact_algebra.proofs.Ring.{num, var, neg, ring_given, given, same, ◌⊕◌, ◌⊖◌, ◌⊗◌}
use Rattle.exact_algebra.proofs.Signs.{mul_pos, from_natural, nonneg_of_pos}
use Rattle.sign_predicates.specs.Point.{Point, RationalPoint}
use Rattle.sign_predicates.specs.Orientation.{volume, side, side_rational, IsPositive, StrictlyInside}
use Rattle.geo_laws.specs.Delaunay.{point, corners, numbers}
use Rattle.geo_laws.specs.Simplex.{sum_by_weights, IsMean, has_number, ProperlyMet}
use Rattle.geo_laws.specs.Height.{height, residual_at, places, lifted, IsLowestAmong}
use Rattle.geo_laws.specs.Laws.{RadicalLaw, IsMetOrSame}
use Rattle.geo_laws.specs.declared.tetrahedra.Tet.{Tet}
use Rattle.sign_predicates.proofs.Places.{Place, A, B, C, D, opposite}
use Rattle.geo_laws.proofs.Places.{other_back, number, over_places, sum-same, sum-only, at_face}
use Rattle.geo_laws.proofs.Determinants.{weights-sum, weights-x, weights-y, weights-z}
use Rattle.geo_laws.proofs.Members.{IsMember}
use Rattle.geo_laws.proofs.Corners.{IsCorner, member_among, member_corner, corner_or_not, found, distinct, side-own_point, side-other_point}
use Rattle.geo_laws.proofs.Lexicographic.{IsLexAbove, IsLexAtLeast, at_least_scale, add_above, lex_scale, zero_everywhere, above_not_zero}
use Rattle.geo_laws.proofs.Means.{weighted_sum-sub, weighted_sum-scale, weighted_sum-times, weighted_sum-places, weighted_sum-numbers, side-mean, weighted_sum-filter, sum_by-filter, weighted_sum-at_least, weighted_sum-above}
use Rattle.geo_laws.proofs.Lift.{lowest_of}
use Rattle.geo_laws.proofs.Arrangement.{same_row}

-- ---- sums of residuals

-- the side of point e at the face opposite a corner
abbrev side_of : List Point → Tet → Place → ℕ → ℤ
side_of ps t u e = side (opposite (corners ps t) u) (point ps e)

-- the sum of the residuals of other points, in the sums of their heights and sides
residual-sum : (ps : List Point) (first : ℕ → ℤ) (t : Tet) (weight : ℕ → ℕ) (r : List ℕ) (k : ℕ)
    → sum_by_weights weight (λ e. residual_at ps first t e k) r
    ≡ volume (corners ps t) *ℤ sum_by_weights weight (λ e. height first e k) r -ℤ over_places (λ u. sum_by_weights weight (side_of ps t u) r *ℤ height first (number t u) k)
residual-sum ps first t weight r k =
    let v = volume (corners ps t) in
    let h = λ (e : ℕ). height first e k in
    let part = λ (u : Place) (e : ℕ). side_of ps t u e *ℤ height first (number t u) k in
    let parts = weighted_sum-places weight part r ∙ sum-same (λ u. sum_by_weights weight (part u) r) (λ u. sum_by_weights weight (side_of ps t u) r *ℤ height first (number t u) k)
    (λ u. weighted_sum-times weight (side_of ps t u) (height first (number t u) k) r) in
    weighted_sum-sub weight (λ e. v *ℤ h e) (λ e. over_places (λ u. part u e)) r ∙ (λ j. weighted_sum-scale weight v h r j -ℤ parts j)

-- over the tetrahedron's own corners the sum of a face's sides is the weight of the corner opposite, times the volume
own-side : (ps : List Point) (t : Tet) (weight : ℕ → ℕ) (u : Place) → sum_by_weights weight (side_of ps t u) (numbers t) ≡ pos (weight (number t u)) *ℤ volume (corners ps t)
own-side ps t weight u =
    weighted_sum-numbers weight (side_of ps t u) t
    ∙ sum-only u (λ v. pos (weight (number t v)) *ℤ side_of ps t u (number t v))
    (λ v o. ap (λ q. pos (weight (number t v)) *ℤ q) (side-other_point ps t u v (other_back v u o)) ∙ *ℤ-zero (pos (weight (number t v))))
    ∙ ap (λ q. pos (weight (number t u)) *ℤ q) (side-own_point ps t u)

-- Eliminates the side of the mean: `s` is the sum of a side over other corners, with total n, and `a` a weight of the own, with total m
eliminated : (s side a v w m n : ℤ) → s *ℤ w ≡ side *ℤ n → (a *ℤ v) *ℤ w ≡ side *ℤ m → (s *ℤ w) *ℤ m ≡ ((a *ℤ v) *ℤ w) *ℤ n
unfolding same
eliminated s side a v w m n e d =
    ring_given ((var 0 ⊗ var 4) ⊗ var 5) (((var 2 ⊗ var 3) ⊗ var 4) ⊗ var 6)
    (given (var 5) (var 0 ⊗ var 4) (var 1 ⊗ var 6) ∷ given (neg (var 6)) ((var 2 ⊗ var 3) ⊗ var 4) (var 1 ⊗ var 5) ∷ [])
    tt (s ∷ side ∷ a ∷ v ∷ w ∷ m ∷ n ∷ []) (e, (d, tt))

-- so a sum of residuals is how far the mean height of the other corners is above that of the own
gap : (m n w v h : ℤ) (s g a : Place → ℤ) → ((u : Place) → (s u *ℤ w) *ℤ m ≡ ((a u *ℤ v) *ℤ w) *ℤ n)
    → (m *ℤ w) *ℤ (v *ℤ h -ℤ over_places (λ u. s u *ℤ g u)) ≡ (v *ℤ w) *ℤ (m *ℤ h -ℤ n *ℤ over_places (λ u. a u *ℤ g u))
unfolding same
gap m n w v h s g a e =
    ring_given ((var 0 ⊗ var 2) ⊗ (var 3 ⊗ var 4 ⊖ (var 5 ⊗ var 9 ⊕ var 6 ⊗ var 10 ⊕ var 7 ⊗ var 11 ⊕ var 8 ⊗ var 12)))
    ((var 3 ⊗ var 2) ⊗ (var 0 ⊗ var 4 ⊖ var 1 ⊗ (var 13 ⊗ var 9 ⊕ var 14 ⊗ var 10 ⊕ var 15 ⊗ var 11 ⊕ var 16 ⊗ var 12)))
    (given (neg (var 9)) ((var 5 ⊗ var 2) ⊗ var 0) (((var 13 ⊗ var 3) ⊗ var 2) ⊗ var 1)
    ∷ given (neg (var 10)) ((var 6 ⊗ var 2) ⊗ var 0) (((var 14 ⊗ var 3) ⊗ var 2) ⊗ var 1)
    ∷ given (neg (var 11)) ((var 7 ⊗ var 2) ⊗ var 0) (((var 15 ⊗ var 3) ⊗ var 2) ⊗ var 1)
    ∷ given (neg (var 12)) ((var 8 ⊗ var 2) ⊗ var 0) (((var 16 ⊗ var 3) ⊗ var 2) ⊗ var 1) ∷ [])
    tt (m ∷ n ∷ w ∷ v ∷ h ∷ s A ∷ s B ∷ s C ∷ s D ∷ g A ∷ g B ∷ g C ∷ g D ∷ a A ∷ a B ∷ a C ∷ a D ∷ []) (e A, (e B, (e C, (e D, tt))))

-- where both means are x
residual-sum-gap : (ps : List Point) (first : ℕ → ℤ) (s : Tet) (m n : ℕ → ℕ) (r : List ℕ) (x : RationalPoint) → IsMean ps (numbers s) m x → IsMean ps r n x → (k : ℕ)
    → (pos (sum_by m (numbers s)) *ℤ x.w) *ℤ sum_by_weights n (λ e. residual_at ps first s e k) r
    ≡ (volume (corners ps s) *ℤ x.w) *ℤ (pos (sum_by m (numbers s)) *ℤ sum_by_weights n (λ e. height first e k) r -ℤ pos (sum_by n r) *ℤ sum_by_weights m (λ e. height first e k) (numbers s))
residual-sum-gap ps first s m n r x own other k =
    let mm = pos (sum_by m (numbers s)) in
    let nn = pos (sum_by n r) in
    let c = corners ps s in
    let h = λ (e : ℕ). height first e k in
    let each = λ (u : Place). eliminated (sum_by_weights n (side_of ps s u) r) (side_rational (opposite c u) x) (pos (m (number s u))) (volume c) x.w mm nn (side-mean ps n (opposite c u) r x other)
    (ap (λ q. q *ℤ x.w) (sym (own-side ps s m u)) ∙ side-mean ps m (opposite c u) (numbers s) x own) in
    ap (λ q. (mm *ℤ x.w) *ℤ q) (residual-sum ps first s n r k)
    ∙ gap mm nn x.w (volume c) (sum_by_weights n h r) (λ u. sum_by_weights n (side_of ps s u) r) (λ u. h (number s u)) (λ u. pos (m (number s u))) each
    ∙ ap (λ q. (volume c *ℤ x.w) *ℤ (mm *ℤ sum_by_weights n h r -ℤ nn *ℤ q)) (sym (weighted_sum-numbers m h s))

-- the two gaps cancel
gaps-cancel : (m n w v u r q g h : ℤ) → (m *ℤ w) *ℤ r ≡ (v *ℤ w) *ℤ (m *ℤ h -ℤ n *ℤ g) → (n *ℤ w) *ℤ q ≡ (u *ℤ w) *ℤ (n *ℤ g -ℤ m *ℤ h)
    → (u *ℤ (m *ℤ w)) *ℤ r +ℤ (v *ℤ (n *ℤ w)) *ℤ q ≡ pos 0
unfolding same
gaps-cancel m n w v u r q g h e d =
    ring_given ((var 4 ⊗ (var 0 ⊗ var 2)) ⊗ var 5 ⊕ (var 3 ⊗ (var 1 ⊗ var 2)) ⊗ var 6) (num (pos 0))
    (given (var 4) ((var 0 ⊗ var 2) ⊗ var 5) ((var 3 ⊗ var 2) ⊗ (var 0 ⊗ var 8 ⊖ var 1 ⊗ var 7))
    ∷ given (var 3) ((var 1 ⊗ var 2) ⊗ var 6) ((var 4 ⊗ var 2) ⊗ (var 1 ⊗ var 7 ⊖ var 0 ⊗ var 8)) ∷ [])
    tt (m ∷ n ∷ w ∷ v ∷ u ∷ r ∷ q ∷ g ∷ h ∷ []) (e, (d, tt))

-- at a common mean of the corners of two tetrahedra, the residuals of each at the other cancel
pub residuals-cancel : (ps : List Point) (first : ℕ → ℤ) (s t : Tet) (m n : ℕ → ℕ) (x : RationalPoint) → IsMean ps (numbers s) m x → IsMean ps (numbers t) n x → (k : ℕ)
    → (volume (corners ps t) *ℤ (pos (sum_by m (numbers s)) *ℤ x.w)) *ℤ sum_by_weights n (λ e. residual_at ps first s e k) (numbers t)
    +ℤ (volume (corners ps s) *ℤ (pos (sum_by n (numbers t)) *ℤ x.w)) *ℤ sum_by_weights m (λ e. residual_at ps first t e k) (numbers s)
    ≡ pos 0
residuals-cancel ps first s t m n x own other k =
    gaps-cancel (pos (sum_by m (numbers s))) (pos (sum_by n (numbers t))) x.w (volume (corners ps s)) (volume (corners ps t)) _ _
    (sum_by_weights m (λ e. height first e k) (numbers s)) (sum_by_weights n (λ e. height first e k) (numbers t))
    (residual-sum-gap ps first s m n (numbers t) x own other k) (residual-sum-gap ps first t n m (numbers s) x other own k)

-- ---- no residual of a lowest tetrahedron is below 0

minus_same : (a b : ℤ) → b ≡ a → a -ℤ b ≡ pos 0
minus_same a b e = omega (arith, ints)

-- at the tetrahedron's own corners it is 0
pub residual-own : (ps : List Point) (first : ℕ → ℤ) (t : Tet) (i : ℕ) → IsCorner t i → (k : ℕ) → residual_at ps first t i k ≡ pos 0
residual-own ps first t i c k =
    let v = c.0 in
    let part = λ (u : Place). side_of ps t u (number t v) *ℤ height first (number t u) k in
    ap (λ j. residual_at ps first t j k) c.1
    ∙ minus_same (volume (corners ps t) *ℤ height first (number t v) k) (over_places part)
    (sum-only v part (λ u o. ap (λ q. q *ℤ height first (number t u) k) (side-other_point ps t u v o) ∙ zero-*ℤ (height first (number t u) k))
    ∙ ap (λ q. q *ℤ height first (number t v) k) (side-own_point ps t v))

-- at any further point it is above 0
pub residual-at_least : (ps : List Point) (ms : List ℕ) (first : ℕ → ℤ) (t : Tet) → IsLowestAmong ps ms first t → (i : ℕ) → Contains ms i → IsLexAtLeast (residual_at ps first t i) (places (length ps))
residual-at_least ps ms first t low i h = go (corner_or_not t i)
  where
    go : IsCorner t i ⊎ ¬ Contains (numbers t) i → IsLexAtLeast (residual_at ps first t i) (places (length ps))
    go (inl own) = inr (zero_everywhere (residual_at ps first t i) (places (length ps)) (residual-own ps first t i own))
    go (inr other) = inl (low.others i h other)

-- ---- so what weighs at a common point are common corners

-- at a common point of two lowest rows, a corner of the one that is no corner of the other doesn't weigh
pub weight-own : (ps : List Point) (ms : List ℕ) (first : ℕ → ℤ) (s t : Tet) (m n : ℕ → ℕ) (x : RationalPoint) → pos 0 <ℤ x.w → IsLowestAmong ps ms first s → IsLowestAmong ps ms first t
    → IsMean ps (numbers s) m x → IsMean ps (numbers t) n x → (i : ℕ) → IsMember i (numbers s) → ¬ Contains (numbers t) i → m i ≡ 0
weight-own ps ms first s t m n x w low_s low_t own other i in_s not_t = go (m i) refl
  where
    weighs : (v : ℕ) → m i ≡ suc v → pos 0 <ℤ pos (m i)
    weighs v e = omega (arith, ints)

    total : (k : ℕ) → 0 < k → pos 0 <ℤ pos k
    total k h = omega (arith, ints)

    go : (v : ℕ) → m i ≡ v → m i ≡ 0
    go zero e = e
    go (suc v) e =
        let c = volume (corners ps t) *ℤ (pos (sum_by m (numbers s)) *ℤ x.w) in
        let d = volume (corners ps s) *ℤ (pos (sum_by n (numbers t)) *ℤ x.w) in
        let f = λ (k : ℕ). sum_by_weights n (λ j. residual_at ps first s j k) (numbers t) in
        let g = λ (k : ℕ). sum_by_weights m (λ j. residual_at ps first t j k) (numbers s) in
        let c_above : pos 0 <ℤ c = mul_pos _ _ low_t.is_positive (mul_pos _ _ (total _ own.some) w) in
        let d_above : pos 0 <ℤ d = mul_pos _ _ low_s.is_positive (mul_pos _ _ (total _ other.some) w) in
        let f_least : IsLexAtLeast f (places (length ps)) = weighted_sum-at_least n (λ j. residual_at ps first s j) (places (length ps)) (numbers t) (λ j k. residual-at_least ps ms first s low_s j (member_among ms t low_t.is_on j k)) in
        let g_above : IsLexAbove g (places (length ps)) = weighted_sum-above m (λ j. residual_at ps first t j) (places (length ps)) (numbers s) (λ j k. residual-at_least ps ms first t low_t j (member_among ms s low_s.is_on j k)) i in_s (weighs v e) (low_t.others i (member_among ms s low_s.is_on i in_s) not_t) in
        let both = add_above (λ k. c *ℤ f k) (λ k. d *ℤ g k) (places (length ps)) (at_least_scale c f (places (length ps)) c_above f_least) (lex_scale d g (places (length ps)) d_above g_above) in
        absurd (above_not_zero _ (places (length ps)) both (zero_everywhere _ (places (length ps)) (residuals-cancel ps first s t m n x own other)))

not_found : (r : List ℕ) (i : ℕ) → has_number r i ≡ false → ¬ Contains r i
not_found r i e c = let f = found r i c in cc

-- any two lowest rows are properly met
pub lowest_rows_meet : (ps : List Point) (ms : List ℕ) (first : ℕ → ℤ) (s t : Tet) → IsLowestAmong ps ms first s → IsLowestAmong ps ms first t → ProperlyMet ps (numbers s) (numbers t)
lowest_rows_meet ps ms first s t low_s low_t x w own other =
    let m = own.0 in
    let mean = own.1 in
    let none = λ (i : ℕ) (k : IsMember i (numbers s)) (e : has_number (numbers t) i ≡ false). weight-own ps ms first s t m other.0 x w low_s low_t mean other.1 i k (not_found (numbers t) i e) in
    let total = sum_by-filter m (has_number (numbers t)) (numbers s) none in
    let sum = λ (f : ℕ → ℤ). weighted_sum-filter m f (has_number (numbers t)) (numbers s) none in (
      m,
      record {
        some = subst (λ v. 0 < v) (sym total) mean.some;
        x_is = (λ j. sum (λ i. (point ps i).x) j *ℤ x.w) ∙ mean.x_is ∙ ap (λ v. x.x *ℤ pos v) (sym total);
        y_is = (λ j. sum (λ i. (point ps i).y) j *ℤ x.w) ∙ mean.y_is ∙ ap (λ v. x.y *ℤ pos v) (sym total);
        z_is = (λ j. sum (λ i. (point ps i).z) j *ℤ x.w) ∙ mean.z_is ∙ ap (λ v. x.z *ℤ pos v) (sym total);
      },
    )

-- ---- two lowest tetrahedra round one point are the same

-- four numbers, each at one corner
abbrev by_number : Tet → (Place → ℕ) → ℕ → ℕ
by_number t w i = if i == t.a then w A else (if i == t.b then w B else (if i == t.c then w C else w D))

by_tests : (w : Place → ℕ) (p q r p' q' r' : Bool) → p ≡ p' → q ≡ q' → r ≡ r'
    → (if p then w A else (if q then w B else (if r then w C else w D))) ≡ (if p' then w A else (if q' then w B else (if r' then w C else w D)))
by_tests w p q r p' q' r' e f g = λ j. if e j then w A else (if f j then w B else (if g j then w C else w D))

-- the corner at each place has its number
by_number-at : (ps : List Point) (t : Tet) (w : Place → ℕ) → IsPositive (corners ps t) → (u : Place) → by_number t w (number t u) ≡ w u
by_number-at ps t w p A = by_tests w _ _ _ true (t.a == t.b) (t.a == t.c) (eq-eqb t.a t.a refl) refl refl
by_number-at ps t w p B = by_tests w _ _ _ false true (t.b == t.c) (ne_eqb _ _ (distinct ps t p B A tt)) (eq-eqb t.b t.b refl) refl
by_number-at ps t w p C = by_tests w _ _ _ false false true (ne_eqb _ _ (distinct ps t p C A tt)) (ne_eqb _ _ (distinct ps t p C B tt)) (eq-eqb t.c t.c refl)
by_number-at ps t w p D = by_tests w _ _ _ false false false (ne_eqb _ _ (distinct ps t p D A tt)) (ne_eqb _ _ (distinct ps t p D B tt)) (ne_eqb _ _ (distinct ps t p D C tt))

-- x is a mean to which each corner adds
pub record InsideMean (ps : List Point) (t : Tet) (x : RationalPoint) : Type 0 where
  pub weight : ℕ → ℕ
  pub mean : IsMean ps (numbers t) weight x
  pub all_weigh : (u : Place) → 0 < weight (number t u)

above_zero : (a : ℤ) (n : ℕ) → pos n ≡ a → pos 0 <ℤ a → 0 < n
above_zero a n e h = omega (arith, ints)

cross_multiplied : (s m v w x : ℤ) → s ≡ v *ℤ x → m ≡ v *ℤ w → s *ℤ w ≡ x *ℤ m
unfolding same
cross_multiplied s m v w x e d = ring_given (var 0 ⊗ var 3) (var 4 ⊗ var 1) (given (var 3) (var 0) (var 2 ⊗ var 4) ∷ given (neg (var 4)) (var 1) (var 2 ⊗ var 3) ∷ []) tt (s ∷ m ∷ v ∷ w ∷ x ∷ []) (e, (d, tt))

sum_of_four : (f : ℕ → ℕ) (t : Tet) → sum_by f (numbers t) ≡ f t.a + f t.b + f t.c + f t.d
sum_of_four f t = shape (f t.a) (f t.b) (f t.c) (f t.d)
  where
    shape : (p q r s : ℕ) → 0 + p + q + r + s ≡ p + q + r + s
    shape p q r s = omega arith

-- x is the mean of the corners under its own sides
pub record SidesMean (ps : List Point) (t : Tet) (x : RationalPoint) : Type 0 where
  pub weight : ℕ → ℕ
  pub mean : IsMean ps (numbers t) weight x
  pub is : (u : Place) → pos (weight (number t u)) ≡ side_rational (opposite (corners ps t) u) x

-- a point of the closed tetrahedron is a mean: by Cramer's rule its sides are weights
pub sides_mean : (ps : List Point) (t : Tet) (x : RationalPoint) → IsPositive (corners ps t) → pos 0 <ℤ (volume (corners ps t) *ℤ x.w)
    → ((u : Place) → pos 0 ≤ℤ side_rational (opposite (corners ps t) u) x) → SidesMean ps t x
sides_mean ps t x p some at_least =
    let c = corners ps t in
    let w = λ (u : Place). from_natural (side_rational (opposite c u) x) (at_least u) in
    let f = by_number t (λ u. (w u).0) in
    let is = λ (u : Place). ap pos (by_number-at ps t (λ v. (w v).0) p u) ∙ sym (w u).1 in
    let total = ap pos (sum_of_four f t) ∙ sum-same (λ u. pos (f (number t u))) (λ u. side_rational (opposite c u) x) is ∙ weights-sum c x in
    let moment = λ (g : ℕ → ℤ). weighted_sum-numbers f g t ∙ sum-same (λ u. pos (f (number t u)) *ℤ g (number t u)) (λ u. side_rational (opposite c u) x *ℤ g (number t u)) (λ u j. is u j *ℤ g (number t u)) in
    let at = λ (g : ℕ → ℤ) (y : ℤ). cross_multiplied (sum_by_weights f g (numbers t)) (pos (sum_by f (numbers t))) (volume c) x.w y in
    record {
      weight = f;
      mean = record {
        some = above_zero (volume c *ℤ x.w) (sum_by f (numbers t)) total some;
        x_is = at (λ i. (point ps i).x) x.x (moment (λ i. (point ps i).x) ∙ weights-x c x) total;
        y_is = at (λ i. (point ps i).y) x.y (moment (λ i. (point ps i).y) ∙ weights-y c x) total;
        z_is = at (λ i. (point ps i).z) x.z (moment (λ i. (point ps i).z) ∙ weights-z c x) total;
      };
      is = is;
    }

-- and to one strictly inside each corner adds
pub inside_mean : (ps : List Point) (t : Tet) (x : RationalPoint) → IsPositive (corners ps t) → StrictlyInside (corners ps t) x → InsideMean ps t x
inside_mean ps t x p h =
    let c = corners ps t in
    let above = at_face (λ f. pos 0 <ℤ side_rational f x) c h in
    let some = sum_above (λ u. side_rational (opposite c u) x) above in
    let of_sides = sides_mean ps t x p (subst (λ v. pos 0 <ℤ v) (weights-sum c x) some) (λ u. nonneg_of_pos _ (above u)) in
    record { weight = of_sides.weight; mean = of_sides.mean; all_weigh = λ u. above_zero (side_rational (opposite c u) x) (of_sides.weight (number t u)) (of_sides.is u) (above u) }
  where
    sum_above : (f : Place → ℤ) → ((u : Place) → pos 0 <ℤ f u) → pos 0 <ℤ over_places f
    sum_above f g = omega (arith, ints, g A, g B, g C, g D)

-- so the corners of the one are corners of the other
corners_shared : (ps : List Point) (ms : List ℕ) (first : ℕ → ℤ) (s t : Tet) (x : RationalPoint) → pos 0 <ℤ x.w → IsLowestAmong ps ms first s → IsLowestAmong ps ms first t
    → StrictlyInside (corners ps s) x → StrictlyInside (corners ps t) x → (i : ℕ) → IsCorner s i → IsCorner t i
corners_shared ps ms first s t x w low_s low_t in_s in_t i c = at_corner (corner_or_not t (number s c.0))
  where
    at_corner : IsCorner t (number s c.0) ⊎ ¬ Contains (numbers t) (number s c.0) → IsCorner t i
    at_corner (inl h) = (h.0, c.1 ∙ h.1)
    at_corner (inr n) =
        let own = inside_mean ps s x low_s.is_positive in_s in
        let other = inside_mean ps t x low_t.is_positive in_t in
        let none = weight-own ps ms first s t own.weight other.weight x w low_s low_t own.mean other.mean (number s c.0) (member_corner s c.0) n in
        let some = own.all_weigh c.0 in
        absurd (omega arith)

-- so two lowest tetrahedra round one point have the same corners, and are the same
lowest_rows : (ps : List Point) (ms : List ℕ) (first : ℕ → ℤ) (s t : Tet) → IsLowestAmong ps ms first s → IsLowestAmong ps ms first t → IsMetOrSame ps s t
lowest_rows ps ms first s t low_s low_t = (
  lowest_rows_meet ps ms first s t low_s low_t,
  λ h. same_row ps s t low_s.is_positive low_t.is_positive low_s.is_arranged low_t.is_arranged
      (corners_shared ps ms first s t h.0 h.1 low_s low_t h.2.0 h.2.1)
      (corners_shared ps ms first t s h.0 h.1 low_t low_s h.2.1 h.2.0),
)

-- Delaunay tetrahedra are lowest
pub law_radical : RadicalLaw
law_radical = record {
  lowest = lowest_rows;
  delaunay = λ ps ms within s t d e. lowest_rows ps ms (lifted ps) s t (lowest_of ps ms within s d) (lowest_of ps ms within t e);
}
