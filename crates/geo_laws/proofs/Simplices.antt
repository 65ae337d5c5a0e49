-- Hulls of corners: a hull that holds each corner of a simplex holds the simplex, whatever the order of the corners is and however often one stands.
-- So whether two simplices are properly met doesn't depend on their order, nor on that of their corners.
use Rattle.std.proofs.Common.{◌≡◌, ℕ, zero, suc, ◌+◌, ◌*◌, ◌<◌, ℤ, pos, ◌+ℤ◌, ◌*ℤ◌, ◌<ℤ◌, Bool, true, false, List, [], ◌∷◌, refl, ap, sym, subst, ◌∙◌, arith, eq-eqb, eqb-true}
use Rattle.std.proofs.lemmas.Int.{ints}
use Rattle.std.proofs.lemmas.List.Sums.{sum_by-cons}
use Rattle.std.specs.Prelude.{sum_by, ◌==◌, if◌then◌else◌}
use Rattle.exact_algebra.proofs.Ring.{num, var, neg, ring, ring_given, given, same, ◌⊕◌, ◌⊗◌}
use Rattle.exact_algebra.proofs.Signs.{pred_of, mul_pos}
use Rattle.sign_predicates.specs.Point.{Point, RationalPoint, as_rational}
use Rattle.geo_laws.specs.Delaunay.{point}
use Rattle.geo_laws.specs.Simplex.{sum_by_weights, InSimplex, has_number, common_corners, ProperlyMet}
use Rattle.sign_predicates.proofs.Places.{Place, A, B, C, D}
use Rattle.geo_laws.proofs.Means.{weighted_sum-const}
use Rattle.geo_laws.proofs.Members.{IsMember, here, there, in_filter, filter_cases, some_true, any_true}

-- ---- sums under other weights

weights-step : (m n f g h s t : ℤ) → (m *ℤ f +ℤ n *ℤ g) *ℤ h +ℤ (m *ℤ s +ℤ n *ℤ t) ≡ m *ℤ (f *ℤ h +ℤ s) +ℤ n *ℤ (g *ℤ h +ℤ t)
unfolding same
weights-step m n f g h s t =
    ring ((var 0 ⊗ var 2 ⊕ var 1 ⊗ var 3) ⊗ var 4 ⊕ (var 0 ⊗ var 5 ⊕ var 1 ⊗ var 6)) (var 0 ⊗ (var 2 ⊗ var 4 ⊕ var 5) ⊕ var 1 ⊗ (var 3 ⊗ var 4 ⊕ var 6))
    tt (m ∷ n ∷ f ∷ g ∷ h ∷ s ∷ t ∷ [])

no_multiples : (m n : ℤ) → m *ℤ pos 0 +ℤ n *ℤ pos 0 ≡ pos 0
unfolding same
no_multiples m n = ring (var 0 ⊗ num (pos 0) ⊕ var 1 ⊗ num (pos 0)) (num (pos 0)) tt (m ∷ n ∷ [])

-- the sum is linear in the weights
pub weighted_sum-weights : (m n : ℕ) (f g : ℕ → ℕ) (h : ℕ → ℤ) (s : List ℕ) → sum_by_weights (λ i. m * f i + n * g i) h s ≡ pos m *ℤ sum_by_weights f h s +ℤ pos n *ℤ sum_by_weights g h s
weighted_sum-weights m n f g h [] = sym (no_multiples (pos m) (pos n))
weighted_sum-weights m n f g h (i ∷ s) =
    ap (λ r. pos (m * f i + n * g i) *ℤ h i +ℤ r) (weighted_sum-weights m n f g h s)
    ∙ weights-step (pos m) (pos n) (pos (f i)) (pos (g i)) (h i) (sum_by_weights f h s) (sum_by_weights g h s)

gone : (a : ℤ) → pos 0 *ℤ a +ℤ pos 0 ≡ pos 0
unfolding same
gone a = ring (num (pos 0) ⊗ var 0 ⊕ num (pos 0)) (num (pos 0)) tt (a ∷ [])

-- no weights have no sum
pub weighted_sum-none : (h : ℕ → ℤ) (s : List ℕ) → sum_by_weights (λ i. 0) h s ≡ pos 0
weighted_sum-none h [] = refl
weighted_sum-none h (i ∷ s) = ap (λ r. pos 0 *ℤ h i +ℤ r) (weighted_sum-none h s) ∙ gone (h i)

-- ---- the weight of one corner alone

abbrev alone : ℕ → ℕ → ℕ
alone i j = if j == i then 1 else 0

one_more : (b : Bool) (i j : ℕ) (h : ℕ → ℤ) (n r : ℤ) → (j == i) ≡ b → r ≡ n *ℤ h i → pos (if b then 1 else 0) *ℤ h j +ℤ r ≡ (pos (if b then 1 else 0) +ℤ n) *ℤ h i
unfolding same
one_more true i j h n r e d =
    ap (λ k. pos 1 *ℤ h k +ℤ r) (eqb-true j i e)
    ∙ ring_given (num (pos 1) ⊗ var 0 ⊕ var 2) ((num (pos 1) ⊕ var 1) ⊗ var 0) (given (num (pos 1)) (var 2) (var 1 ⊗ var 0) ∷ []) tt (h i ∷ n ∷ r ∷ []) (d, tt)
one_more false i j h n r e d =
    ring_given (num (pos 0) ⊗ var 3 ⊕ var 2) ((num (pos 0) ⊕ var 1) ⊗ var 0) (given (num (pos 1)) (var 2) (var 1 ⊗ var 0) ∷ []) tt (h i ∷ n ∷ r ∷ h j ∷ []) (d, tt)

zero_times : (a : ℤ) → pos 0 *ℤ a ≡ pos 0
unfolding same
zero_times a = ring (num (pos 0) ⊗ var 0) (num (pos 0)) tt (a ∷ [])

weighted_sum-alone : (i : ℕ) (h : ℕ → ℤ) (s : List ℕ) → sum_by_weights (alone i) h s ≡ pos (sum_by (alone i) s) *ℤ h i
weighted_sum-alone i h [] = sym (zero_times (h i))
weighted_sum-alone i h (j ∷ s) =
    one_more (j == i) i j h (pos (sum_by (alone i) s)) (sum_by_weights (alone i) h s) refl (weighted_sum-alone i h s) ∙ ap (λ n. pos n *ℤ h i) (sym (sum_by-cons (alone i) j s))

alone-above : (i : ℕ) (s : List ℕ) → IsMember i s → 0 < sum_by (alone i) s
alone-above i [] m = elim m [ ]
alone-above i (i' ∷ s) here = let e = sum_by-cons (alone i) i s in let o = own in omega arith
  where
    own : alone i i ≡ 1
    own = ap (λ b. if b then 1 else 0) (eq-eqb i i refl)
alone-above i (j ∷ s) (there m) = let e = sum_by-cons (alone i) j s in let h = alone-above i s m in omega arith

-- ---- sums of corners with weights, up to a factor

-- a coordinate of a point, and 1 in the last place
abbrev pub coordinate : List Point → Place → ℕ → ℤ
coordinate ps A i = (point ps i).x
coordinate ps B i = (point ps i).y
coordinate ps C i = (point ps i).z
coordinate ps D i = pos 1

-- the same of a rational point, over its w
abbrev pub coordinates : RationalPoint → Place → ℤ
coordinates x A = x.x
coordinates x B = x.y
coordinates x C = x.z
coordinates x D = x.w

-- The values are those of a sum of the corners with weights. So all values are 0, or they are a point of the hull
pub record InCone (ps : List Point) (s : List ℕ) (value : Place → ℤ) : Type 0 where
  pub weight : ℕ → ℕ
  pub factor : ℕ
  pub some : 0 < factor
  pub is : (k : Place) → sum_by_weights weight (coordinate ps k) s ≡ pos factor *ℤ value k

cone_none : (ps : List Point) (s : List ℕ) → InCone ps s (λ k. pos 0)
cone_none ps s = record { weight = λ i. 0; factor = 1; some = omega arith; is = λ k. weighted_sum-none (coordinate ps k) s }

positive_product : (m n : ℕ) → 0 < m → 0 < n → 0 < m * n
positive_product zero n h k = absurd (omega arith)
positive_product (suc m) zero h k = absurd (omega arith)
positive_product (suc m) (suc n) h k = omega arith

added : (m n s t u v : ℤ) → s ≡ m *ℤ u → t ≡ n *ℤ v → n *ℤ s +ℤ m *ℤ t ≡ (m *ℤ n) *ℤ (u +ℤ v)
unfolding same
added m n s t u v e d =
    ring_given (var 1 ⊗ var 2 ⊕ var 0 ⊗ var 3) ((var 0 ⊗ var 1) ⊗ (var 4 ⊕ var 5)) (given (var 1) (var 2) (var 0 ⊗ var 4) ∷ given (var 0) (var 3) (var 1 ⊗ var 5) ∷ [])
    tt (m ∷ n ∷ s ∷ t ∷ u ∷ v ∷ []) (e, (d, tt))

cone_add : (ps : List Point) (s : List ℕ) (u v : Place → ℤ) → InCone ps s u → InCone ps s v → InCone ps s (λ k. u k +ℤ v k)
cone_add ps s u v p q = record {
  weight = λ i. q.factor * p.weight i + p.factor * q.weight i;
  factor = p.factor * q.factor;
  some = positive_product p.factor q.factor p.some q.some;
  is = λ k. weighted_sum-weights q.factor p.factor p.weight q.weight (coordinate ps k) s
      ∙ added (pos p.factor) (pos q.factor) (sum_by_weights p.weight (coordinate ps k) s) (sum_by_weights q.weight (coordinate ps k) s) (u k) (v k) (p.is k) (q.is k);
}

scaled : (n m s u : ℤ) → s ≡ m *ℤ u → n *ℤ s +ℤ pos 0 *ℤ s ≡ m *ℤ (n *ℤ u)
unfolding same
scaled n m s u e =
    ring_given (var 0 ⊗ var 2 ⊕ num (pos 0) ⊗ var 2) (var 1 ⊗ (var 0 ⊗ var 3)) (given (var 0) (var 2) (var 1 ⊗ var 3) ∷ []) tt (n ∷ m ∷ s ∷ u ∷ []) (e, tt)

cone_scale : (ps : List Point) (s : List ℕ) (n : ℕ) (u : Place → ℤ) → InCone ps s u → InCone ps s (λ k. pos n *ℤ u k)
cone_scale ps s n u p = record {
  weight = λ i. n * p.weight i + 0 * p.weight i;
  factor = p.factor;
  some = p.some;
  is = λ k. weighted_sum-weights n 0 p.weight p.weight (coordinate ps k) s ∙ scaled (pos n) (pos p.factor) (sum_by_weights p.weight (coordinate ps k) s) (u k) (p.is k);
}

moved : (m n u : ℤ) → m *ℤ (n *ℤ u) ≡ (m *ℤ n) *ℤ u
unfolding same
moved m n u = ring (var 0 ⊗ (var 1 ⊗ var 2)) ((var 0 ⊗ var 1) ⊗ var 2) tt (m ∷ n ∷ u ∷ [])

cone_unscale : (ps : List Point) (s : List ℕ) (n : ℕ) (u : Place → ℤ) → 0 < n → InCone ps s (λ k. pos n *ℤ u k) → InCone ps s u
cone_unscale ps s n u h p = record {
  weight = p.weight;
  factor = p.factor * n;
  some = positive_product p.factor n p.some h;
  is = λ k. p.is k ∙ moved (pos p.factor) (pos n) (u k);
}

cone_same : (ps : List Point) (s : List ℕ) (u v : Place → ℤ) → ((k : Place) → u k ≡ v k) → InCone ps s u → InCone ps s v
cone_same ps s u v e p = record { weight = p.weight; factor = p.factor; some = p.some; is = λ k. p.is k ∙ ap (λ a. pos p.factor *ℤ a) (e k) }

-- a corner
cone_corner : (ps : List Point) (s : List ℕ) (i : ℕ) → IsMember i s → InCone ps s (λ k. coordinate ps k i)
cone_corner ps s i m = record { weight = alone i; factor = sum_by (alone i) s; some = alone-above i s m; is = λ k. weighted_sum-alone i (coordinate ps k) s }

-- ---- cones and simplices

scaled_mean : (n m s x : ℤ) → s *ℤ n ≡ x *ℤ m → n *ℤ s +ℤ pos 0 *ℤ s ≡ m *ℤ x
unfolding same
scaled_mean n m s x e =
    ring_given (var 0 ⊗ var 2 ⊕ num (pos 0) ⊗ var 2) (var 1 ⊗ var 3) (given (num (pos 1)) (var 2 ⊗ var 0) (var 3 ⊗ var 1) ∷ []) tt (n ∷ m ∷ s ∷ x ∷ []) (e, tt)

turned : (m w : ℤ) → (pos 1 *ℤ m) *ℤ w ≡ w *ℤ m
unfolding same
turned m w = ring ((num (pos 1) ⊗ var 0) ⊗ var 1) (var 1 ⊗ var 0) tt (m ∷ w ∷ [])

pub cone_of : (ps : List Point) (s : List ℕ) (x : RationalPoint) → pos 0 <ℤ x.w → InSimplex ps s x → InCone ps s (coordinates x)
cone_of ps s x w h =
    let n = pred_of x.w w in
    record {
      weight = λ i. suc n.0 * h.0 i + 0 * h.0 i;
      factor = sum_by h.0 s;
      some = h.1.some;
      is = λ k. weighted_sum-weights (suc n.0) 0 h.0 h.0 (coordinate ps k) s
          ∙ scaled_mean (pos (suc n.0)) (pos (sum_by h.0 s)) (sum_by_weights h.0 (coordinate ps k) s) (coordinates x k) (ap (λ v. sum_by_weights h.0 (coordinate ps k) s *ℤ v) (sym n.1) ∙ at k);
    }
  where
    at : (k : Place) → sum_by_weights h.0 (coordinate ps k) s *ℤ x.w ≡ coordinates x k *ℤ pos (sum_by h.0 s)
    at A = h.1.x_is
    at B = h.1.y_is
    at C = h.1.z_is
    at D = ap (λ q. q *ℤ x.w) (weighted_sum-const h.0 (pos 1) s) ∙ turned (pos (sum_by h.0 s)) x.w

mean_of : (c m s x w : ℤ) → s ≡ c *ℤ x → m ≡ c *ℤ w → s *ℤ w ≡ x *ℤ m
unfolding same
mean_of c m s x w e d =
    ring_given (var 2 ⊗ var 4) (var 3 ⊗ var 1) (given (var 4) (var 2) (var 0 ⊗ var 3) ∷ given (neg (var 3)) (var 1) (var 0 ⊗ var 4) ∷ []) tt (c ∷ m ∷ s ∷ x ∷ w ∷ []) (e, (d, tt))

ones : (a : ℤ) → pos 1 *ℤ a ≡ a
unfolding same
ones a = ring (num (pos 1) ⊗ var 0) (var 0) tt (a ∷ [])

pub simplex_of : (ps : List Point) (s : List ℕ) (x : RationalPoint) → pos 0 <ℤ x.w → InCone ps s (coordinates x) → InSimplex ps s x
simplex_of ps s x w h = (
  h.weight,
  record {
    some = above (sum_by h.weight s) (pos h.factor *ℤ x.w) total (mul_pos (pos h.factor) x.w (let f = h.some in omega (arith, ints)) w);
    x_is = mean_of (pos h.factor) (pos (sum_by h.weight s)) (sum_by_weights h.weight (coordinate ps A) s) x.x x.w (h.is A) total;
    y_is = mean_of (pos h.factor) (pos (sum_by h.weight s)) (sum_by_weights h.weight (coordinate ps B) s) x.y x.w (h.is B) total;
    z_is = mean_of (pos h.factor) (pos (sum_by h.weight s)) (sum_by_weights h.weight (coordinate ps C) s) x.z x.w (h.is C) total;
  },
)
  where
    above : (n : ℕ) (a : ℤ) → pos n ≡ a → pos 0 <ℤ a → 0 < n
    above n a e k = omega (arith, ints)

    total : pos (sum_by h.weight s) ≡ pos h.factor *ℤ x.w
    total = sym (ones (pos (sum_by h.weight s))) ∙ sym (weighted_sum-const h.weight (pos 1) s) ∙ h.is D

-- a sum of corners that lie in the cone lies in it
cone_in : (ps : List Point) (r s : List ℕ) (f : ℕ → ℕ) → ((i : ℕ) → IsMember i s → InCone ps r (λ k. coordinate ps k i)) → InCone ps r (λ k. sum_by_weights f (coordinate ps k) s)
cone_in ps r [] f h = cone_none ps r
cone_in ps r (i ∷ s) f h =
    cone_add ps r (λ k. pos (f i) *ℤ coordinate ps k i) (λ k. sum_by_weights f (coordinate ps k) s) (cone_scale ps r (f i) (λ k. coordinate ps k i) (h i here)) (cone_in ps r s f (λ j m. h j (there m)))

-- where each corner of s is a sum of the corners of r, each point of s lies in r
in_of_corners : (ps : List Point) (r s : List ℕ) → ((i : ℕ) → IsMember i s → InCone ps r (λ k. coordinate ps k i)) → (x : RationalPoint) → pos 0 <ℤ x.w → InSimplex ps s x → InSimplex ps r x
in_of_corners ps r s h x w m =
    let c = cone_of ps s x w m in
    simplex_of ps r x w (cone_unscale ps r c.factor (coordinates x) c.some (cone_same ps r (λ k. sum_by_weights c.weight (coordinate ps k) s) (λ k. pos c.factor *ℤ coordinates x k) c.is (cone_in ps r s c.weight h)))

-- a simplex that holds each corner of another one holds it
pub simplex_in : (ps : List Point) (r s : List ℕ) → ((i : ℕ) → IsMember i s → InSimplex ps r (as_rational (point ps i))) → (x : RationalPoint) → pos 0 <ℤ x.w → InSimplex ps s x → InSimplex ps r x
simplex_in ps r s h = in_of_corners ps r s (λ i m. cone_same ps r (coordinates (as_rational (point ps i))) (λ k. coordinate ps k i) (at i) (cone_of ps r (as_rational (point ps i)) (omega (arith, ints)) (h i m)))
  where
    at : (i : ℕ) (k : Place) → coordinates (as_rational (point ps i)) k ≡ coordinate ps k i
    at i A = refl
    at i B = refl
    at i C = refl
    at i D = refl

-- a simplex lies in each one that has its corners
pub simplex_of_members : (ps : List Point) (r s : List ℕ) → ((i : ℕ) → IsMember i s → IsMember i r) → (x : RationalPoint) → pos 0 <ℤ x.w → InSimplex ps s x → InSimplex ps r x
simplex_of_members ps r s h = in_of_corners ps r s (λ i m. cone_corner ps r i (h i m))

-- a corner lies in the simplex
pub corner_in : (ps : List Point) (s : List ℕ) (i : ℕ) → IsMember i s → InSimplex ps s (as_rational (point ps i))
corner_in ps s i m = simplex_of ps s (as_rational (point ps i)) (omega (arith, ints)) (cone_same ps s (λ k. coordinate ps k i) (coordinates (as_rational (point ps i))) at (cone_corner ps s i m))
  where
    at : (k : Place) → coordinate ps k i ≡ coordinates (as_rational (point ps i)) k
    at A = refl
    at B = refl
    at C = refl
    at D = refl

-- ---- properly met simplices

pub member_of_test : (s : List ℕ) (i : ℕ) → has_number s i ≡ true → IsMember i s
member_of_test s i e = let f = some_true (λ j. j == i) s e in subst (λ j. IsMember j s) (eqb-true f.0 i f.2) f.1

pub test_of_member : (s : List ℕ) (i : ℕ) → IsMember i s → has_number s i ≡ true
test_of_member s i m = any_true (λ j. j == i) s i m (eq-eqb i i refl)

-- a common corner stands in both
pub common_of : (s r : List ℕ) (i : ℕ) → IsMember i (common_corners s r) → IsMember i s × IsMember i r
common_of s r i m = let f = filter_cases (has_number r) i s m in (f.0, member_of_test r i f.1)

pub in_common : (s r : List ℕ) (i : ℕ) → IsMember i s → IsMember i r → IsMember i (common_corners s r)
in_common s r i m n = in_filter (has_number r) i s m (test_of_member r i n)

-- which simplex stands first doesn't matter
pub properly_met_swap : (ps : List Point) (s r : List ℕ) → ProperlyMet ps s r → ProperlyMet ps r s
properly_met_swap ps s r p x w in_r in_s =
    simplex_of_members ps (common_corners r s) (common_corners s r) (λ i m. let f = common_of s r i m in in_common r s i f.1 f.0) x w (p x w in_s in_r)

-- nor how the corners stand
pub properly_met_same : (ps : List Point) (s s' r r' : List ℕ) → ((i : ℕ) → IsMember i s → IsMember i s') → ((i : ℕ) → IsMember i s' → IsMember i s)
    → ((i : ℕ) → IsMember i r → IsMember i r') → ((i : ℕ) → IsMember i r' → IsMember i r) → ProperlyMet ps s r → ProperlyMet ps s' r'
properly_met_same ps s s' r r' st ts ru ur p x w in_s in_r =
    simplex_of_members ps (common_corners s' r') (common_corners s r) (λ i m. let f = common_of s r i m in in_common s' r' i (st i f.0) (ru i f.1)) x w
    (p x w (simplex_of_members ps s s' ts x w in_s) (simplex_of_members ps r r' ur x w in_r))
