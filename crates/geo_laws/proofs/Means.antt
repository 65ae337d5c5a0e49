-- Weighted sums over the corners of a simplex. An affine function, such as a side, has at a mean of the corners the mean of its values there.
use Rattle.std.proofs.Common.{◌≡◌, inr, ℕ, ◌+◌, ℤ, pos, ◌+ℤ◌, ◌-ℤ◌, ◌*ℤ◌, ◌<ℤ◌, Bool, true, false, cond, List, [], ◌∷◌, refl, ap, sym, ◌∙◌, arith}
use Rattle.std.proofs.lemmas.Int.{ints}
use Rattle.std.specs.Prelude.{sum_by, filter}
use Rattle.sign_predicates.specs.Point.{Point, RationalPoint}
use Rattle.sign_predicates.specs.Orientation.{Triangle, normal, side, side_rational}
use Rattle.geo_laws.specs.Delaunay.{point, numbers}
use Rattle.geo_laws.specs.Simplex.{sum_by_weights, IsMean}
use Rattle.geo_laws.specs.declared.tetrahedra.Tet.{Tet}
use Rattle.sign_predicates.proofs.Places.{Place, A, B, C, D}
use Rattle.geo_laws.proofs.Places.{over_places, number}
use Rattle.geo_laws.proofs.Determinants.{offset, side-linear, side_rational-linear, mean-affine}
use Rattle.std.proofs.lemmas.List.Sums.{sum_by-cons}
use Rattle.exact_algebra.proofs.Ring.{var, ring, same, ◌⊕◌, ◌⊖◌, ◌⊗◌}
use Rattle.geo_laws.proofs.Members.{IsMember, here, there}
use Rattle.geo_laws.proofs.Lexicographic.{IsLexAbove, IsLexAtLeast, at_least_add, above_add, add_above, lex_scale, at_least_multiple, zero_everywhere}
use lib.IntN.{*ℤ-zero, zero-*ℤ}

-- ---- sums, multiples and constants

sum-add : (w f g s t : ℤ) → w *ℤ (f +ℤ g) +ℤ (s +ℤ t) ≡ (w *ℤ f +ℤ s) +ℤ (w *ℤ g +ℤ t)
unfolding same
sum-add w f g s t =
    ring (var 0 ⊗ (var 1 ⊕ var 2) ⊕ (var 3 ⊕ var 4)) ((var 0 ⊗ var 1 ⊕ var 3) ⊕ (var 0 ⊗ var 2 ⊕ var 4)) tt (w ∷ f ∷ g ∷ s ∷ t ∷ [])

sum-scale : (w c f s : ℤ) → w *ℤ (c *ℤ f) +ℤ c *ℤ s ≡ c *ℤ (w *ℤ f +ℤ s)
unfolding same
sum-scale w c f s =
    ring (var 0 ⊗ (var 1 ⊗ var 2) ⊕ var 1 ⊗ var 3) (var 1 ⊗ (var 0 ⊗ var 2 ⊕ var 3)) tt (w ∷ c ∷ f ∷ s ∷ [])

sum-const : (w c t : ℤ) → w *ℤ c +ℤ c *ℤ t ≡ c *ℤ (w +ℤ t)
unfolding same
sum-const w c t =
    ring (var 0 ⊗ var 1 ⊕ var 1 ⊗ var 2) (var 1 ⊗ (var 0 ⊕ var 2)) tt (w ∷ c ∷ t ∷ [])

sum-sub : (w f g s t : ℤ) → w *ℤ (f -ℤ g) +ℤ (s -ℤ t) ≡ (w *ℤ f +ℤ s) -ℤ (w *ℤ g +ℤ t)
unfolding same
sum-sub w f g s t =
    ring (var 0 ⊗ (var 1 ⊖ var 2) ⊕ (var 3 ⊖ var 4)) ((var 0 ⊗ var 1 ⊕ var 3) ⊖ (var 0 ⊗ var 2 ⊕ var 4)) tt (w ∷ f ∷ g ∷ s ∷ t ∷ [])

sum-times : (w f c s : ℤ) → w *ℤ (f *ℤ c) +ℤ s *ℤ c ≡ (w *ℤ f +ℤ s) *ℤ c
unfolding same
sum-times w f c s =
    ring (var 0 ⊗ (var 1 ⊗ var 2) ⊕ var 3 ⊗ var 2) ((var 0 ⊗ var 1 ⊕ var 3) ⊗ var 2) tt (w ∷ f ∷ c ∷ s ∷ [])

-- the sum of sums
pub weighted_sum-add : (weight : ℕ → ℕ) (f g : ℕ → ℤ) (s : List ℕ) → sum_by_weights weight (λ i. f i +ℤ g i) s ≡ sum_by_weights weight f s +ℤ sum_by_weights weight g s
weighted_sum-add weight f g [] = refl
weighted_sum-add weight f g (i ∷ s) = ap (λ r. pos (weight i) *ℤ (f i +ℤ g i) +ℤ r) (weighted_sum-add weight f g s) ∙ sum-add (pos (weight i)) (f i) (g i) (sum_by_weights weight f s) (sum_by_weights weight g s)

-- of multiples
pub weighted_sum-scale : (weight : ℕ → ℕ) (c : ℤ) (f : ℕ → ℤ) (s : List ℕ) → sum_by_weights weight (λ i. c *ℤ f i) s ≡ c *ℤ sum_by_weights weight f s
weighted_sum-scale weight c f [] = sym (*ℤ-zero c)
weighted_sum-scale weight c f (i ∷ s) = ap (λ r. pos (weight i) *ℤ (c *ℤ f i) +ℤ r) (weighted_sum-scale weight c f s) ∙ sum-scale (pos (weight i)) c (f i) (sum_by_weights weight f s)

-- of a constant
pub weighted_sum-const : (weight : ℕ → ℕ) (c : ℤ) (s : List ℕ) → sum_by_weights weight (λ i. c) s ≡ c *ℤ pos (sum_by weight s)
weighted_sum-const weight c [] = sym (*ℤ-zero c)
weighted_sum-const weight c (i ∷ s) =
    ap (λ r. pos (weight i) *ℤ c +ℤ r) (weighted_sum-const weight c s) ∙ sum-const (pos (weight i)) c (pos (sum_by weight s))
    ∙ ap (λ n. c *ℤ pos n) (sym (sum_by-cons weight i s))

-- of differences
pub weighted_sum-sub : (weight : ℕ → ℕ) (f g : ℕ → ℤ) (s : List ℕ) → sum_by_weights weight (λ i. f i -ℤ g i) s ≡ sum_by_weights weight f s -ℤ sum_by_weights weight g s
weighted_sum-sub weight f g [] = refl
weighted_sum-sub weight f g (i ∷ s) = ap (λ r. pos (weight i) *ℤ (f i -ℤ g i) +ℤ r) (weighted_sum-sub weight f g s) ∙ sum-sub (pos (weight i)) (f i) (g i) (sum_by_weights weight f s) (sum_by_weights weight g s)

-- of multiples, with the factor last
pub weighted_sum-times : (weight : ℕ → ℕ) (f : ℕ → ℤ) (c : ℤ) (s : List ℕ) → sum_by_weights weight (λ i. f i *ℤ c) s ≡ sum_by_weights weight f s *ℤ c
weighted_sum-times weight f c [] = sym (zero-*ℤ c)
weighted_sum-times weight f c (i ∷ s) = ap (λ r. pos (weight i) *ℤ (f i *ℤ c) +ℤ r) (weighted_sum-times weight f c s) ∙ sum-times (pos (weight i)) (f i) c (sum_by_weights weight f s)

-- and of sums over the places
pub weighted_sum-places : (weight : ℕ → ℕ) (f : Place → ℕ → ℤ) (s : List ℕ) → sum_by_weights weight (λ i. over_places (λ u. f u i)) s ≡ over_places (λ u. sum_by_weights weight (f u) s)
weighted_sum-places weight f s =
    weighted_sum-add weight (λ i. f A i +ℤ f B i +ℤ f C i) (f D) s
    ∙ ap (λ q. q +ℤ sum_by_weights weight (f D) s) (weighted_sum-add weight (λ i. f A i +ℤ f B i) (f C) s
    ∙ ap (λ q. q +ℤ sum_by_weights weight (f C) s) (weighted_sum-add weight (f A) (f B) s))

-- over the corners of a tetrahedron
pub weighted_sum-numbers : (weight : ℕ → ℕ) (f : ℕ → ℤ) (t : Tet) → sum_by_weights weight f (numbers t) ≡ over_places (λ u. pos (weight (number t u)) *ℤ f (number t u))
weighted_sum-numbers weight f t = shape (pos (weight t.a) *ℤ f t.a) (pos (weight t.b) *ℤ f t.b) (pos (weight t.c) *ℤ f t.c) (pos (weight t.d) *ℤ f t.d)
  where
    shape : (a b c d : ℤ) → a +ℤ (b +ℤ (c +ℤ (d +ℤ pos 0))) ≡ a +ℤ b +ℤ c +ℤ d
    shape a b c d = omega (arith, ints)

-- the same values have the same sum
pub weighted_sum-same : (weight : ℕ → ℕ) (f g : ℕ → ℤ) (s : List ℕ) → ((i : ℕ) → f i ≡ g i) → sum_by_weights weight f s ≡ sum_by_weights weight g s
weighted_sum-same weight f g s e = λ j. sum_by_weights weight (λ i. e i j) s

-- the sum of a side over the corners, in the sums of their coordinates
weighted_sum-side : (ps : List Point) (weight : ℕ → ℕ) (f : Triangle) (s : List ℕ)
    → sum_by_weights weight (λ i. side f (point ps i)) s
    ≡ (normal f).x *ℤ sum_by_weights weight (λ i. (point ps i).x) s +ℤ ((normal f).y *ℤ sum_by_weights weight (λ i. (point ps i).y) s
    +ℤ ((normal f).z *ℤ sum_by_weights weight (λ i. (point ps i).z) s +ℤ offset f *ℤ pos (sum_by weight s)))
weighted_sum-side ps weight f s =
    let x = λ (i : ℕ). (normal f).x *ℤ (point ps i).x in
    let y = λ (i : ℕ). (normal f).y *ℤ (point ps i).y in
    let z = λ (i : ℕ). (normal f).z *ℤ (point ps i).z in
    weighted_sum-same weight _ (λ i. x i +ℤ (y i +ℤ (z i +ℤ offset f))) s (λ i. side-linear f (point ps i))
    ∙ weighted_sum-add weight x (λ i. y i +ℤ (z i +ℤ offset f)) s
    ∙ ap (λ r. sum_by_weights weight x s +ℤ r) (weighted_sum-add weight y (λ i. z i +ℤ offset f) s)
    ∙ ap (λ r. sum_by_weights weight x s +ℤ (sum_by_weights weight y s +ℤ r)) (weighted_sum-add weight z (λ i. offset f) s)
    ∙ (λ j. weighted_sum-scale weight (normal f).x (λ i. (point ps i).x) s j
    +ℤ (weighted_sum-scale weight (normal f).y (λ i. (point ps i).y) s j
    +ℤ (weighted_sum-scale weight (normal f).z (λ i. (point ps i).z) s j +ℤ weighted_sum-const weight (offset f) s j)))

-- The sum of a side over the corners is the side of their mean, up to the two denominators
pub side-mean : (ps : List Point) (weight : ℕ → ℕ) (f : Triangle) (s : List ℕ) (x : RationalPoint) → IsMean ps s weight x
    → sum_by_weights weight (λ i. side f (point ps i)) s *ℤ x.w ≡ side_rational f x *ℤ pos (sum_by weight s)
side-mean ps weight f s x mean =
    ap (λ r. r *ℤ x.w) (weighted_sum-side ps weight f s)
    ∙ mean-affine (normal f).x (normal f).y (normal f).z (offset f) _ _ _ (pos (sum_by weight s)) x.w x.x x.y x.z mean.x_is mean.y_is mean.z_is
    ∙ ap (λ r. r *ℤ pos (sum_by weight s)) (sym (side_rational-linear f x))

-- ---- sums over the numbers that pass a test, where the others have no weight

-- a number without weight adds nothing
zero-weight : (w : ℕ) (n r : ℤ) → w ≡ 0 → r ≡ pos w *ℤ n +ℤ r
zero-weight w n r e = drop_zero r ∙ ap (λ q. q +ℤ r) (sym (ap (λ v. pos v *ℤ n) e ∙ zero-*ℤ n))
  where
    drop_zero : (r : ℤ) → r ≡ pos 0 +ℤ r
    drop_zero r = omega (arith, ints)

-- so a filter that drops only such numbers changes no sum
pub weighted_sum-filter : (weight : ℕ → ℕ) (f : ℕ → ℤ) (test : ℕ → Bool) (s : List ℕ) → ((i : ℕ) → IsMember i s → test i ≡ false → weight i ≡ 0)
    → sum_by_weights weight f (filter test s) ≡ sum_by_weights weight f s
weighted_sum-filter weight f test [] h = refl
weighted_sum-filter weight f test (i ∷ s) h = go (test i) refl (weighted_sum-filter weight f test s (λ j m. h j (there m)))
  where
    go : (b : Bool) → test i ≡ b → sum_by_weights weight f (filter test s) ≡ sum_by_weights weight f s
        → sum_by_weights weight f (cond b (i ∷ filter test s) (filter test s)) ≡ sum_by_weights weight f (i ∷ s)
    go true e rest = ap (λ q. pos (weight i) *ℤ f i +ℤ q) rest
    go false e rest = rest ∙ zero-weight (weight i) (f i) (sum_by_weights weight f s) (h i here e)

-- nor the sum of the weights
pub sum_by-filter : (weight : ℕ → ℕ) (test : ℕ → Bool) (s : List ℕ) → ((i : ℕ) → IsMember i s → test i ≡ false → weight i ≡ 0)
    → sum_by weight (filter test s) ≡ sum_by weight s
sum_by-filter weight test [] h = refl
sum_by-filter weight test (i ∷ s) h = go (test i) refl (sum_by-filter weight test s (λ j m. h j (there m)))
  where
    go : (b : Bool) → test i ≡ b → sum_by weight (filter test s) ≡ sum_by weight s → sum_by weight (cond b (i ∷ filter test s) (filter test s)) ≡ sum_by weight (i ∷ s)
    go true e rest = sum_by-cons weight i (filter test s) ∙ ap (λ q. weight i + q) rest ∙ sym (sum_by-cons weight i s)
    go false e rest = let w = h i here e in let c = sum_by-cons weight i s in omega arith

-- ---- sums of lists of numbers that are at least 0

-- parts that are at least 0 have a sum that is
pub weighted_sum-at_least : (weight : ℕ → ℕ) (f : ℕ → ℕ → ℤ) (ks s : List ℕ) → ((i : ℕ) → IsMember i s → IsLexAtLeast (f i) ks)
    → IsLexAtLeast (λ k. sum_by_weights weight (λ i. f i k) s) ks
weighted_sum-at_least weight f ks [] h = inr (zero_everywhere (λ k. pos 0) ks (λ k. refl))
weighted_sum-at_least weight f ks (i ∷ s) h =
    at_least_add (λ k. pos (weight i) *ℤ f i k) (λ k. sum_by_weights weight (λ j. f j k) s) ks
    (at_least_multiple (pos (weight i)) (f i) ks (omega (arith, ints)) (h i here)) (weighted_sum-at_least weight f ks s (λ j m. h j (there m)))

-- one part above 0 that weighs makes the sum so
pub weighted_sum-above : (weight : ℕ → ℕ) (f : ℕ → ℕ → ℤ) (ks s : List ℕ) → ((i : ℕ) → IsMember i s → IsLexAtLeast (f i) ks)
    → (j : ℕ) → IsMember j s → pos 0 <ℤ pos (weight j) → IsLexAbove (f j) ks → IsLexAbove (λ k. sum_by_weights weight (λ i. f i k) s) ks
weighted_sum-above weight f ks [] h j m w a = elim m [ ]
weighted_sum-above weight f ks (j ∷ s) h j' here w a =
    above_add (λ k. pos (weight j) *ℤ f j k) (λ k. sum_by_weights weight (λ i. f i k) s) ks
    (lex_scale (pos (weight j)) (f j) ks w a) (weighted_sum-at_least weight f ks s (λ i m. h i (there m)))
weighted_sum-above weight f ks (i ∷ s) h j (there m) w a =
    add_above (λ k. pos (weight i) *ℤ f i k) (λ k. sum_by_weights weight (λ e. f e k) s) ks
    (at_least_multiple (pos (weight i)) (f i) ks (omega (arith, ints)) (h i here)) (weighted_sum-above weight f ks s (λ e n. h e (there n)) j m w a)
