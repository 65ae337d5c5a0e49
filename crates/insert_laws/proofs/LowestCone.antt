-- A side from a to b of a lowest tetrahedron s, where b lies in the closed cone of another one, t, from a. A point x of that side near a lies in the
-- closed t too: it is strictly on the inner side of the face opposite a. So both are properly met at x, and b, which weighs there, is a corner of t.
use Rattle.std.proofs.Common.{◌≡◌, ◌≢◌, ◌⊎◌, inl, inr, ℕ, suc, ◌<◌, ℤ, pos, nat_abs, ◌+ℤ◌, ◌*ℤ◌, ◌<ℤ◌, ◌≤ℤ◌, Bool, true, false, List, refl, sym, ap, subst, ◌∙◌, arith, eq-eqb, ne_eqb}
use Rattle.std.proofs.lemmas.Int.{ints}
use Rattle.std.specs.Prelude.{sum_by, Contains, ◌==◌, if◌then◌else◌}
use lib.IntN.{*ℤ-zero, zero-*ℤ}
use Rattle.exact_algebra.proofs.Signs.{mul_pos, nonneg_of_pos, nonneg_same, multiple_above}
use Rattle.sign_predicates.specs.Point.{Point, RationalPoint, as_rational}
use Rattle.sign_predicates.specs.Orientation.{Triangle, side, side_rational, IsPositive}
use Rattle.sign_predicates.specs.declared.tetrahedron.Corners.{Corners}
use Rattle.geo_laws.specs.Delaunay.{point, corners, numbers}
use Rattle.geo_laws.specs.Simplex.{sum_by_weights, IsMean}
use Rattle.geo_laws.specs.declared.tetrahedra.Tet.{Tet}
use Rattle.geo_laws.proofs.Arrangement.{IsEven}
use Rattle.geo_laws.proofs.Corners.{IsCorner, corner_of, contains_or_not, distinct, side-own_point, side-other_point}
use Rattle.geo_laws.proofs.Determinants.{combined, side_rational-combined, side_rational-as_rational}
use Rattle.geo_laws.proofs.Means.{weighted_sum-const, weighted_sum-numbers}
use Rattle.geo_laws.proofs.Members.{member_of}
use Rattle.sign_predicates.proofs.Places.{Place, A, B, C, D, IsOther, same_or_other, opposite}
use Rattle.geo_laws.proofs.Places.{number, over_places}
use Rattle.geo_laws.proofs.Radical.{sides_mean, weight-own}
use Rattle.insert_laws.specs.LowestCone.{IsInCone, LowestConeLaw}
use Rattle.insert_laws.proofs.LowestBridge.{even_of_same}

-- a sum of which only two parts are not 0
sum-two : (u v : Place) (f : Place → ℤ) → IsOther u v → ((w : Place) → IsOther w u → IsOther w v → f w ≡ pos 0) → over_places f ≡ f u +ℤ f v
sum-two A A f o h = absurd o
sum-two A B f o h = omega (arith, ints, h C tt tt, h D tt tt)
sum-two A C f o h = omega (arith, ints, h B tt tt, h D tt tt)
sum-two A D f o h = omega (arith, ints, h B tt tt, h C tt tt)
sum-two B A f o h = omega (arith, ints, h C tt tt, h D tt tt)
sum-two B B f o h = absurd o
sum-two B C f o h = omega (arith, ints, h A tt tt, h D tt tt)
sum-two B D f o h = omega (arith, ints, h A tt tt, h C tt tt)
sum-two C A f o h = omega (arith, ints, h B tt tt, h D tt tt)
sum-two C B f o h = omega (arith, ints, h A tt tt, h D tt tt)
sum-two C C f o h = absurd o
sum-two C D f o h = omega (arith, ints, h A tt tt, h B tt tt)
sum-two D A f o h = omega (arith, ints, h B tt tt, h C tt tt)
sum-two D B f o h = omega (arith, ints, h A tt tt, h C tt tt)
sum-two D C f o h = omega (arith, ints, h A tt tt, h B tt tt)
sum-two D D f o h = absurd o

-- ---- the point near a on the segment to b, as a mean of the corners of a tetrahedron with both

-- a weighs n and b weighs 1
abbrev two_weights : ℕ → ℕ → ℕ → ℕ → ℕ
two_weights n a b i = if i == a then n else (if i == b then 1 else 0)

by_tests : (n : ℕ) (p q p' q' : Bool) → p ≡ p' → q ≡ q' → (if p then n else (if q then 1 else 0)) ≡ (if p' then n else (if q' then 1 else 0))
by_tests n p q p' q' e f = λ j. if e j then n else (if f j then 1 else 0)

first_weight : (n a b i : ℕ) → i ≡ a → two_weights n a b i ≡ n
first_weight n a b i e = by_tests n (i == a) (i == b) true (i == b) (eq-eqb i a e) refl

second_weight : (n a b i : ℕ) → i ≢ a → i ≡ b → two_weights n a b i ≡ 1
second_weight n a b i d e = by_tests n (i == a) (i == b) false true (ne_eqb i a d) (eq-eqb i b e)

no_weight : (n a b i : ℕ) → i ≢ a → i ≢ b → two_weights n a b i ≡ 0
no_weight n a b i d e = by_tests n (i == a) (i == b) false false (ne_eqb i a d) (ne_eqb i b e)

-- the point n a + b, over n + 1
abbrev near_first : List Point → ℕ → ℕ → ℕ → RationalPoint
near_first ps n a b = combined (pos n) (as_rational (point ps a)) (as_rational (point ps b))

module _ (ps : List Point) (s : Tet) (p : IsPositive (corners ps s)) (n a b : ℕ) (apart : a ≢ b) (in_a : IsCorner s a) (in_b : IsCorner s b) where
  places_apart : IsOther in_a.0 in_b.0
  places_apart = by (same_or_other in_a.0 in_b.0)
    where
      by : (in_a.0 ≡ in_b.0) ⊎ IsOther in_a.0 in_b.0 → IsOther in_a.0 in_b.0
      by (inl e) = absurd (apart (in_a.1 ∙ ap (number s) e ∙ sym in_b.1))
      by (inr o) = o

  two_sum : (f : ℕ → ℤ) → sum_by_weights (two_weights n a b) f (numbers s) ≡ pos n *ℤ f a +ℤ f b
  two_sum f =
      let part = λ (u : Place). pos (two_weights n a b (number s u)) *ℤ f (number s u) in
      let none = λ (u : Place) (o : IsOther u in_a.0) (q : IsOther u in_b.0). ap (λ w. pos w *ℤ f (number s u)) (no_weight n a b (number s u)
      (λ e. distinct ps s p u in_a.0 o (e ∙ in_a.1)) (λ e. distinct ps s p u in_b.0 q (e ∙ in_b.1))) ∙ zero-*ℤ (f (number s u)) in
      let first : part in_a.0 ≡ pos n *ℤ f a = λ j. pos (first_weight n a b (number s in_a.0) (sym in_a.1) j) *ℤ f (sym in_a.1 j) in
      let second : part in_b.0 ≡ pos 1 *ℤ f b = λ j. pos (second_weight n a b (number s in_b.0) (λ e. apart (sym e ∙ sym in_b.1)) (sym in_b.1) j) *ℤ f (sym in_b.1 j) in
      weighted_sum-numbers (two_weights n a b) f s ∙ sum-two in_a.0 in_b.0 part places_apart none ∙ shape (part in_a.0) (part in_b.0) (pos n *ℤ f a) (f b) first second
    where
      shape : (x y z w : ℤ) → x ≡ z → y ≡ pos 1 *ℤ w → x +ℤ y ≡ z +ℤ w
      shape x y z w e d = omega (arith, ints)

  total : pos (sum_by (two_weights n a b) (numbers s)) ≡ (near_first ps n a b).w
  total = shape (pos (sum_by (two_weights n a b) (numbers s))) _ (pos n *ℤ pos 1 +ℤ pos 1) (weighted_sum-const (two_weights n a b) (pos 1) (numbers s)) (two_sum (λ i. pos 1))
    where
      shape : (t x y : ℤ) → x ≡ pos 1 *ℤ t → x ≡ y → t ≡ y
      shape t x y e d = omega (arith, ints)

  near_mean : IsMean ps (numbers s) (two_weights n a b) (near_first ps n a b)
  near_mean = record {
    some = some (sum_by (two_weights n a b) (numbers s)) n total;
    x_is = λ j. two_sum (λ i. (point ps i).x) j *ℤ sym total j;
    y_is = λ j. two_sum (λ i. (point ps i).y) j *ℤ sym total j;
    z_is = λ j. two_sum (λ i. (point ps i).z) j *ℤ sym total j;
  }
    where
      some : (t n : ℕ) → pos t ≡ pos n *ℤ pos 1 +ℤ pos 1 → 0 < t
      some t n e = omega (arith, ints)

-- ---- the same point in the closed cone of a tetrahedron

-- its side is the combination of those of a and b
near_side : (ps : List Point) (f : Triangle) (n a b : ℕ) → side_rational f (near_first ps n a b) ≡ pos n *ℤ side f (point ps a) +ℤ side f (point ps b)
near_side ps f n a b =
    side_rational-combined f (pos n) (as_rational (point ps a)) (as_rational (point ps b))
    ∙ (λ j. pos n *ℤ side_rational-as_rational f (point ps a) j +ℤ side_rational-as_rational f (point ps b) j)

-- a face that isn't opposite a
cone_side : (ps : List Point) (t : Tet) (a b : ℕ) → IsInCone ps t a b → (u : Place) → number t u ≢ a → pos 0 ≤ℤ side (opposite (corners ps t) u) (point ps b)
cone_side ps t a b cone A d = cone 0 (omega arith) d
cone_side ps t a b cone B d = cone 1 (omega arith) d
cone_side ps t a b cone C d = cone 2 (omega arith) d
cone_side ps t a b cone D d = cone 3 (omega arith) d

-- the point is in the closed tetrahedron where n is large
near_closed : (ps : List Point) (t : Tet) → IsPositive (corners ps t) → (n a b : ℕ) (in_a : IsCorner t a) → IsInCone ps t a b → nat_abs (side (opposite (corners ps t) in_a.0) (point ps b)) < n
    → (u : Place) → pos 0 ≤ℤ side_rational (opposite (corners ps t) u) (near_first ps n a b)
near_closed ps t p n a b in_a cone large u = by (same_or_other u in_a.0)
  where
    c : Corners
    c = corners ps t

    at_a : (v : Place) → side (opposite (corners ps t) v) (point ps a) ≡ side (opposite (corners ps t) v) (point ps (number t in_a.0))
    at_a v = ap (λ i. side (opposite (corners ps t) v) (point ps i)) in_a.1

    own : pos 0 ≤ℤ side_rational (opposite (corners ps t) in_a.0) (near_first ps n a b)
    own =
        let f = opposite (corners ps t) in_a.0 in
        let above : pos 0 <ℤ side f (point ps a) = subst (λ v. pos 0 <ℤ v) (sym (at_a in_a.0 ∙ side-own_point ps t in_a.0)) p in
        nonneg_same _ _ (near_side ps f n a b) (nonneg_of_pos _ (multiple_above n (side f (point ps a)) (side f (point ps b)) large above))

    by : (u ≡ in_a.0) ⊎ IsOther u in_a.0 → pos 0 ≤ℤ side_rational (opposite (corners ps t) u) (near_first ps n a b)
    by (inl e) = subst (λ v. pos 0 ≤ℤ side_rational (opposite (corners ps t) v) (near_first ps n a b)) (sym e) own
    by (inr o) =
        let f = opposite (corners ps t) u in
        let on : side f (point ps a) ≡ pos 0 = at_a u ∙ side-other_point ps t u in_a.0 o in
        let none = ap (λ v. pos n *ℤ v) on ∙ *ℤ-zero (pos n) in
        added _ (pos n *ℤ side f (point ps a)) (side f (point ps b)) (near_side ps f n a b) none (cone_side ps t a b cone u (λ e. distinct ps t p u in_a.0 o (e ∙ in_a.1)))
      where
        added : (s m k : ℤ) → s ≡ m +ℤ k → m ≡ pos 0 → pos 0 ≤ℤ k → pos 0 ≤ℤ s
        added s m k e z h = omega (arith, ints)

pub law_cone : LowestConeLaw
law_cone lifts ps ms within s r t ds dr same positive a b apart in_t cone in_s_a in_s_b = by (contains_or_not (numbers t) b)
  where
    at_a : IsCorner t a
    at_a = corner_of t a in_t

    n : ℕ
    n = suc (nat_abs (side (opposite (corners ps t) at_a.0) (point ps b)))

    x : RationalPoint
    x = near_first ps n a b

    even : IsEven ps t r
    even = even_of_same ps t r positive dr.is_positive dr.is_arranged same

    large : nat_abs (side (opposite (corners ps t) at_a.0) (point ps b)) < n
    large = omega arith

    x_above : (k : ℕ) → pos 0 <ℤ (pos k *ℤ pos 1 +ℤ pos 1)
    x_above k = omega (arith, ints)

    closed : (u : Place) → pos 0 ≤ℤ side_rational (opposite (corners ps r) u) (near_first ps n a b)
    closed u = subst (λ z. pos 0 ≤ℤ z) (sym (even.side_is u (near_first ps n a b))) (near_closed ps t positive n a b at_a cone large (even.to u))

    by : Contains (numbers t) b ⊎ ¬ Contains (numbers t) b → Contains (numbers t) b
    by (inl c) = c
    by (inr not) =
        let own = near_mean ps s ds.is_positive n a b apart (corner_of s a in_s_a) (corner_of s b in_s_b) in
        let other = sides_mean ps r (near_first ps n a b) dr.is_positive (mul_pos _ _ dr.is_positive (x_above n)) closed in
        let none = weight-own ps ms lifts s r (two_weights n a b) other.weight (near_first ps n a b) (x_above n) ds dr
        own other.mean b (member_of (numbers s) b in_s_b) (λ c. not ((same b).1 c)) in
        let one = second_weight n a b b (λ e. apart (sym e)) refl in
        absurd (omega arith)
