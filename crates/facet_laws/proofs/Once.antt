-- A leg leaves a polygon only once through sides that have it on one hand.
use Rattle.std.proofs.Common.{[], ◌∷◌, ◌≡◌, ap, sym, subst, ◌∙◌, arith}
use Rattle.std.proofs.lemmas.Int.{ints}
use Rattle.std.specs.Prelude.{ℤ, pos, ◌+ℤ◌, ◌-ℤ◌, ◌*ℤ◌, ◌<ℤ◌, ◌≤ℤ◌}
use Rattle.exact_algebra.proofs.Signs.{mul_pos, mul_nonneg, nonneg_of_mul}
use Rattle.exact_algebra.proofs.Ring.{num, var, neg, ring_given, given, same, ◌⊕◌, ◌⊖◌, ◌⊗◌}
use Rattle.sign_predicates.specs.Point.{Point, RationalPoint, as_rational}
use Rattle.sign_predicates.specs.Orientation.{Triangle, side, side_rational}
use Rattle.geo_laws.proofs.Determinants.{side_rational-as_rational}
use Rattle.facet_laws.specs.Legs.{IsWeightedMean}
use Rattle.facet_laws.proofs.Insides.{side-leg}
use Rattle.facet_laws.specs.Passing.{PassesThrough, LeftOnceLaw}
use Rattle.facet_laws.proofs.Passed.{at_zero, both_weigh}
use Rattle.facet_laws.proofs.Inner.{leg_back}
use lib.IntN.{*ℤ-zero, +ℤ_comm, *ℤ_comm}

weak : (n : ℤ) → pos 0 <ℤ n → pos 0 ≤ℤ n
weak n h = omega (arith, ints)

-- a point between two points of a half space
pub between : (g : Triangle) (a b : Point) (x : RationalPoint) → pos 0 ≤ℤ side g a → pos 0 ≤ℤ side g b → IsWeightedMean (as_rational a) (as_rational b) x → pos 0 ≤ℤ side_rational g x
between g a b x ha hb l =
    nonneg_of_mul l.total (side_rational g x) l.some
    (subst (λ z. pos 0 ≤ℤ z) (sym (side-leg g (as_rational a) (as_rational b) x l))
    (sum (l.to_x *ℤ side_rational g (as_rational a)) (l.to_y *ℤ side_rational g (as_rational b)) (mul_nonneg l.to_x _ l.x_weighs (at a ha)) (mul_nonneg l.to_y _ l.y_weighs (at b hb))))
  where
    at : (p : Point) → pos 0 ≤ℤ side g p → pos 0 ≤ℤ side_rational g (as_rational p)
    at p h = subst (λ z. pos 0 ≤ℤ z) (sym (side_rational-as_rational g p)) h

    sum : (a b : ℤ) → pos 0 ≤ℤ a → pos 0 ≤ℤ b → pos 0 ≤ℤ (a +ℤ b)
    sum a b h k = omega (arith, ints)

-- the first of two points of a leg, by a plane that the leg meets in the second
before : (m1 n1 m2 n2 u v : ℤ) → pos 0 <ℤ u → pos 0 ≤ℤ n2 → pos 0 ≤ℤ (m1 *ℤ u +ℤ n1 *ℤ v) → m2 *ℤ u +ℤ n2 *ℤ v ≡ pos 0 → (m2 *ℤ n1) ≤ℤ (m1 *ℤ n2)
unfolding same
before m1 n1 m2 n2 u v hu hn h e =
    at_most (m2 *ℤ n1) (m1 *ℤ n2) (nonneg_of_mul u (m1 *ℤ n2 -ℤ m2 *ℤ n1) hu (subst (λ z. pos 0 ≤ℤ z) (sym equal) (mul_nonneg n2 (m1 *ℤ u +ℤ n1 *ℤ v) hn h)))
  where
    at_most : (a b : ℤ) → pos 0 ≤ℤ (b -ℤ a) → a ≤ℤ b
    at_most a b h = omega (arith, ints)

    equal : u *ℤ (m1 *ℤ n2 -ℤ m2 *ℤ n1) ≡ n2 *ℤ (m1 *ℤ u +ℤ n1 *ℤ v)
    equal =
        ring_given (var 4 ⊗ (var 0 ⊗ var 3 ⊖ var 2 ⊗ var 1)) (var 3 ⊗ (var 0 ⊗ var 4 ⊕ var 1 ⊗ var 5))
        (given (neg (var 1)) (var 2 ⊗ var 4 ⊕ var 3 ⊗ var 5) (num (pos 0)) ∷ []) tt (m1 ∷ n1 ∷ m2 ∷ n2 ∷ u ∷ v ∷ []) (e, tt)

same_place : (K L T m1 n1 t1 m2 n2 t2 a b x y z1 z2 : ℤ) → K *ℤ a +ℤ L *ℤ b ≡ T *ℤ z1 → m1 *ℤ x +ℤ n1 *ℤ y ≡ t1 *ℤ z1 → m2 *ℤ x +ℤ n2 *ℤ y ≡ t2 *ℤ z2 → m1 *ℤ n2 ≡ m2 *ℤ n1
    → ((m2 *ℤ t1) *ℤ K) *ℤ a +ℤ ((m2 *ℤ t1) *ℤ L) *ℤ b ≡ (T *ℤ (m1 *ℤ t2)) *ℤ z2
unfolding same
same_place K L T m1 n1 t1 m2 n2 t2 a b x y z1 z2 e f g h =
    ring_given (((var 6 ⊗ var 5) ⊗ var 0) ⊗ var 9 ⊕ ((var 6 ⊗ var 5) ⊗ var 1) ⊗ var 10) ((var 2 ⊗ (var 3 ⊗ var 8)) ⊗ var 14)
    (given (var 6 ⊗ var 5) (var 0 ⊗ var 9 ⊕ var 1 ⊗ var 10) (var 2 ⊗ var 13)
    ∷ given (neg (var 2 ⊗ var 6)) (var 3 ⊗ var 11 ⊕ var 4 ⊗ var 12) (var 5 ⊗ var 13)
    ∷ given (var 2 ⊗ var 3) (var 6 ⊗ var 11 ⊕ var 7 ⊗ var 12) (var 8 ⊗ var 14)
    ∷ given (neg (var 2 ⊗ var 12)) (var 3 ⊗ var 7) (var 6 ⊗ var 4) ∷ [])
    tt (K ∷ L ∷ T ∷ m1 ∷ n1 ∷ t1 ∷ m2 ∷ n2 ∷ t2 ∷ a ∷ b ∷ x ∷ y ∷ z1 ∷ z2 ∷ []) (e, (f, (g, (h, tt))))

-- two points of a leg at the same place: a segment that holds the one holds the other
pub moved_part : (a b x y z1 z2 : RationalPoint) (p : IsWeightedMean a b z1) (l : IsWeightedMean x y z1) (m : IsWeightedMean x y z2) → pos 0 <ℤ l.to_x → l.to_x *ℤ m.to_y ≡ m.to_x *ℤ l.to_y → IsWeightedMean a b z2
moved_part a b x y z1 z2 p l m count together = record {
  total = p.total *ℤ (l.to_x *ℤ m.total);
  to_x = (m.to_x *ℤ l.total) *ℤ p.to_x;
  to_y = (m.to_x *ℤ l.total) *ℤ p.to_y;
  some = mul_pos p.total _ p.some (mul_pos l.to_x m.total count m.some);
  x_weighs = mul_nonneg _ p.to_x (mul_nonneg m.to_x l.total m.x_weighs (weak l.total l.some)) p.x_weighs;
  y_weighs = mul_nonneg _ p.to_y (mul_nonneg m.to_x l.total m.x_weighs (weak l.total l.some)) p.y_weighs;
  x_is = same_place _ _ _ _ l.to_y _ _ m.to_y _ _ _ x.x y.x _ _ p.x_is l.x_is m.x_is together;
  y_is = same_place _ _ _ _ l.to_y _ _ m.to_y _ _ _ x.y y.y _ _ p.y_is l.y_is m.y_is together;
  z_is = same_place _ _ _ _ l.to_y _ _ m.to_y _ _ _ x.z y.z _ _ p.z_is l.z_is m.z_is together;
  w_is = same_place _ _ _ _ l.to_y _ _ m.to_y _ _ _ x.w y.w _ _ p.w_is l.w_is m.w_is together;
}

pub zero_leg : (x y : RationalPoint) (a b : Point) (h : PassesThrough x y a b) → h.leg.to_x *ℤ side_rational h.g x +ℤ h.leg.to_y *ℤ side_rational h.g y ≡ pos 0
zero_leg x y a b h = sym (side-leg h.g x y h.at h.leg) ∙ ap (λ n. h.leg.total *ℤ n) (at_zero x y a b h) ∙ *ℤ-zero h.leg.total

pub weigh : (x y : RationalPoint) (a b : Point) (h : PassesThrough x y a b) → pos 0 <ℤ x.w → pos 0 <ℤ y.w → (pos 0 <ℤ h.leg.to_x) × (pos 0 <ℤ h.leg.to_y)
weigh x y a b h xw yw =
    both_weigh h.leg.to_x h.leg.to_y (side_rational h.g x) (side_rational h.g y) x.w y.w (h.leg.total *ℤ h.at.w) h.leg.x_weighs h.leg.y_weighs h.x_side h.y_side
    (zero_leg x y a b h) h.leg.w_is (mul_pos h.leg.total h.at.w h.leg.some h.weight)

pub law_left_once : LeftOnceLaw
law_left_once a b c d x xw y yw h k ka kb hc hd =
    (moved_part (as_rational a) (as_rational b) x y h.at k.at h.part h.leg k.leg (weigh x y a b h xw yw).0 together, k.part)
  where
    ahead : (a b c d : Point) (h : PassesThrough x y a b) (k : PassesThrough x y c d) → pos 0 ≤ℤ side k.g a → pos 0 ≤ℤ side k.g b → (k.leg.to_x *ℤ h.leg.to_y) ≤ℤ (h.leg.to_x *ℤ k.leg.to_y)
    ahead a b c d h k ka kb =
        before h.leg.to_x h.leg.to_y k.leg.to_x k.leg.to_y (side_rational k.g x) (side_rational k.g y) k.x_side k.leg.y_weighs
        (subst (λ z. pos 0 ≤ℤ z) (side-leg k.g x y h.at h.leg) (mul_nonneg h.leg.total (side_rational k.g h.at) (weak h.leg.total h.leg.some) (between k.g a b h.at ka kb h.part)))
        (zero_leg x y c d k)

    equal : (m n : ℤ) → n ≤ℤ m → m ≤ℤ n → m ≡ n
    equal m n h k = omega (arith, ints)

    together : h.leg.to_x *ℤ k.leg.to_y ≡ k.leg.to_x *ℤ h.leg.to_y
    together = equal (h.leg.to_x *ℤ k.leg.to_y) (k.leg.to_x *ℤ h.leg.to_y) (ahead a b c d h k ka kb) (ahead c d a b k h hc hd)

-- and where it enters the polygon through a side before it leaves it
pub entered : (a b c d : Point) (x y : RationalPoint) → pos 0 <ℤ x.w → pos 0 <ℤ y.w → (h : PassesThrough x y a b) (k : PassesThrough y x c d) → pos 0 ≤ℤ side k.g a → pos 0 ≤ℤ side k.g b
    → (h.leg.to_y *ℤ k.leg.to_y) ≤ℤ (h.leg.to_x *ℤ k.leg.to_x) → IsWeightedMean (as_rational a) (as_rational b) k.at
entered a b c d x y xw yw h k ka kb first =
    moved_part (as_rational a) (as_rational b) x y h.at k.at h.part h.leg (leg_back y x k.at k.leg) (weigh x y a b h xw yw).0 together
  where
    ahead : (k.leg.to_x *ℤ h.leg.to_x) ≤ℤ (h.leg.to_y *ℤ k.leg.to_y)
    ahead = before h.leg.to_y h.leg.to_x k.leg.to_x k.leg.to_y (side_rational k.g y) (side_rational k.g x) k.x_side k.leg.y_weighs
        (subst (λ z. pos 0 ≤ℤ z) (side-leg k.g x y h.at h.leg ∙ +ℤ_comm (h.leg.to_x *ℤ side_rational k.g x) (h.leg.to_y *ℤ side_rational k.g y))
        (mul_nonneg h.leg.total (side_rational k.g h.at) (weak h.leg.total h.leg.some) (between k.g a b h.at ka kb h.part)))
        (zero_leg y x c d k)

    equal : (m n p q : ℤ) → n ≤ℤ m → m ≤ℤ p → p ≡ n → q ≡ m → p ≡ q
    equal m n p q h k e f = omega (arith, ints)

    together : h.leg.to_x *ℤ k.leg.to_x ≡ k.leg.to_y *ℤ h.leg.to_y
    together = equal (h.leg.to_y *ℤ k.leg.to_y) (k.leg.to_x *ℤ h.leg.to_x) (h.leg.to_x *ℤ k.leg.to_x) (k.leg.to_y *ℤ h.leg.to_y) ahead first
        (*ℤ_comm h.leg.to_x k.leg.to_x) (*ℤ_comm k.leg.to_y h.leg.to_y)
