-- A leg and an inner side: it has no common point with the side, or passes through it from the one hand to the other.
use Rattle.std.proofs.Common.{◌≡◌, ◌≢◌, ◌⊎◌, inl, inr, ℕ, ℤ, pos, neg_ℤ, ◌+ℤ◌, ◌*ℤ◌, ◌<ℤ◌, ◌≤ℤ◌, Bool, true, false, List, [], ◌∷◌, refl, ap, sym, subst, ◌∙◌, arith}
use Rattle.std.proofs.lemmas.Int.{ints}
use Rattle.std.specs.List.{AllByRecursion}
use Rattle.std.specs.Prelude.{Contains}
use Rattle.exact_algebra.proofs.Ring.{◌⊕◌, ◌⊗◌, num, var, neg, ring, ring_given, given, same}
use Rattle.exact_algebra.proofs.Signs.{by_sign, mul_pos, mul_neg, mul_nonneg, zero_of_mul, cancel_mul}
use Rattle.sign_predicates.specs.Point.{Point, RationalPoint, as_rational}
use Rattle.sign_predicates.specs.Orientation.{Triangle, side, side_rational}
use Rattle.geo_laws.specs.Delaunay.{point}
use Rattle.geo_laws.specs.Facet.{Facet, areas, is_on_piece}
use Rattle.geo_laws.specs.declared.complex.Piece.{Piece}
use Rattle.geo_laws.proofs.Members.{member_of}
use Rattle.facet_laws.specs.Inner.{HasOnce, IsInnerSide}
use Rattle.facet_laws.specs.Legs.{IsWeightedMean, IsClear}
use Rattle.facet_laws.specs.Passing.{LiesBeside, LiesBeyond}
use Rattle.facet_laws.proofs.Chains.{all_at, all_both}
use Rattle.facet_laws.proofs.Constant.{all_map, moved_leg, no_leg}
use Rattle.facet_laws.proofs.Inner.{leg_back, over, side-over, least_over}
use Rattle.facet_laws.proofs.Insides.{side-leg}
use Rattle.facet_laws.proofs.Once.{moved_part}
use Rattle.facet_laws.proofs.OnPiece.{test_leg}
use Rattle.facet_laws.proofs.Rays.{point_zero}
use lib.IntN.{*ℤ-zero, zero-*ℤ, *ℤ_comm, +ℤ_comm}

-- ---- the other half space

-- what lies in the other half space lies beside its plane, turned round
pub beyond_beside : (ps : List Point) (f g : Triangle) (q : List ℕ) → LiesBeyond ps f g q → LiesBeside ps f (over g) q
beyond_beside ps f g q h =
    all_map (λ i. (side f (point ps i) ≡ pos 0) × (side g (point ps i) ≤ℤ pos 0)) (λ i. (side f (point ps i) ≡ pos 0) × (pos 0 ≤ℤ side (over g) (point ps i))) q
    (λ i k. (k.0, least_over _ _ (side-over g (point ps i)) k.1)) h

-- ---- inner sides in the plane of the facet

-- The side of a polygon is inner in the facet, and in the plane f both polygons lie
pub record IsInnerIn (ps : List Point) (f : Triangle) (facet : Facet) (polygon : List ℕ) (s : Piece) : Type 0 where
  pub no_holes : facet.holes ≡ []
  pub other : List ℕ
  pub listed : Contains (areas facet) other
  pub g : Triangle
  pub a_on : side g (point ps s.a) ≡ pos 0
  pub b_on : side g (point ps s.b) ≡ pos 0
  pub ends : point ps s.a ≢ point ps s.b
  pub beside : LiesBeside ps f g polygon
  pub beyond : LiesBeyond ps f g other
  pub off : ℕ
  pub off_is : Contains polygon off
  pub off_line : pos 0 <ℤ side g (point ps off)
  pub own : HasOnce ps s polygon
  pub others : HasOnce ps s other

pub inner_in : (ps : List Point) (f : Triangle) (facet : Facet) (q : List ℕ) (s : Piece) → AllByRecursion (λ q. AllByRecursion (λ i. side f (point ps i) ≡ pos 0) q) (areas facet) → AllByRecursion (λ i. side f (point ps i) ≡ pos 0) q
    → IsInnerSide ps facet q s → IsInnerIn ps f facet q s
inner_in ps f facet q s all flat i = record {
  no_holes = i.no_holes;
  other = i.other;
  listed = i.listed;
  g = i.g;
  a_on = i.a_on;
  b_on = i.b_on;
  ends = i.ends;
  beside = all_both (λ k. side f (point ps k) ≡ pos 0) (λ k. pos 0 ≤ℤ side i.g (point ps k)) _ q (λ k a b. (a, b)) flat i.beside;
  beyond = all_both (λ k. side f (point ps k) ≡ pos 0) (λ k. side i.g (point ps k) ≤ℤ pos 0) _ i.other (λ k a b. (a, b)) (all_at (λ q. AllByRecursion (λ i. side f (point ps i) ≡ pos 0) q) i.other (areas facet) all (member_of (areas facet) i.other i.listed)) i.beyond;
  off = i.off;
  off_is = i.off_is;
  off_line = i.off_line;
  own = i.own;
  others = i.others;
}

-- ---- the leg passes through the side

-- one number is above 0 and the other below
pub data Parted (m n : ℤ) : Type 0 where
  down : pos 0 <ℤ m → n <ℤ pos 0 → Parted m n
  up : m <ℤ pos 0 → pos 0 <ℤ n → Parted m n

-- the leg passes through the side, at no end of it, from the one hand of the plane g to the other
pub record Passing (ps : List Point) (x y : RationalPoint) (s : Piece) (g : Triangle) : Type 0 where
  pub at : RationalPoint
  pub weight : pos 0 <ℤ at.w
  pub leg : IsWeightedMean x y at
  pub part : IsWeightedMean (as_rational (point ps s.a)) (as_rational (point ps s.b)) at
  pub a_weighs : pos 0 <ℤ part.to_x
  pub b_weighs : pos 0 <ℤ part.to_y
  pub x_weighs : pos 0 <ℤ leg.to_x
  pub y_weighs : pos 0 <ℤ leg.to_y
  pub hands : Parted (side_rational g x) (side_rational g y)

-- a plane that holds both ends of a side holds its points
pub side_zero : (ps : List Point) (g : Triangle) (s : Piece) (z : RationalPoint) → side g (point ps s.a) ≡ pos 0 → side g (point ps s.b) ≡ pos 0
    → (l : IsWeightedMean (as_rational (point ps s.a)) (as_rational (point ps s.b)) z) → l.total *ℤ side_rational g z ≡ pos 0
side_zero ps g s z a b l =
    side-leg g (as_rational (point ps s.a)) (as_rational (point ps s.b)) z l
    ∙ (λ j. l.to_x *ℤ point_zero g (point ps s.a) a j +ℤ l.to_y *ℤ point_zero g (point ps s.b) b j)
    ∙ (λ j. *ℤ-zero l.to_x j +ℤ *ℤ-zero l.to_y j)

-- the mean of x and y by their distances from a plane that parts them, and lies in it
abbrev cut : (m n : ℤ) → RationalPoint → RationalPoint → RationalPoint
cut m n x y = record { x = n *ℤ x.x +ℤ m *ℤ y.x; y = n *ℤ x.y +ℤ m *ℤ y.y; z = n *ℤ x.z +ℤ m *ℤ y.z; w = n *ℤ x.w +ℤ m *ℤ y.w }

abbrev cut_leg : (m n : ℤ) (x y : RationalPoint) → pos 0 <ℤ m → pos 0 <ℤ n → IsWeightedMean x y (cut m n x y)
cut_leg m n x y hm hn = record {
  total = pos 1;
  to_x = n;
  to_y = m;
  some = omega (arith, ints);
  x_weighs = weak n hn;
  y_weighs = weak m hm;
  x_is = once _;
  y_is = once _;
  z_is = once _;
  w_is = once _;
}
  where
    weak : (n : ℤ) → pos 0 <ℤ n → pos 0 ≤ℤ n
    weak n h = omega (arith, ints)

    once : (n : ℤ) → n ≡ pos 1 *ℤ n
    once n = omega (arith, ints)

cross_up : (m n : ℤ) → n *ℤ m +ℤ neg_ℤ m *ℤ n ≡ pos 0
unfolding same
cross_up m n = ring (var 1 ⊗ var 0 ⊕ neg (var 0) ⊗ var 1) (num (pos 0)) tt (m ∷ n ∷ [])

cross_down : (m n : ℤ) → neg_ℤ n *ℤ m +ℤ m *ℤ n ≡ pos 0
unfolding same
cross_down m n = ring (neg (var 1) ⊗ var 0 ⊕ var 0 ⊗ var 1) (num (pos 0)) tt (m ∷ n ∷ [])

neg_both : (q a b : ℤ) → q *ℤ a ≡ q *ℤ b → neg_ℤ q *ℤ a ≡ neg_ℤ q *ℤ b
unfolding same
neg_both q a b e = ring_given (neg (var 0) ⊗ var 1) (neg (var 0) ⊗ var 2) (given (neg (num (pos 1))) (var 0 ⊗ var 1) (var 0 ⊗ var 2) ∷ []) tt (q ∷ a ∷ b ∷ []) (e, tt)

same_product : (u v m n p q : ℤ) → u *ℤ p +ℤ v *ℤ q ≡ pos 0 → n *ℤ p +ℤ m *ℤ q ≡ pos 0 → q *ℤ (u *ℤ m) ≡ q *ℤ (n *ℤ v)
unfolding same
same_product u v m n p q e f =
    ring_given (var 5 ⊗ (var 0 ⊗ var 2)) (var 5 ⊗ (var 3 ⊗ var 1))
    (given (var 0) (var 3 ⊗ var 4 ⊕ var 2 ⊗ var 5) (num (pos 0)) ∷ given (neg (var 3)) (var 0 ⊗ var 4 ⊕ var 1 ⊗ var 5) (num (pos 0)) ∷ [])
    tt (u ∷ v ∷ m ∷ n ∷ p ∷ q ∷ []) (f, (e, tt))

-- no end of the side is on the leg
pub record IsOffLeg (ps : List Point) (x y : RationalPoint) (s : Piece) : Type 0 where
  pub a_off : ¬ IsWeightedMean x y (as_rational (point ps s.a))
  pub b_off : ¬ IsWeightedMean x y (as_rational (point ps s.b))

-- a leg and a side whose ends are not on it, where x is not on the side, and y not in a plane through the side
pub clear_or_passing : (ps : List Point) (x y : RationalPoint) (s : Piece) (g : Triangle) → pos 0 <ℤ x.w → pos 0 <ℤ y.w → side g (point ps s.a) ≡ pos 0 → side g (point ps s.b) ≡ pos 0
    → is_on_piece ps s x ≡ false → side_rational g y ≢ pos 0 → IsOffLeg ps x y s → IsClear x y (point ps s.a) (point ps s.b) ⊎ Passing ps x y s g
clear_or_passing ps x y s g xw yw a b off gy ends =
    by_sign (side_rational g x)
    (λ nx. by_sign (side_rational g y) (λ ny. inl (alike_below nx ny)) (λ e. absurd (gy e)) (λ py. parted (neg_ℤ (side_rational g x)) (side_rational g y) (turned _ nx) py (cross_up (side_rational g x) (side_rational g y)) (up nx py)))
    (λ e. inl (flat e))
    (λ px. by_sign (side_rational g y) (λ ny. parted (side_rational g x) (neg_ℤ (side_rational g y)) px (turned _ ny) (cross_down (side_rational g x) (side_rational g y)) (down px ny)) (λ e. absurd (gy e)) (λ py. inl (alike_above px py)))
  where
    turned : (n : ℤ) → n <ℤ pos 0 → pos 0 <ℤ neg_ℤ n
    turned n h = omega (arith, ints)

    -- at a common point the sides of x and y cancel
    cancel : (z : RationalPoint) → pos 0 <ℤ z.w → (l : IsWeightedMean x y z) → IsWeightedMean (as_rational (point ps s.a)) (as_rational (point ps s.b)) z → l.to_x *ℤ side_rational g x +ℤ l.to_y *ℤ side_rational g y ≡ pos 0
    cancel z zw l k = sym (side-leg g x y z l) ∙ ap (λ n. l.total *ℤ n) (zero_of_mul k.total (side_rational g z) k.some (side_zero ps g s z a b k)) ∙ *ℤ-zero l.total

    no_weight : (m n : ℤ) → pos 0 ≤ℤ m → pos 0 ≤ℤ n → (pos 0 <ℤ m → ⊥) → m ≡ pos 0
    no_weight m n h k f = by_sign m (λ l. absurd (below m h l)) (λ e. e) (λ l. absurd (f l))
      where
        below : (m : ℤ) → pos 0 ≤ℤ m → m <ℤ pos 0 → ⊥
        below m h l = omega (arith, ints)

    nothing : (m n t : ℤ) → m ≡ pos 0 → n ≡ pos 0 → m *ℤ x.w +ℤ n *ℤ y.w ≡ t → pos 0 <ℤ t → ⊥
    nothing m n t em en e h = by (ap (λ k. k *ℤ x.w) em ∙ zero-*ℤ x.w) (ap (λ k. k *ℤ y.w) en ∙ zero-*ℤ y.w) e
      where
        by : m *ℤ x.w ≡ pos 0 → n *ℤ y.w ≡ pos 0 → m *ℤ x.w +ℤ n *ℤ y.w ≡ t → ⊥
        by p q e = omega (arith, ints)

    alike_above : pos 0 <ℤ side_rational g x → pos 0 <ℤ side_rational g y → IsClear x y (point ps s.a) (point ps s.b)
    alike_above px py z zw l k =
        nothing l.to_x l.to_y (l.total *ℤ z.w)
        (no_weight l.to_x l.to_y l.x_weighs l.y_weighs (λ w. sum _ _ (mul_pos l.to_x _ w px) (mul_nonneg l.to_y _ l.y_weighs (weak _ py)) (cancel z zw l k)))
        (no_weight l.to_y l.to_x l.y_weighs l.x_weighs (λ w. sum' _ _ (mul_nonneg l.to_x _ l.x_weighs (weak _ px)) (mul_pos l.to_y _ w py) (cancel z zw l k)))
        l.w_is (mul_pos l.total z.w l.some zw)
      where
        weak : (n : ℤ) → pos 0 <ℤ n → pos 0 ≤ℤ n
        weak n h = omega (arith, ints)

        sum : (a b : ℤ) → pos 0 <ℤ a → pos 0 ≤ℤ b → a +ℤ b ≡ pos 0 → ⊥
        sum a b h k e = omega (arith, ints)

        sum' : (a b : ℤ) → pos 0 ≤ℤ a → pos 0 <ℤ b → a +ℤ b ≡ pos 0 → ⊥
        sum' a b h k e = omega (arith, ints)

    alike_below : side_rational g x <ℤ pos 0 → side_rational g y <ℤ pos 0 → IsClear x y (point ps s.a) (point ps s.b)
    alike_below nx ny z zw l k =
        nothing l.to_x l.to_y (l.total *ℤ z.w)
        (no_weight l.to_x l.to_y l.x_weighs l.y_weighs (λ w. sum _ _ (mul_neg l.to_x _ w nx) (below_product l.to_y _ l.y_weighs ny) (cancel z zw l k)))
        (no_weight l.to_y l.to_x l.y_weighs l.x_weighs (λ w. sum' _ _ (below_product l.to_x _ l.x_weighs nx) (mul_neg l.to_y _ w ny) (cancel z zw l k)))
        l.w_is (mul_pos l.total z.w l.some zw)
      where
        below_product : (m n : ℤ) → pos 0 ≤ℤ m → n <ℤ pos 0 → (m *ℤ n) ≤ℤ pos 0
        below_product m n h k = by_sign m (λ l. absurd (both m h l)) (λ e. zero _ (ap (λ q. q *ℤ n) e ∙ zero-*ℤ n)) (λ l. weak _ (mul_neg m n l k))
          where
            both : (m : ℤ) → pos 0 ≤ℤ m → m <ℤ pos 0 → ⊥
            both m h l = omega (arith, ints)

            zero : (n : ℤ) → n ≡ pos 0 → n ≤ℤ pos 0
            zero n e = omega (arith, ints)

            weak : (n : ℤ) → n <ℤ pos 0 → n ≤ℤ pos 0
            weak n h = omega (arith, ints)

        sum : (a b : ℤ) → a <ℤ pos 0 → b ≤ℤ pos 0 → a +ℤ b ≡ pos 0 → ⊥
        sum a b h k e = omega (arith, ints)

        sum' : (a b : ℤ) → a ≤ℤ pos 0 → b <ℤ pos 0 → a +ℤ b ≡ pos 0 → ⊥
        sum' a b h k e = omega (arith, ints)

    -- x in the plane: a common point would be x
    flat : side_rational g x ≡ pos 0 → IsClear x y (point ps s.a) (point ps s.b)
    flat e z zw l k = no_leg ps x s off (moved_leg (as_rational (point ps s.a)) (as_rational (point ps s.b)) x y z xw zw l only_x k)
      where
        rest : (m n : ℤ) → m +ℤ n ≡ pos 0 → m ≡ pos 0 → n ≡ pos 0
        rest m n e f = omega (arith, ints)

        product_zero : (m n : ℤ) → m *ℤ n ≡ pos 0 → pos 0 ≤ℤ m → n ≢ pos 0 → m ≡ pos 0
        product_zero m n e h off = by_sign m (λ l. absurd (both m h l)) (λ z. z) (λ l. absurd (off (zero_of_mul m n l e)))
          where
            both : (m : ℤ) → pos 0 ≤ℤ m → m <ℤ pos 0 → ⊥
            both m h l = omega (arith, ints)

        only_x : l.to_y ≡ pos 0
        only_x = product_zero l.to_y (side_rational g y) (rest _ _ (cancel z zw l k) (ap (λ n. l.to_x *ℤ n) e ∙ *ℤ-zero l.to_x)) l.y_weighs gy

    -- x and y on either hand: the point in the plane decides
    parted : (m n : ℤ) → pos 0 <ℤ m → pos 0 <ℤ n → n *ℤ side_rational g x +ℤ m *ℤ side_rational g y ≡ pos 0 → Parted (side_rational g x) (side_rational g y) → IsClear x y (point ps s.a) (point ps s.b) ⊎ Passing ps x y s g
    parted m n hm hn e hands = go (is_on_piece ps s (cut m n x y)) refl
      where
        cut_w : pos 0 <ℤ (n *ℤ x.w +ℤ m *ℤ y.w)
        cut_w = sum _ _ (mul_pos n x.w hn xw) (mul_pos m y.w hm yw)
          where
            sum : (a b : ℤ) → pos 0 <ℤ a → pos 0 <ℤ b → pos 0 <ℤ (a +ℤ b)
            sum a b h k = omega (arith, ints)

        go : (b : Bool) → is_on_piece ps s (cut m n x y) ≡ b → IsClear x y (point ps s.a) (point ps s.b) ⊎ Passing ps x y s g
        go true on = inr (at_cut (test_leg (point ps s.a) (point ps s.b) (cut m n x y) cut_w on))
          where
            at_cut : IsWeightedMean (as_rational (point ps s.a)) (as_rational (point ps s.b)) (cut m n x y) → Passing ps x y s g
            at_cut part = record {
              at = cut m n x y;
              weight = cut_w;
              leg = cut_leg m n x y hm hn;
              part = part;
              a_weighs = weighs part.to_x part.x_weighs (λ z. ends.b_off (moved_leg x y (as_rational (point ps s.b)) (as_rational (point ps s.a)) (cut m n x y) one cut_w (leg_back _ _ _ part) z (cut_leg m n x y hm hn)));
              b_weighs = weighs part.to_y part.y_weighs (λ z. ends.a_off (moved_leg x y (as_rational (point ps s.a)) (as_rational (point ps s.b)) (cut m n x y) one cut_w part z (cut_leg m n x y hm hn)));
              x_weighs = hn;
              y_weighs = hm;
              hands = hands;
            }
              where
                one : pos 0 <ℤ pos 1
                one = omega (arith, ints)

                weighs : (k : ℤ) → pos 0 ≤ℤ k → (k ≡ pos 0 → ⊥) → pos 0 <ℤ k
                weighs k h f = by_sign k (λ l. absurd (both k h l)) (λ z. absurd (f z)) (λ l. l)
                  where
                    both : (m : ℤ) → pos 0 ≤ℤ m → m <ℤ pos 0 → ⊥
                    both m h l = omega (arith, ints)
        go false not_on = inl (λ z zw l k. no_leg ps (cut m n x y) s not_on
            (moved_part (as_rational (point ps s.a)) (as_rational (point ps s.b)) x y z (cut m n x y) k l (cut_leg m n x y hm hn) (x_counts z zw l k) (alike z zw l k)))
          where
            -- the place on the leg is the same
            alike : (z : RationalPoint) → pos 0 <ℤ z.w → (l : IsWeightedMean x y z) → IsWeightedMean (as_rational (point ps s.a)) (as_rational (point ps s.b)) z → l.to_x *ℤ m ≡ n *ℤ l.to_y
            alike z zw l k = equal l.to_x l.to_y m n (side_rational g x) (side_rational g y) gy (cancel z zw l k) e
              where
                equal : (u v m n p q : ℤ) → q ≢ pos 0 → u *ℤ p +ℤ v *ℤ q ≡ pos 0 → n *ℤ p +ℤ m *ℤ q ≡ pos 0 → u *ℤ m ≡ n *ℤ v
                equal u v m n p q off e f = by_sign q
                    (λ h. cancel_mul (neg_ℤ q) _ _ (turned q h) (neg_both q (u *ℤ m) (n *ℤ v) (same_product u v m n p q e f))) (λ z. absurd (off z)) (λ h. cancel_mul q _ _ h (same_product u v m n p q e f))

            x_counts : (z : RationalPoint) → pos 0 <ℤ z.w → (l : IsWeightedMean x y z) → IsWeightedMean (as_rational (point ps s.a)) (as_rational (point ps s.b)) z → pos 0 <ℤ l.to_x
            x_counts z zw l k = by_sign l.to_x (λ h. absurd (both _ l.x_weighs h))
                (λ e. absurd (nothing l.to_x l.to_y (l.total *ℤ z.w) e (no_second e) l.w_is (mul_pos l.total z.w l.some zw))) (λ h. h)
              where
                both : (m : ℤ) → pos 0 ≤ℤ m → m <ℤ pos 0 → ⊥
                both m h l = omega (arith, ints)

                no_second : l.to_x ≡ pos 0 → l.to_y ≡ pos 0
                no_second e = zero_of_mul n l.to_y hn (sym (alike z zw l k) ∙ ap (λ q. q *ℤ m) e ∙ zero-*ℤ m)
