-- The law of legs that pass through sides of a polygon.
use Rattle.std.proofs.Common.{inl, inr, [], ◌∷◌, ◌≡◌, ◌≢◌, ℕ, Bool, true, false, refl, ap, sym, ◌∙◌, arith}
use Rattle.std.proofs.lemmas.Int.{ints}
use Rattle.std.specs.Prelude.{ℤ, pos, neg_ℤ, ◌+ℤ◌, ◌*ℤ◌, ◌<ℤ◌, ◌≤ℤ◌, ◌⊎◌, int_lt, int_le, not}
use Rattle.exact_algebra.proofs.Signs.{mul_pos, by_sign, mul_neg, zero_of_mul, opposite_pos, opposite_neg}
use Rattle.exact_algebra.proofs.Ring.{var, ring, same, ◌⊗◌}
use Rattle.sign_predicates.specs.Point.{Point, RationalPoint, as_rational, from_to_rational}
use Rattle.sign_predicates.specs.Orientation.{Triangle, normal, side, side_rational}
use Rattle.geo_laws.specs.Delaunay.{point}
use Rattle.geo_laws.specs.Segment.{sides}
use Rattle.geo_laws.specs.Facet.{Axis, DropX, DropY, DropZ, crosses_ray}
use Rattle.geo_laws.specs.declared.complex.Piece.{Piece}
use Rattle.facet_laws.specs.Legs.{IsWeightedMean, dropped}
use Rattle.facet_laws.specs.Parity.{Spot, spot_turn, rise, is_crossing, crosses, xor}
use Rattle.facet_laws.proofs.Chains.{odd_is, all_sides, all_both}
use Rattle.facet_laws.proofs.Insides.{side-leg}
use Rattle.facet_laws.proofs.SideLaw.{beside, alike, is_above, is_under, above_test, under_test}
use Rattle.facet_laws.proofs.SpotTerms.{turn-swap_ends, turn-swap_start}
use Rattle.facet_laws.proofs.Rays.{spot, point_zero, crosses_is, one_above, side_apart}
use Rattle.facet_laws.specs.Passing.{PassesThrough, PassesOrClear, PassingLaw}
use Rattle.facet_laws.proofs.Flip.{Passes, passed_parity}
use Rattle.facet_laws.proofs.Count.{closed_but}
use Rattle.facet_laws.proofs.Turns.{turns_cancel, turns_cancel', other_signs}
use Rattle.facet_laws.proofs.Through.{at, off_line}
use lib.IntN.{*ℤ-zero, zero-*ℤ}

-- ---- both ends weigh

no_product : (m n : ℤ) → m ≡ pos 0 → m *ℤ n ≡ pos 0
no_product m n e = ap (λ k. k *ℤ n) e ∙ zero-*ℤ n

pub both_weigh : (m n gx gy xw yw t : ℤ) → pos 0 ≤ℤ m → pos 0 ≤ℤ n → pos 0 <ℤ gx → gy <ℤ pos 0 → m *ℤ gx +ℤ n *ℤ gy ≡ pos 0 → m *ℤ xw +ℤ n *ℤ yw ≡ t → pos 0 <ℤ t
    → (pos 0 <ℤ m) × (pos 0 <ℤ n)
both_weigh m n gx gy xw yw t hm hn hx hy e w p =
    by_sign m
    (λ k. absurd (omega (arith, ints)))
    (λ z. by_sign n (λ k. absurd (omega (arith, ints))) (λ k. absurd (omega (arith, ints, no_product m xw z, no_product n yw k))) (λ k. absurd (omega (arith, ints, no_product m gx z, mul_neg n gy k hy))))
    (λ g. by_sign n (λ k. absurd (omega (arith, ints))) (λ k. absurd (omega (arith, ints, no_product n gy k, mul_pos m gx g hx))) (λ k. (g, k)))

agree : (s t a b z : ℤ) → a ≡ t *ℤ z → b ≡ s *ℤ z → s *ℤ a ≡ t *ℤ b
unfolding same
agree s t a b z e f = ap (λ n. s *ℤ n) e ∙ turned s t z ∙ ap (λ n. t *ℤ n) (sym f)
  where
    turned : (s t z : ℤ) → s *ℤ (t *ℤ z) ≡ t *ℤ (s *ℤ z)
    turned s t z = ring (var 0 ⊗ (var 1 ⊗ var 2)) (var 1 ⊗ (var 0 ⊗ var 2)) tt (s ∷ t ∷ z ∷ [])

agree_first : (axis : Axis) (x y p q z : RationalPoint) (l : IsWeightedMean x y z) (k : IsWeightedMean p q z)
    → k.total *ℤ (l.to_x *ℤ (spot axis x).first +ℤ l.to_y *ℤ (spot axis y).first) ≡ l.total *ℤ (k.to_x *ℤ (spot axis p).first +ℤ k.to_y *ℤ (spot axis q).first)
agree_first DropX x y p q z l k = agree _ _ _ _ _ l.y_is k.y_is
agree_first DropY x y p q z l k = agree _ _ _ _ _ l.x_is k.x_is
agree_first DropZ x y p q z l k = agree _ _ _ _ _ l.x_is k.x_is

agree_second : (axis : Axis) (x y p q z : RationalPoint) (l : IsWeightedMean x y z) (k : IsWeightedMean p q z)
    → k.total *ℤ (l.to_x *ℤ (spot axis x).second +ℤ l.to_y *ℤ (spot axis y).second) ≡ l.total *ℤ (k.to_x *ℤ (spot axis p).second +ℤ k.to_y *ℤ (spot axis q).second)
agree_second DropX x y p q z l k = agree _ _ _ _ _ l.z_is k.z_is
agree_second DropY x y p q z l k = agree _ _ _ _ _ l.z_is k.z_is
agree_second DropZ x y p q z l k = agree _ _ _ _ _ l.y_is k.y_is

-- the point where the leg passes through lies in the plane of the side
pub at_zero : (x y : RationalPoint) (a b : Point) (h : PassesThrough x y a b) → side_rational h.g h.at ≡ pos 0
at_zero x y a b h =
    zero_of_mul h.part.total _ h.part.some
    (side-leg h.g (as_rational a) (as_rational b) h.at h.part
    ∙ (λ j. h.part.to_x *ℤ point_zero h.g a h.a_on j +ℤ h.part.to_y *ℤ point_zero h.g b h.b_on j)
    ∙ (λ j. *ℤ-zero h.part.to_x j +ℤ *ℤ-zero h.part.to_y j))

-- ---- the four turns

above_turned : (m n : ℤ) → m ≡ neg_ℤ n → n <ℤ pos 0 → pos 0 <ℤ m
above_turned m n e h = omega (arith, ints)

under_turned : (m n : ℤ) → m ≡ neg_ℤ n → pos 0 <ℤ n → m <ℤ pos 0
under_turned m n e h = omega (arith, ints)

passes : (axis : Axis) (f : Triangle) (x y : RationalPoint) (a b : Point) → dropped axis (normal f) ≢ pos 0 → pos 0 <ℤ x.w → pos 0 <ℤ y.w
    → side_rational f x ≡ pos 0 → side f a ≡ pos 0 → side f b ≡ pos 0 → PassesThrough x y a b
    → Passes (spot axis x) (spot axis y) (at axis a) (at axis b) ⊎ Passes (spot axis x) (spot axis y) (at axis b) (at axis a)
passes axis f x y a b steep xw yw fx fa fb h =
    by_sign A
    (λ n. inr (back n (opposite_neg l.to_x l.to_y A B weigh.0 weigh.1 cancel n)))
    (λ z. absurd (above (side_rational h.g x) h.x_side (off_line axis f h.g x a b steep fx fa fb h.a_on h.b_on h.ends z)))
    (λ p. inl (forth p (opposite_pos l.to_x l.to_y A B weigh.0 weigh.1 cancel p)))
  where
    l : IsWeightedMean x y h.at
    l = h.leg

    k : IsWeightedMean (as_rational a) (as_rational b) h.at
    k = h.part

    A : ℤ
    A = spot_turn (spot axis x) (at axis a) (at axis b)

    B : ℤ
    B = spot_turn (spot axis y) (at axis a) (at axis b)

    C : ℤ
    C = spot_turn (spot axis x) (spot axis y) (at axis a)

    D : ℤ
    D = spot_turn (spot axis x) (spot axis y) (at axis b)

    above : (n : ℤ) → pos 0 <ℤ n → n ≡ pos 0 → ⊥
    above n h e = omega (arith, ints)

    weigh : (pos 0 <ℤ h.leg.to_x) × (pos 0 <ℤ h.leg.to_y)
    weigh = both_weigh h.leg.to_x h.leg.to_y (side_rational h.g x) (side_rational h.g y) x.w y.w (h.leg.total *ℤ h.at.w) h.leg.x_weighs h.leg.y_weighs h.x_side h.y_side
        (sym (side-leg h.g x y h.at h.leg) ∙ ap (λ n. h.leg.total *ℤ n) (at_zero x y a b h) ∙ *ℤ-zero h.leg.total) h.leg.w_is (mul_pos h.leg.total h.at.w h.leg.some h.weight)

    e1 : k.total *ℤ (l.to_x *ℤ (spot axis x).first +ℤ l.to_y *ℤ (spot axis y).first) ≡ l.total *ℤ (k.to_x *ℤ (at axis a).first +ℤ k.to_y *ℤ (at axis b).first)
    e1 = agree_first axis x y (as_rational a) (as_rational b) h.at l k

    e2 : k.total *ℤ (l.to_x *ℤ (spot axis x).second +ℤ l.to_y *ℤ (spot axis y).second) ≡ l.total *ℤ (k.to_x *ℤ (at axis a).second +ℤ k.to_y *ℤ (at axis b).second)
    e2 = agree_second axis x y (as_rational a) (as_rational b) h.at l k

    ew : k.total *ℤ (l.to_x *ℤ x.w +ℤ l.to_y *ℤ y.w) ≡ l.total *ℤ (k.to_x *ℤ pos 1 +ℤ k.to_y *ℤ pos 1)
    ew = agree k.total l.total _ _ h.at.w l.w_is k.w_is

    cancel : l.to_x *ℤ A +ℤ l.to_y *ℤ B ≡ pos 0
    cancel = zero_of_mul k.total _ k.some (turns_cancel (spot axis x) (spot axis y) (at axis a) (at axis b) l.to_x l.to_y k.to_x k.to_y k.total l.total e1 e2 ew)

    cancel' : k.to_x *ℤ C +ℤ k.to_y *ℤ D ≡ pos 0
    cancel' = zero_of_mul l.total _ l.some (turns_cancel' (spot axis x) (spot axis y) (at axis a) (at axis b) l.to_x l.to_y k.to_x k.to_y k.total l.total e1 e2 ew)

    swapped : (m n : ℤ) → m +ℤ n ≡ pos 0 → n +ℤ m ≡ pos 0
    swapped m n e = omega (arith, ints)

    forth : pos 0 <ℤ A → B <ℤ pos 0 → Passes (spot axis x) (spot axis y) (at axis a) (at axis b)
    forth p n =
        let o = other_signs (spot axis x) (spot axis y) (at axis a) (at axis b) k.to_x k.to_y xw yw refl refl h.a_weighs h.b_weighs p n cancel' in
        record { x_weight = xw; y_weight = yw; p_weight = one_above; q_weight = one_above; x_left = p; y_right = n; p_right = o.0; q_left = o.1 }

    back : A <ℤ pos 0 → pos 0 <ℤ B → Passes (spot axis x) (spot axis y) (at axis b) (at axis a)
    back n p =
        let u = above_turned _ A (turn-swap_ends (spot axis x) (at axis a) (at axis b)) n in
        let v = under_turned _ B (turn-swap_ends (spot axis y) (at axis a) (at axis b)) p in
        let o = other_signs (spot axis x) (spot axis y) (at axis b) (at axis a) k.to_y k.to_x xw yw refl refl h.b_weighs h.a_weighs u v (swapped (k.to_x *ℤ C) (k.to_y *ℤ D) cancel') in
        record { x_weight = xw; y_weight = yw; p_weight = one_above; q_weight = one_above; x_left = u; y_right = v; p_right = o.0; q_left = o.1 }

-- ---- tests the other way round

cross_swap : (a b l r : Bool) → is_crossing b a r l ≡ is_crossing a b l r
cross_swap true true l r = refl
cross_swap true false l r = refl
cross_swap false true l r = refl
cross_swap false false l r = refl

xor_comm : (a b : Bool) → xor a b ≡ xor b a
xor_comm true true = refl
xor_comm true false = refl
xor_comm false true = refl
xor_comm false false = refl

test_above : (m n : ℤ) → m ≡ neg_ℤ n → int_lt (pos 0) m ≡ int_lt n (pos 0)
test_above m n e = alike _ _ (λ t. is_under n (one (above_test m t))) (λ t. is_above m (two (under_test n t)))
  where
    one : pos 0 <ℤ m → n <ℤ pos 0
    one h = omega (arith, ints, e)

    two : n <ℤ pos 0 → pos 0 <ℤ m
    two h = omega (arith, ints, e)

test_under : (m n : ℤ) → m ≡ neg_ℤ n → int_lt m (pos 0) ≡ int_lt (pos 0) n
test_under m n e = alike _ _ (λ t. is_above n (one (under_test m t))) (λ t. is_under m (two (above_test n t)))
  where
    one : m <ℤ pos 0 → pos 0 <ℤ n
    one h = omega (arith, ints, e)

    two : pos 0 <ℤ n → m <ℤ pos 0
    two h = omega (arith, ints, e)

crosses_back : (x p q : Spot) → crosses x q p ≡ crosses x p q
crosses_back x p q =
    (λ j. is_crossing (int_le (pos 0) (rise x q)) (int_le (pos 0) (rise x p)) (test_above _ _ (turn-swap_ends x p q) j) (test_under _ _ (turn-swap_ends x p q) j))
    ∙ cross_swap (int_le (pos 0) (rise x p)) (int_le (pos 0) (rise x q)) (int_lt (pos 0) (spot_turn x p q)) (int_lt (spot_turn x p q) (pos 0))

beside_back : (x y p : Spot) → beside y x p ≡ beside x y p
beside_back x y p =
    (λ j. is_crossing (int_le (pos 0) (rise x p)) (int_le (pos 0) (rise y p)) (test_under _ _ (turn-swap_start x y p) j) (test_above _ _ (turn-swap_start x y p) j))
    ∙ cross_swap (int_le (pos 0) (rise y p)) (int_le (pos 0) (rise x p)) (int_lt (spot_turn x y p) (pos 0)) (int_lt (pos 0) (spot_turn x y p))

-- a side that the leg passes through
spot_parity : (x y p q : Spot) → Passes x y p q ⊎ Passes x y q p → xor (crosses x p q) (crosses y p q) ≡ not (xor (beside x y p) (beside x y q))
spot_parity x y p q (inl h) = passed_parity x y p q h
spot_parity x y p q (inr h) =
    (λ j. xor (sym (crosses_back x p q) j) (sym (crosses_back y p q) j)) ∙ passed_parity x y q p h ∙ ap not (xor_comm (beside x y q) (beside x y p))

undone : (f g s : Bool) → xor f g ≡ not s → xor (not f) g ≡ s
undone true true true e = refl
undone true true false e = cc
undone true false true e = cc
undone true false false e = refl
undone false true true e = cc
undone false true false e = refl
undone false false true e = refl
undone false false false e = cc

pub law_passing : PassingLaw
law_passing ps f axis polygon passed steep flat x xw fx y yw fy h =
    (λ j. xor (odd_is (rays x) (sides polygon) j) (odd_is (rays y) (sides polygon) j))
    ∙ closed_but passed (rays x) (rays y) (λ i. beside (spot axis x) (spot axis y) (spot_of i)) polygon
    (all_both (λ s. PassesOrClear x y (point ps s.a) (point ps s.b) (passed s)) (λ s. (side f (point ps s.a) ≡ pos 0) × (side f (point ps s.b) ≡ pos 0))
    (λ s. xor (xor (passed s) (rays x s)) (rays y s) ≡ xor (beside (spot axis x) (spot axis y) (spot_of s.a)) (beside (spot axis x) (spot axis y) (spot_of s.b)))
    (sides polygon) (λ s c k. each s (passed s) c k) h (all_sides (λ i. side f (point ps i) ≡ pos 0) polygon flat))
    ∙ sym (odd_is passed (sides polygon))
  where
    rays : RationalPoint → Piece → Bool
    rays z s = crosses_ray axis (from_to_rational (point ps s.a) z) (from_to_rational (point ps s.b) z)

    spot_of : ℕ → Spot
    spot_of i = spot axis (as_rational (point ps i))

    ends : Piece → Bool
    ends s = xor (beside (spot axis x) (spot axis y) (spot_of s.a)) (beside (spot axis x) (spot axis y) (spot_of s.b))

    in_spots : (s : Piece) → xor (rays x s) (rays y s) ≡ xor (crosses (spot axis x) (spot_of s.a) (spot_of s.b)) (crosses (spot axis y) (spot_of s.a) (spot_of s.b))
    in_spots s = λ j. xor (crosses_is axis x (point ps s.a) (point ps s.b) xw j) (crosses_is axis y (point ps s.a) (point ps s.b) yw j)

    each : (s : Piece) (b : Bool) → PassesOrClear x y (point ps s.a) (point ps s.b) b → (side f (point ps s.a) ≡ pos 0) × (side f (point ps s.b) ≡ pos 0)
        → xor (xor b (rays x s)) (rays y s) ≡ xor (beside (spot axis x) (spot axis y) (spot_of s.a)) (beside (spot axis x) (spot axis y) (spot_of s.b))
    each s true (inl p) k = undone (rays x s) (rays y s) (ends s) (in_spots s ∙ spot_parity (spot axis x) (spot axis y) (spot_of s.a) (spot_of s.b) (passes axis f x y (point ps s.a) (point ps s.b) steep xw yw fx k.0 k.1 p))
    each s true (inr p) k =
        undone (rays x s) (rays y s) (ends s)
        (in_spots s ∙ xor_comm (crosses (spot axis x) (spot_of s.a) (spot_of s.b)) (crosses (spot axis y) (spot_of s.a) (spot_of s.b)) ∙ spot_parity (spot axis y) (spot axis x) (spot_of s.a) (spot_of s.b) (passes axis f y x (point ps s.a) (point ps s.b) steep yw xw fy k.0 k.1 p)
        ∙ (λ j. not (xor (beside_back (spot axis x) (spot axis y) (spot_of s.a) j) (beside_back (spot axis x) (spot axis y) (spot_of s.b) j))))
    each s false c k = in_spots s ∙ side_apart axis f x y (point ps s.a) (point ps s.b) xw yw steep fx fy k.0 k.1 c
