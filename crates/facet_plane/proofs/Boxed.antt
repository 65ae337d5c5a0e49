-- What a box tells of the points and the sides in it.
use Rattle.std.proofs.Common.{◌≡◌, ◌⊎◌, inl, inr, ℤ, pos, neg_ℤ, ◌+ℤ◌, ◌-ℤ◌, ◌*ℤ◌, ◌<ℤ◌, ◌≤ℤ◌, Bool, true, false, ◌&&◌, ◌||◌, [], ◌∷◌, refl, ap, sym, ◌∙◌, arith}
use Rattle.std.specs.Prelude.{int_le, int_lt, not}
use Rattle.std.proofs.lemmas.Int.{ints}
use Rattle.exact_algebra.proofs.Ring.{var, neg, ring, same, ◌⊖◌, ◌⊗◌}
use Rattle.exact_algebra.proofs.Signs.{pos_or_not, mul_le, mul_pos, mul_neg, mul_nonneg, nonneg_of_mul, nonneg_same, square_nonneg}
use Rattle.sign_predicates.specs.Point.{Point, RationalPoint, from_to_rational}
use Rattle.sign_predicates.specs.Orientation.{cross, dot}
use Rattle.geo_laws.specs.Segment.{is_zero, is_zero_vector}
use Rattle.geo_laws.specs.Facet.{Axis, DropX, DropY, DropZ, first_of_two, second_of_two, cross_of_two, dot_of_two, crosses_ray}
use Rattle.geo_laws.proofs.Members.{both_true}
use Rattle.facet_laws.proofs.OnPiece.{zero_test, at_most_test}
use Rattle.facet_laws.proofs.Products.{neg_neg_lt}
use Rattle.facet_laws.proofs.SideLaw.{at_least_test, is_at_least, below_test, above_test, is_above, under_test, is_under as under_is, alike}
use Rattle.facet_plane.specs.Beyond.{AreBeyond, IsBeyondBoth, Tells}
use Rattle.facet_plane.specs.Blocks.{IsHeld}
use Rattle.facet_plane.specs.Outline.{side_meets, side_crosses, is_under}
use Rattle.facet_plane.specs.declared.blocks.Extent.{Extent}
use Rattle.facet_plane.specs.declared.outline.Side.{Side}
use Rattle.facet_plane.specs.declared.outline.Reach.{Reach}
use Rattle.facet_plane.specs.declared.outline.Reach.TheVariants.{On, Over}
use Rattle.facet_plane.specs.declared.outline.Crossing.TheVariants.{Never, Between}
use Rattle.facet_laws.specs.Parity.{xor}

-- ---- a point of a box

swap : (a b : ℤ) → a *ℤ b ≡ b *ℤ a
unfolding same
swap a b = ring (var 0 ⊗ var 1) (var 1 ⊗ var 0) tt (a ∷ b ∷ [])

negated : (w a : ℤ) → neg_ℤ w *ℤ a ≡ neg_ℤ (a *ℤ w)
unfolding same
negated w a = ring (neg (var 0) ⊗ var 1) (neg (var 1 ⊗ var 0)) tt (w ∷ a ∷ [])

-- the third lies between the first two
abbrev IsAmid : ℤ → ℤ → ℤ → Type 0
IsAmid a b t = (a ≤ℤ t) × (t ≤ℤ b) ⊎ (b ≤ℤ t) × (t ≤ℤ a)

amid : (low p high w x : ℤ) → low ≤ℤ p → p ≤ℤ high → IsAmid (x -ℤ low *ℤ w) (x -ℤ high *ℤ w) (x -ℤ p *ℤ w)
amid low p high w x h k = go (pos_or_not w)
  where
    up : (m n o s : ℤ) → m ≤ℤ n → m ≡ o → n ≡ s → (x -ℤ s) ≤ℤ (x -ℤ o)
    up m n o s l e f = omega (arith, ints)

    down : (m n o s : ℤ) → m ≤ℤ n → m ≡ neg_ℤ o → n ≡ neg_ℤ s → (x -ℤ o) ≤ℤ (x -ℤ s)
    down m n o s l e f = omega (arith, ints)

    weak : (m : ℤ) → pos 0 <ℤ m → pos 0 ≤ℤ m
    weak m l = omega (arith, ints)

    turned : (m : ℤ) → m ≤ℤ pos 0 → pos 0 ≤ℤ neg_ℤ m
    turned m l = omega (arith, ints)

    go : (pos 0 <ℤ w) ⊎ (w ≤ℤ pos 0) → IsAmid (x -ℤ low *ℤ w) (x -ℤ high *ℤ w) (x -ℤ p *ℤ w)
    go (inl l) =
        inr (
          up (w *ℤ p) (w *ℤ high) (p *ℤ w) (high *ℤ w) (mul_le w p high (weak w l) k) (swap w p) (swap w high),
          up (w *ℤ low) (w *ℤ p) (low *ℤ w) (p *ℤ w) (mul_le w low p (weak w l) h) (swap w low) (swap w p),
        )
    go (inr l) =
        inl (
          down (neg_ℤ w *ℤ low) (neg_ℤ w *ℤ p) (low *ℤ w) (p *ℤ w) (mul_le (neg_ℤ w) low p (turned w l) h) (negated w low) (negated w p),
          down (neg_ℤ w *ℤ p) (neg_ℤ w *ℤ high) (p *ℤ w) (high *ℤ w) (mul_le (neg_ℤ w) p high (turned w l) k) (negated w p) (negated w high),
        )

first_amid : (axis : Axis) (e : Extent) (p : Point) (x : RationalPoint) → IsHeld e p
    → IsAmid (first_of_two axis (from_to_rational e.low x)) (first_of_two axis (from_to_rational e.high x)) (first_of_two axis (from_to_rational p x))
first_amid DropX e p x h = amid e.low.y p.y e.high.y x.w x.y h.low.y h.high.y
first_amid DropY e p x h = amid e.low.x p.x e.high.x x.w x.x h.low.x h.high.x
first_amid DropZ e p x h = amid e.low.x p.x e.high.x x.w x.x h.low.x h.high.x

second_amid : (axis : Axis) (e : Extent) (p : Point) (x : RationalPoint) → IsHeld e p
    → IsAmid (second_of_two axis (from_to_rational e.low x)) (second_of_two axis (from_to_rational e.high x)) (second_of_two axis (from_to_rational p x))
second_amid DropX e p x h = amid e.low.z p.z e.high.z x.w x.z h.low.z h.high.z
second_amid DropY e p x h = amid e.low.z p.z e.high.z x.w x.z h.low.z h.high.z
second_amid DropZ e p x h = amid e.low.y p.y e.high.y x.w x.y h.low.y h.high.y

above_amid : (a b t : ℤ) → pos 0 <ℤ a → pos 0 <ℤ b → IsAmid a b t → pos 0 <ℤ t
above_amid a b t h k (inl m) = let l = m.0 in omega (arith, ints)
above_amid a b t h k (inr m) = let l = m.0 in omega (arith, ints)

under_amid : (a b t : ℤ) → a <ℤ pos 0 → b <ℤ pos 0 → IsAmid a b t → t <ℤ pos 0
under_amid a b t h k (inl m) = let l = m.1 in omega (arith, ints)
under_amid a b t h k (inr m) = let l = m.1 in omega (arith, ints)

beyond_amid : (a b s t : ℤ) → AreBeyond a b → IsAmid a b s → IsAmid a b t → AreBeyond s t
beyond_amid a b s t (inl h) m n = inl (above_amid a b s h.0 h.1 m, above_amid a b t h.0 h.1 n)
beyond_amid a b s t (inr h) m n = inr (under_amid a b s h.0 h.1 m, under_amid a b t h.0 h.1 n)

-- a point beyond a box is beyond the ends of a side in it
pub beyond_ends : (axis : Axis) (e : Extent) (p q : Point) (x : RationalPoint) → IsHeld e p → IsHeld e q → IsBeyondBoth axis (from_to_rational e.low x) (from_to_rational e.high x)
    → IsBeyondBoth axis (from_to_rational p x) (from_to_rational q x)
beyond_ends axis e p q x h k (inl b) = inl (beyond_amid _ _ _ _ b (first_amid axis e p x h) (first_amid axis e q x k))
beyond_ends axis e p q x h k (inr b) = inr (beyond_amid _ _ _ _ b (second_amid axis e p x h) (second_amid axis e q x k))

-- a number between two that are both at least 0, or both below, is alike
same_amid : (a b t : ℤ) → int_le (pos 0) a ≡ int_le (pos 0) b → IsAmid a b t → int_le (pos 0) t ≡ int_le (pos 0) a
same_amid a b t e m = alike _ _ (λ h. go_up (int_le (pos 0) a) refl (at_least_test t h)) (λ h. is_at_least t (least (at_least_test a h) (at_least_test b (sym e ∙ h)) m))
  where
    least : pos 0 ≤ℤ a → pos 0 ≤ℤ b → IsAmid a b t → pos 0 ≤ℤ t
    least h k (inl m) = let l = m.0 in omega (arith, ints)
    least h k (inr m) = let l = m.0 in omega (arith, ints)

    go_up : (r : Bool) → int_le (pos 0) a ≡ r → pos 0 ≤ℤ t → int_le (pos 0) a ≡ true
    go_up true f h = f
    go_up false f h = absurd (clash (under_amid a b t (below_test a f) (below_test b (sym e ∙ f)) m) h)
      where
        clash : t <ℤ pos 0 → pos 0 ≤ℤ t → ⊥
        clash l h = omega (arith, ints)

-- ---- a side that a point is beyond does not hold the point

product_above : (a c : ℤ) → AreBeyond a c → pos 0 <ℤ (a *ℤ c)
product_above a c (inl h) = mul_pos a c h.0 h.1
product_above a c (inr h) = neg_neg_lt a c h.0 h.1

moved : (a c b d : ℤ) → (a *ℤ c) *ℤ (b *ℤ d) ≡ (a *ℤ d) *ℤ (b *ℤ c)
unfolding same
moved a c b d = ring ((var 0 ⊗ var 1) ⊗ (var 2 ⊗ var 3)) ((var 0 ⊗ var 3) ⊗ (var 2 ⊗ var 1)) tt (a ∷ c ∷ b ∷ d ∷ [])

other_above : (a c b d : ℤ) → AreBeyond a c → a *ℤ d -ℤ b *ℤ c ≡ pos 0 → pos 0 ≤ℤ (b *ℤ d)
other_above a c b d h e = nonneg_of_mul (a *ℤ c) (b *ℤ d) (product_above a c h) (nonneg_same _ ((a *ℤ d) *ℤ (a *ℤ d)) (moved a c b d ∙ ap (λ z. (a *ℤ d) *ℤ z) (equal (a *ℤ d) (b *ℤ c) e)) (square_nonneg (a *ℤ d)))
  where
    equal : (m n : ℤ) → m -ℤ n ≡ pos 0 → n ≡ m
    equal m n e = omega (arith, ints)

turned_zero : (m n o p : ℤ) → m -ℤ n ≡ pos 0 → n ≡ o → m ≡ p → o -ℤ p ≡ pos 0
turned_zero m n o p e f g = omega (arith, ints)

-- the vectors are along one line, so the other products are not below 0
over_above : (a c b d : ℤ) → AreBeyond a c ⊎ AreBeyond b d → a *ℤ d -ℤ b *ℤ c ≡ pos 0 → pos 0 <ℤ (a *ℤ c +ℤ b *ℤ d)
over_above a c b d (inl h) e = go (a *ℤ c) (b *ℤ d) (product_above a c h) (other_above a c b d h e)
  where
    go : (m n : ℤ) → pos 0 <ℤ m → pos 0 ≤ℤ n → pos 0 <ℤ (m +ℤ n)
    go m n h k = omega (arith, ints)
over_above a c b d (inr h) e = go (a *ℤ c) (b *ℤ d) (other_above b d a c h (turned_zero (a *ℤ d) (b *ℤ c) (b *ℤ c) (a *ℤ d) e refl refl)) (product_above b d h)
  where
    go : (m n : ℤ) → pos 0 ≤ℤ m → pos 0 <ℤ n → pos 0 <ℤ (m +ℤ n)
    go m n h k = omega (arith, ints)

pub not_true : (b : Bool) → (b ≡ true → ⊥) → b ≡ false
not_true true h = absurd (h refl)
not_true false h = refl

clash : (z : ℤ) → pos 0 <ℤ z → z ≤ℤ pos 0 → ⊥
clash z h k = omega (arith, ints)

pub beyond_over : (axis : Axis) (u v : Point) → IsBeyondBoth axis u v → is_zero (cross_of_two axis u v) && int_le (dot_of_two axis u v) (pos 0) ≡ false
beyond_over axis u v h = not_true _ (λ e. (let q = both_true (is_zero (cross_of_two axis u v)) (int_le (dot_of_two axis u v) (pos 0)) e in clash (dot_of_two axis u v) (over_above (first_of_two axis u) (first_of_two axis v) (second_of_two axis u) (second_of_two axis v) h (zero_test _ q.0)) (at_most_test _ q.1)))

-- ---- and in space

flipped : (a b c d : ℤ) → a *ℤ b -ℤ c *ℤ d ≡ pos 0 → c *ℤ d -ℤ a *ℤ b ≡ pos 0
flipped a b c d e = turned_zero (a *ℤ b) (c *ℤ d) (c *ℤ d) (a *ℤ b) e refl refl

record IsFlat (u v : Point) : Type 0 where
  yz : u.y *ℤ v.z -ℤ u.z *ℤ v.y ≡ pos 0
  zx : u.z *ℤ v.x -ℤ u.x *ℤ v.z ≡ pos 0
  xy : u.x *ℤ v.y -ℤ u.y *ℤ v.x ≡ pos 0

sum_above : (l m n : ℤ) → (pos 0 <ℤ l) × (pos 0 ≤ℤ m) × (pos 0 ≤ℤ n) ⊎ ((pos 0 ≤ℤ l) × (pos 0 <ℤ m) × (pos 0 ≤ℤ n) ⊎ (pos 0 ≤ℤ l) × (pos 0 ≤ℤ m) × (pos 0 <ℤ n)) → pos 0 <ℤ (l +ℤ m +ℤ n)
sum_above l m n (inl h) = let p = h.0 in let q = h.1 in let r = h.2 in omega (arith, ints)
sum_above l m n (inr (inl h)) = let p = h.0 in let q = h.1 in let r = h.2 in omega (arith, ints)
sum_above l m n (inr (inr h)) = let p = h.0 in let q = h.1 in let r = h.2 in omega (arith, ints)

x_above : (u v : Point) → AreBeyond u.x v.x → IsFlat u v → pos 0 <ℤ dot u v
x_above u v h f = sum_above _ _ _ (inl (product_above u.x v.x h, other_above u.x v.x u.y v.y h f.xy, other_above u.x v.x u.z v.z h (flipped u.z v.x u.x v.z f.zx)))

y_above : (u v : Point) → AreBeyond u.y v.y → IsFlat u v → pos 0 <ℤ dot u v
y_above u v h f = sum_above _ _ _ (inr (inl (other_above u.y v.y u.x v.x h (flipped u.x v.y u.y v.x f.xy), product_above u.y v.y h, other_above u.y v.y u.z v.z h f.yz)))

z_above : (u v : Point) → AreBeyond u.z v.z → IsFlat u v → pos 0 <ℤ dot u v
z_above u v h f = sum_above _ _ _ (inr (inr (other_above u.z v.z u.x v.x h f.zx, other_above u.z v.z u.y v.y h (flipped u.y v.z u.z v.y f.yz), product_above u.z v.z h)))

on_above : (axis : Axis) (u v : Point) → IsBeyondBoth axis u v → IsFlat u v → pos 0 <ℤ dot u v
on_above DropX u v (inl h) f = y_above u v h f
on_above DropX u v (inr h) f = z_above u v h f
on_above DropY u v (inl h) f = x_above u v h f
on_above DropY u v (inr h) f = z_above u v h f
on_above DropZ u v (inl h) f = x_above u v h f
on_above DropZ u v (inr h) f = y_above u v h f

flat_of : (u v : Point) → is_zero_vector (cross u v) ≡ true → IsFlat u v
flat_of u v e =
    let q = both_true _ _ e in
    let r = both_true _ _ q.0 in
    record { yz = zero_test _ r.0; zx = zero_test _ r.1; xy = zero_test _ q.1 }

pub beyond_on : (axis : Axis) (u v : Point) → IsBeyondBoth axis u v → is_zero_vector (cross u v) && int_le (dot u v) (pos 0) ≡ false
beyond_on axis u v h = not_true _ (λ e. (let q = both_true (is_zero_vector (cross u v)) (int_le (dot u v) (pos 0)) e in clash (dot u v) (on_above axis u v h (flat_of u v q.0)) (at_most_test _ q.1)))

-- ---- crossings

turn_under : (p q m n : ℤ) → pos 0 <ℤ p → pos 0 <ℤ q → pos 0 ≤ℤ m → n <ℤ pos 0 → (p *ℤ n -ℤ m *ℤ q) <ℤ pos 0
turn_under p q m n h k l o = go (p *ℤ n) (m *ℤ q) (mul_neg p n h o) (mul_nonneg m q l (weak q k))
  where
    weak : (m : ℤ) → pos 0 <ℤ m → pos 0 ≤ℤ m
    weak m l = omega (arith, ints)

    go : (a b : ℤ) → a <ℤ pos 0 → pos 0 ≤ℤ b → (a -ℤ b) <ℤ pos 0
    go a b h k = omega (arith, ints)

turn_above : (p q m n : ℤ) → pos 0 <ℤ p → pos 0 <ℤ q → m <ℤ pos 0 → pos 0 ≤ℤ n → pos 0 <ℤ (p *ℤ n -ℤ m *ℤ q)
turn_above p q m n h k l o = go (p *ℤ n) (m *ℤ q) (q *ℤ m) (mul_nonneg p n (weak p h) o) (mul_neg q m k l) (swap m q)
  where
    weak : (m : ℤ) → pos 0 <ℤ m → pos 0 ≤ℤ m
    weak m l = omega (arith, ints)

    go : (a b c : ℤ) → pos 0 ≤ℤ a → c <ℤ pos 0 → b ≡ c → pos 0 <ℤ (a -ℤ b)
    go a b c h k e = omega (arith, ints)

mirrored : (p q m n : ℤ) → neg_ℤ p *ℤ n -ℤ m *ℤ neg_ℤ q ≡ neg_ℤ (p *ℤ n -ℤ m *ℤ q)
unfolding same
mirrored p q m n = ring (neg (var 0) ⊗ var 3 ⊖ var 2 ⊗ neg (var 1)) (neg (var 0 ⊗ var 3 ⊖ var 2 ⊗ var 1)) tt (p ∷ q ∷ m ∷ n ∷ [])

of_mirrored_under : (z m : ℤ) → m ≡ neg_ℤ z → m <ℤ pos 0 → pos 0 <ℤ z
of_mirrored_under z m e h = omega (arith, ints)

of_mirrored_above : (z m : ℤ) → m ≡ neg_ℤ z → pos 0 <ℤ m → z <ℤ pos 0
of_mirrored_above z m e h = omega (arith, ints)

above_neg : (z : ℤ) → z <ℤ pos 0 → pos 0 <ℤ neg_ℤ z
above_neg z h = omega (arith, ints)

pub not_above : (z : ℤ) → z <ℤ pos 0 → int_lt (pos 0) z ≡ false
not_above z h = not_true _ (λ e. go (above_test z e))
  where
    go : pos 0 <ℤ z → ⊥
    go k = omega (arith, ints)

pub not_under : (z : ℤ) → pos 0 <ℤ z → int_lt z (pos 0) ≡ false
not_under z h = not_true _ (λ e. go (under_test z e))
  where
    go : z <ℤ pos 0 → ⊥
    go k = omega (arith, ints)

abbrev crossing : Bool → Bool → Bool → Bool → Bool
crossing a b l r = (a && not b && l) || (b && not a && r)

same_no : (a b l r : Bool) → a ≡ b → crossing a b l r ≡ false
same_no true true l r e = refl
same_no false false l r e = refl
same_no true false l r e = cc
same_no false true l r e = cc

-- both ends are on one side
pub level_no : (axis : Axis) (u v : Point) → int_le (pos 0) (second_of_two axis u) ≡ int_le (pos 0) (second_of_two axis v) → crosses_ray axis u v ≡ false
level_no axis u v e = same_no _ _ (int_lt (pos 0) (cross_of_two axis u v)) (int_lt (cross_of_two axis u v) (pos 0)) e

-- both ends are behind the point
pub behind_no : (axis : Axis) (u v : Point) → pos 0 <ℤ first_of_two axis u → pos 0 <ℤ first_of_two axis v → crosses_ray axis u v ≡ false
behind_no axis u v h k = go (int_le (pos 0) (second_of_two axis u)) (int_le (pos 0) (second_of_two axis v)) refl refl
  where
    go : (a b : Bool) → int_le (pos 0) (second_of_two axis u) ≡ a → int_le (pos 0) (second_of_two axis v) ≡ b → crossing a b (int_lt (pos 0) (cross_of_two axis u v)) (int_lt (cross_of_two axis u v) (pos 0)) ≡ false
    go true true e f = refl
    go false false e f = refl
    go true false e f = ap (λ l. crossing true false l (int_lt (cross_of_two axis u v) (pos 0))) (not_above _ (turn_under (first_of_two axis u) (first_of_two axis v) (second_of_two axis u) (second_of_two axis v) h k (at_least_test _ e) (below_test _ f)))
    go false true e f = ap (λ r. crossing false true (int_lt (pos 0) (cross_of_two axis u v)) r) (not_under _ (turn_above (first_of_two axis u) (first_of_two axis v) (second_of_two axis u) (second_of_two axis v) h k (below_test _ e) (at_least_test _ f)))

-- both ends are before the point: then the ray crosses the side exactly where it has one end under the point and the other not
pub before_yes : (axis : Axis) (u v : Point) → first_of_two axis u <ℤ pos 0 → first_of_two axis v <ℤ pos 0 → crosses_ray axis u v ≡ xor (int_le (pos 0) (second_of_two axis u)) (int_le (pos 0) (second_of_two axis v))
before_yes axis u v h k = go (int_le (pos 0) (second_of_two axis u)) (int_le (pos 0) (second_of_two axis v)) refl refl
  where
    go : (a b : Bool) → int_le (pos 0) (second_of_two axis u) ≡ a → int_le (pos 0) (second_of_two axis v) ≡ b → crossing a b (int_lt (pos 0) (cross_of_two axis u v)) (int_lt (cross_of_two axis u v) (pos 0)) ≡ xor a b
    go true true e f = refl
    go false false e f = refl
    go true false e f =
        ap (λ l. crossing true false l (int_lt (cross_of_two axis u v) (pos 0)))
        (is_above _ (of_mirrored_under _ _ (mirrored (first_of_two axis u) (first_of_two axis v) (second_of_two axis u) (second_of_two axis v)) (turn_under _ _ _ _ (above_neg _ h) (above_neg _ k) (at_least_test _ e) (below_test _ f))))
    go false true e f =
        ap (λ r. crossing false true (int_lt (pos 0) (cross_of_two axis u v)) r)
        (under_is _ (of_mirrored_above _ _ (mirrored (first_of_two axis u) (first_of_two axis v) (second_of_two axis u) (second_of_two axis v)) (turn_above _ _ _ _ (above_neg _ h) (above_neg _ k) (below_test _ e) (at_least_test _ f))))

-- ---- sides in a box

pub apart_met : (reach : Reach) (axis : Axis) (e : Extent) (s : Side) (x : RationalPoint) → IsHeld e s.from → IsHeld e s.to → IsBeyondBoth axis (from_to_rational e.low x) (from_to_rational e.high x) → side_meets reach axis x s ≡ false
apart_met On axis e s x h k b = beyond_on axis _ _ (beyond_ends axis e s.from s.to x h k b)
apart_met Over axis e s x h k b = beyond_over axis _ _ (beyond_ends axis e s.from s.to x h k b)

pub never_crossed : (axis : Axis) (e : Extent) (s : Side) (x : RationalPoint) → IsHeld e s.from → IsHeld e s.to → Tells axis (from_to_rational e.low x) (from_to_rational e.high x) Never → side_crosses axis x s ≡ false
never_crossed axis e s x h k (inl c) =
    level_no axis _ _
    (same_amid _ _ _ c (second_amid axis e s.from x h) ∙ sym (same_amid _ _ _ c (second_amid axis e s.to x k)))
never_crossed axis e s x h k (inr c) = behind_no axis _ _ (above_amid _ _ _ c.0 c.1 (first_amid axis e s.from x h)) (above_amid _ _ _ c.0 c.1 (first_amid axis e s.to x k))

pub between_crossed : (axis : Axis) (e : Extent) (s : Side) (x : RationalPoint) → IsHeld e s.from → IsHeld e s.to → Tells axis (from_to_rational e.low x) (from_to_rational e.high x) Between
    → side_crosses axis x s ≡ xor (is_under axis x s.from) (is_under axis x s.to)
between_crossed axis e s x h k c = before_yes axis _ _ (under_amid _ _ _ c.0 c.1 (first_amid axis e s.from x h)) (under_amid _ _ _ c.0 c.1 (first_amid axis e s.to x k))

-- ---- a point beyond a box

at_least_no : (z : ℤ) → z <ℤ pos 0 → int_le (pos 0) z ≡ false
at_least_no z h = not_true _ (λ e. go (at_least_test z e))
  where
    go : pos 0 ≤ℤ z → ⊥
    go k = omega (arith, ints)

pub level_beyond : (a b : ℤ) → AreBeyond a b → int_le (pos 0) a ≡ int_le (pos 0) b
level_beyond a b (inl h) = is_at_least a (weak a h.0) ∙ sym (is_at_least b (weak b h.1))
  where
    weak : (m : ℤ) → pos 0 <ℤ m → pos 0 ≤ℤ m
    weak m l = omega (arith, ints)
level_beyond a b (inr h) = at_least_no a h.0 ∙ sym (at_least_no b h.1)

pub beyond_same : (a b m n : ℤ) → a ≡ m → b ≡ n → AreBeyond a b → AreBeyond m n
beyond_same a b m n e f (inl h) = let k = h.0 in let l = h.1 in inl (omega (arith, ints), omega (arith, ints))
beyond_same a b m n e f (inr h) = let k = h.0 in let l = h.1 in inr (omega (arith, ints), omega (arith, ints))
