-- Of the ways in which a leg may pass a triangle the sides of its ends leave one at most.
use Rattle.std.proofs.Common.{◌≡◌, ℤ, pos, Bool, true, false, ◌&&◌, ◌||◌, refl, ap, ◌∙◌, arith}
use Rattle.std.specs.Prelude.{int_lt, int_le}
use Rattle.std.proofs.lemmas.Int.{ints}
use Rattle.geo_laws.specs.Segment.{is_zero}
use Rattle.crossing_laws.proofs.Tests.{lt_of, lt_not, le_of, le_not, both, and_false}

-- a leg from s to e goes down through it, goes up through it, or runs in its plane
abbrev pub passes : ℤ → ℤ → Bool → Bool → Bool → Bool
passes s e down up within =
    (int_lt (pos 0) s && (int_lt e (pos 0) && down)) || ((int_lt (pos 0) e && (int_lt s (pos 0) && up)) || (is_zero s && (is_zero e && within)))

-- ---- signs

not_over : (a b : ℤ) → int_lt a b ≡ true → int_lt b a ≡ false
not_over a b h = grind (arith, ints)

above_not_zero : (a : ℤ) → int_lt (pos 0) a ≡ true → is_zero a ≡ false
above_not_zero a h = ap (λ b. b && int_le (pos 0) a) (le_not a (pos 0) (lt_of (pos 0) a h))

below_not_zero : (a : ℤ) → int_lt a (pos 0) ≡ true → is_zero a ≡ false
below_not_zero a h = ap (λ b. int_le a (pos 0) && b) (le_not (pos 0) a (lt_of a (pos 0) h)) ∙ and_false (int_le a (pos 0))

zero_not_above : (a : ℤ) → is_zero a ≡ true → int_lt (pos 0) a ≡ false
zero_not_above a h = lt_not (pos 0) a (le_of a (pos 0) (both (int_le a (pos 0)) (int_le (pos 0) a) h).0)

-- ---- one way

first_alone : (a m u z w : Bool) → m ≡ false → z ≡ false → a ≡ a || ((m && u) || (z && w))
first_alone true m u z w e f = refl
first_alone false m u z w e f = cc

second_alone : (l d b z w : Bool) → l ≡ false → z ≡ false → b ≡ (l && d) || (b || (z && w))
second_alone l d true z w e f = cc
second_alone l d false z w e f = cc

third_alone : (l d m u c : Bool) → l ≡ false → m ≡ false → c ≡ (l && d) || ((m && u) || c)
third_alone l d m u c e f = cc

pub down_alone : (s e : ℤ) (down up within : Bool) → int_lt (pos 0) s && int_lt e (pos 0) ≡ true
    → int_lt (pos 0) s && (int_lt e (pos 0) && down) ≡ passes s e down up within
down_alone s e down up within h =
    let k = both (int_lt (pos 0) s) (int_lt e (pos 0)) h in
    first_alone _ (int_lt (pos 0) e) _ (is_zero s) _ (not_over e (pos 0) k.1) (above_not_zero s k.0)

pub up_alone : (s e : ℤ) (down up within : Bool) → int_lt (pos 0) e && int_lt s (pos 0) ≡ true
    → int_lt (pos 0) e && (int_lt s (pos 0) && up) ≡ passes s e down up within
up_alone s e down up within h =
    let k = both (int_lt (pos 0) e) (int_lt s (pos 0)) h in
    second_alone (int_lt (pos 0) s) _ _ (is_zero s) _ (not_over s (pos 0) k.1) (below_not_zero s k.1)

pub within_alone : (s e : ℤ) (down up within : Bool) → is_zero s && is_zero e ≡ true → is_zero s && (is_zero e && within) ≡ passes s e down up within
within_alone s e down up within h =
    let k = both (is_zero s) (is_zero e) h in
    third_alone (int_lt (pos 0) s) _ (int_lt (pos 0) e) _ _ (zero_not_above s k.0) (zero_not_above e k.1)

-- ---- no way

both_fail : (a b c : Bool) → a && b ≡ false → a && (b && c) ≡ false
both_fail true true c h = cc
both_fail true false c h = refl
both_fail false b c h = refl

none_of : (a b c : Bool) → a ≡ false → b ≡ false → c ≡ false → false ≡ a || (b || c)
none_of a b c e f g = cc

pub none_passes : (s e : ℤ) (down up within : Bool) → int_lt (pos 0) s && int_lt e (pos 0) ≡ false → int_lt (pos 0) e && int_lt s (pos 0) ≡ false
    → is_zero s && is_zero e ≡ false → false ≡ passes s e down up within
none_passes s e down up within h k l =
    none_of _ _ _ (both_fail (int_lt (pos 0) s) (int_lt e (pos 0)) down h) (both_fail (int_lt (pos 0) e) (int_lt s (pos 0)) up k) (both_fail (is_zero s) (is_zero e) within l)
