-- What signs say of sums, and of a point in a tetrahedron.
use Rattle.std.proofs.Common.{◌≡◌, ◌≢◌, ◌⊎◌, zero, suc, ℤ, pos, negsuc, ◌≤ℤ◌, ◌<ℤ◌, Bool, true, false, ◌&&◌, ◌||◌, refl, ◌∙◌, inl, inr, arith}
use Rattle.std.specs.Prelude.{int_lt, int_le}
use Rattle.std.proofs.lemmas.Int.{ints}
use Rattle.std.proofs.lemmas.Bool.Decides.{nat_tests}
use Rattle.sign_predicates.specs.Point.{RationalPoint}
use Rattle.sign_predicates.specs.Orientation.{InClosed, side_rational, opposite_a, opposite_b, opposite_c, opposite_d}
use Rattle.sign_predicates.specs.declared.tetrahedron.Corners.{Corners}
use Rattle.sign_predicates.specs.declared.tetrahedron.Sign.{Sign}
use Rattle.sign_predicates.specs.declared.tetrahedron.Sign.TheVariants.{Below, Zero, Above}
use Rattle.sign_predicates.specs.Sign.{IsSignOf, least_sign}

abbrev pub NotBelow : Sign → Type 0
NotBelow Below = ⊥
NotBelow Zero = Unit {0}
NotBelow Above = Unit {0}

least_not_below : (s t : Sign) → NotBelow (least_sign s t) → NotBelow s × NotBelow t
least_not_below Below t h = absurd h
least_not_below Zero Below h = absurd h
least_not_below Zero Zero h = (tt, tt)
least_not_below Zero Above h = (tt, tt)
least_not_below Above t h = (tt, h)

not_negative : (s : Sign) (z : ℤ) → IsSignOf s z → NotBelow s → pos 0 ≤ℤ z
not_negative Below z h n = absurd n
not_negative Zero z h n = omega (arith, ints)
not_negative Above z h n = omega (arith, ints)

-- no face has x beyond it
pub in_closed_of : (t : Corners) (x : RationalPoint) (a b c d : Sign)
    → IsSignOf a (side_rational (opposite_a t) x) → IsSignOf b (side_rational (opposite_b t) x)
    → IsSignOf c (side_rational (opposite_c t) x) → IsSignOf d (side_rational (opposite_d t) x)
    → NotBelow (least_sign (least_sign a b) (least_sign c d)) → InClosed t x
in_closed_of t x a b c d ha hb hc hd n =
    let p = least_not_below (least_sign a b) (least_sign c d) n in
    let q = least_not_below a b p.0 in
    let r = least_not_below c d p.1 in
    (not_negative a _ ha q.0, (not_negative b _ hb q.1, (not_negative c _ hc r.0, (not_negative d _ hd r.1, tt))))

-- the tests of a number below 0, of 0, and of one above it
pub tests_below : (z : ℤ) (tie : Bool) → z <ℤ pos 0 → true ≡ int_lt z (pos 0) || int_le z (pos 0) && tie
tests_below (pos n) tie h = absurd (omega (arith, ints))
tests_below (negsuc n) tie h = refl

pub tests_zero : (z : ℤ) (tie : Bool) → z ≡ pos 0 → tie ≡ int_lt z (pos 0) || int_le z (pos 0) && tie
tests_zero z tie h = rw h refl

pub tests_above : (z : ℤ) (tie : Bool) → pos 0 <ℤ z → false ≡ int_lt z (pos 0) || int_le z (pos 0) && tie
tests_above (pos zero) tie h = absurd (omega (arith, ints))
tests_above (pos (suc n)) tie h = grind (arith, nat_tests)
tests_above (negsuc n) tie h = absurd (omega (arith, ints))

-- a number that is not 0 is below it or above it, and the test tells
pub below_or_above : (z : ℤ) → z ≢ pos 0 → ((z <ℤ pos 0) × (int_lt z (pos 0) ≡ true)) ⊎ ((pos 0 <ℤ z) × (int_lt z (pos 0) ≡ false))
below_or_above (pos zero) h = absurd (h refl)
below_or_above (pos (suc n)) h = inr (omega (arith, ints), grind (arith, nat_tests))
below_or_above (negsuc n) h = inl (omega (arith, ints), refl)

-- the tests of a number that is not 0
pub tests_not_zero : (z : ℤ) (tie : Bool) → z ≢ pos 0 → int_lt z (pos 0) ≡ int_lt z (pos 0) || int_le z (pos 0) && tie
tests_not_zero z tie h =
    elim (below_or_above z h) [
      | inl low ↦ low.1 ∙ tests_below z tie low.0
      | inr high ↦ high.1 ∙ tests_above z tie high.0
    ]
