-- Numbers in two parts, of which the lower one has 48 bits.
use Rattle.std.proofs.Common.{◌≡◌, ◌≢◌, List, ◌<◌, ◌⊎◌, inl, inr, ℕ, w64, to_z, of_z, ◌*◌, ◌^◌, ◌≤◌, [], ◌∷◌, ℤ, pos, negsuc, ◌+ℤ◌, ◌-ℤ◌, ◌*ℤ◌, ◌≤ℤ◌, ◌<ℤ◌, unsigned_abs, ◌+◌, arith, refl, ap, sym, subst, ◌∙◌}
use Rattle.std.specs.Prelude.{int_lt}
use Rattle.std.proofs.lemmas.Int.{ints}
use lib.Signed.{shr_z}
use mir.Syntax.{w128}
use Rattle.exact_algebra.proofs.Size.{AllWithin, abs_add, abs_mul, back, bound, eval_within}
use Rattle.exact_algebra.proofs.Ring.{num, var, ring, same, ◌⊕◌, ◌⊖◌, ◌⊗◌}
use Rattle.exact_algebra.proofs.Signs.{by_sign}
use Rattle.sign_predicates.specs.Sphere.{in_parts, HaveOneSign}
use Rattle.sign_predicates.specs.declared.tetrahedron.Sign.TheVariants.{Below, Zero, Above}
use Rattle.sign_predicates.proofs.Products.{four_products}
use Rattle.sign_predicates.proofs.Ties.{one_sign, one_sign_is}

-- what a shift leaves over is not below 0, and has 48 bits
pub rest_low : (z : ℤ) → pos 0 ≤ℤ (z -ℤ shr_z z (2 ^ 48) *ℤ pos (2 ^ 48))
rest_low (pos n) = omega (arith, ints)
rest_low (negsuc n) = omega (arith, ints)

pub rest_high : (z : ℤ) → (z -ℤ shr_z z (2 ^ 48) *ℤ pos (2 ^ 48)) <ℤ pos (2 ^ 48)
rest_high (pos n) = omega (arith, ints)
rest_high (negsuc n) = omega (arith, ints)

-- how large a shifted number is
pub shifted_determinant : (z : ℤ) → unsigned_abs z ≤ 3 * 2 ^ 91 → unsigned_abs (shr_z z (2 ^ 48)) ≤ 3 * 2 ^ 43
shifted_determinant (pos n) h = omega (arith, ints)
shifted_determinant (negsuc n) h = omega (arith, ints)

pub shifted_sum : (z : ℤ) → unsigned_abs z ≤ 84 * 2 ^ 120 → unsigned_abs (shr_z z (2 ^ 48)) ≤ 84 * 2 ^ 72
shifted_sum (pos n) h = omega (arith, ints)
shifted_sum (negsuc n) h = omega (arith, ints)

-- a carry goes from the lower part to the upper one
pub carried : (high low carry : ℤ) → in_parts (high +ℤ carry) (low -ℤ carry *ℤ pos (2 ^ 48)) ≡ in_parts high low
unfolding same in_parts
carried high low carry =
    let k = num (pos (2 ^ 48)) in
    ring (k ⊗ (var 0 ⊕ var 2) ⊕ (var 1 ⊖ var 2 ⊗ k)) (k ⊗ var 0 ⊕ var 1) tt (high ∷ low ∷ carry ∷ [])

-- the upper part has the sign where it is not 0
above_has : (high low : ℤ) → pos 0 ≤ℤ low → low <ℤ pos (2 ^ 48) → pos 0 <ℤ high → pos 0 <ℤ in_parts high low
unfolding in_parts
above_has high low l h p = omega (arith, ints)

below_has : (high low : ℤ) → pos 0 ≤ℤ low → low <ℤ pos (2 ^ 48) → high <ℤ pos 0 → in_parts high low <ℤ pos 0
unfolding in_parts
below_has high low l h p = omega (arith, ints)

pub upper_sign : (high low : ℤ) → pos 0 ≤ℤ low → low <ℤ pos (2 ^ 48) → high ≢ pos 0 → HaveOneSign high (in_parts high low)
upper_sign high low l h some =
    by_sign high
    (λ n. one_sign Below high (in_parts high low) n (below_has high low l h n))
    (λ z. absurd (some z))
    (λ p. one_sign Above high (in_parts high low) p (above_has high low l h p))

pub lower_alone : (high low : ℤ) → high ≡ pos 0 → low ≡ in_parts high low
unfolding in_parts
lower_alone high low e = omega (arith, ints)

-- a number of the sign of another is 0 where that is
pub zero_of_one_sign : (x y : ℤ) → HaveOneSign x y → x ≡ pos 0 → y ≡ pos 0
zero_of_one_sign x y h e =
    by_sign y
    (λ n. let k = h.below in absurd (grind (arith, ints)))
    (λ z. z)
    (λ p. let k = h.above in absurd (grind (arith, ints)))

pub not_zero_of_one_sign : (x y : ℤ) → HaveOneSign x y → x ≢ pos 0 → y ≢ pos 0
not_zero_of_one_sign x y h some e =
    by_sign x
    (λ n. let k = h.below in absurd (grind (arith, ints)))
    (λ z. some z)
    (λ p. let k = h.above in absurd (grind (arith, ints)))

pub same_sign : {x y z : ℤ} → HaveOneSign x y → y ≡ z → HaveOneSign x z
same_sign {x} h e = subst (HaveOneSign x) e h

pub sign_is : {x y z : ℤ} → x ≡ y → HaveOneSign y z → HaveOneSign x z
sign_is {x} {y} {z} e h = subst (λ w. HaveOneSign w z) (sym e) h

-- four products, of which each factor is in two parts
pub products_in_parts : (a b c d p q r s i j k l : ℤ)
    → in_parts (a *ℤ p -ℤ b *ℤ q +ℤ c *ℤ r -ℤ d *ℤ s) (a *ℤ i -ℤ b *ℤ j +ℤ c *ℤ k -ℤ d *ℤ l)
    ≡ a *ℤ in_parts p i -ℤ b *ℤ in_parts q j +ℤ c *ℤ in_parts r k -ℤ d *ℤ in_parts s l
unfolding same in_parts
products_in_parts a b c d p q r s i j k l =
    let h = num (pos (2 ^ 48)) in
    ring
    (h ⊗ (var 0 ⊗ var 4 ⊖ var 1 ⊗ var 5 ⊕ var 2 ⊗ var 6 ⊖ var 3 ⊗ var 7) ⊕ (var 0 ⊗ var 8 ⊖ var 1 ⊗ var 9 ⊕ var 2 ⊗ var 10 ⊖ var 3 ⊗ var 11))
    (var 0 ⊗ (h ⊗ var 4 ⊕ var 8) ⊖ var 1 ⊗ (h ⊗ var 5 ⊕ var 9) ⊕ var 2 ⊗ (h ⊗ var 6 ⊕ var 10) ⊖ var 3 ⊗ (h ⊗ var 7 ⊕ var 11))
    tt (a ∷ b ∷ c ∷ d ∷ p ∷ q ∷ r ∷ s ∷ i ∷ j ∷ k ∷ l ∷ [])

-- the upper part has the sign where it is over a bound of the lower one, in units of the upper one
far_below : (high low : ℤ) (reach : ℕ) → high <ℤ pos 0 → reach < unsigned_abs high → unsigned_abs low ≤ reach * 2 ^ 48 → in_parts high low <ℤ pos 0
unfolding in_parts
far_below high low reach n far small = omega (arith, ints)

far_above : (high low : ℤ) (reach : ℕ) → pos 0 <ℤ high → reach < unsigned_abs high → unsigned_abs low ≤ reach * 2 ^ 48 → pos 0 <ℤ in_parts high low
unfolding in_parts
far_above high low reach p far small = omega (arith, ints)

pub upper_alone : (high low : ℤ) (reach : ℕ) → reach < unsigned_abs high → unsigned_abs low ≤ reach * 2 ^ 48 → HaveOneSign high (in_parts high low)
upper_alone high low reach far small =
    by_sign high
    (λ n. one_sign Below high (in_parts high low) n (far_below high low reach n far small))
    (λ z. absurd (omega (arith, ints)))
    (λ p. one_sign Above high (in_parts high low) p (far_above high low reach p far small))

-- how large four products are, whose second factors have 48 bits
pub lower_products : (a b c d i j k l : ℤ) (reach : ℕ) → unsigned_abs a + unsigned_abs b + unsigned_abs c + unsigned_abs d ≤ reach
    → unsigned_abs i ≤ 2 ^ 48 → unsigned_abs j ≤ 2 ^ 48 → unsigned_abs k ≤ 2 ^ 48 → unsigned_abs l ≤ 2 ^ 48
    → unsigned_abs (a *ℤ i -ℤ b *ℤ j +ℤ c *ℤ k -ℤ d *ℤ l) ≤ reach * 2 ^ 48
lower_products a b c d i j k l reach few hi hj hk hl =
    let β : List ℕ = unsigned_abs a ∷ 2 ^ 48 ∷ unsigned_abs b ∷ 2 ^ 48 ∷ unsigned_abs c ∷ 2 ^ 48 ∷ unsigned_abs d ∷ 2 ^ 48 ∷ [] in
    let ρ : List ℤ = a ∷ i ∷ b ∷ j ∷ c ∷ k ∷ d ∷ l ∷ [] in
    let h : AllWithin β ρ = omega arith in
    let s : unsigned_abs (a *ℤ i -ℤ b *ℤ j +ℤ c *ℤ k -ℤ d *ℤ l) ≤ bound β four_products = eval_within β ρ four_products h in
    omega (arith, s)

-- ---- the parts as the code computes them

whole : (p h : ℤ) → in_parts h (p -ℤ h *ℤ pos (2 ^ 48)) ≡ p
unfolding same in_parts
whole p h =
    let k = num (pos (2 ^ 48)) in
    ring (k ⊗ var 1 ⊕ (var 0 ⊖ var 1 ⊗ k)) (var 0) tt (p ∷ h ∷ [])

abbrev long : ℤ → ℤ
long z = to_z w128 (of_z w128 z)

abbrev short : ℤ → ℤ
short z = to_z w64 (of_z w64 z)

pub split_is : (p : ℤ) → unsigned_abs p ≤ 3 * 2 ^ 91
    → in_parts (short (long (shr_z (long p) (2 ^ 48)))) (short (long (long p -ℤ long (long (shr_z (long p) (2 ^ 48)) *ℤ pos (2 ^ 48))))) ≡ p
split_is p small =
    let h = shr_z p (2 ^ 48) in
    let rest = p -ℤ h *ℤ pos (2 ^ 48) in
    let h_small = shifted_determinant p small in
    let p_is = back w128 (3 * 2 ^ 91) p tt small in
    let h_is = ap (λ z. long (shr_z z (2 ^ 48))) p_is ∙ back w128 (3 * 2 ^ 43) h tt h_small in
    let product_is = ap (λ z. long (z *ℤ pos (2 ^ 48))) h_is ∙ back w128 (3 * 2 ^ 91) (h *ℤ pos (2 ^ 48)) tt (abs_mul h (pos (2 ^ 48)) (3 * 2 ^ 43) (2 ^ 48) h_small (omega arith)) in
    let low = rest_low p in
    let high = rest_high p in
    let rest_small : unsigned_abs rest ≤ 2 ^ 48 = within rest low high in
    let rest_is = (λ i. long (p_is i -ℤ product_is i)) ∙ back w128 (2 ^ 48) rest tt rest_small in
    (λ i. in_parts ((ap short h_is ∙ back w64 (3 * 2 ^ 43) h tt h_small) i) ((ap short rest_is ∙ back w64 (2 ^ 48) rest tt rest_small) i)) ∙ whole p h
  where
    within : (z : ℤ) → pos 0 ≤ℤ z → z <ℤ pos (2 ^ 48) → unsigned_abs z ≤ 2 ^ 48
    within z l h = omega (arith, ints)

pub carry_is : (low : ℤ) → unsigned_abs low ≤ 84 * 2 ^ 120 → long (shr_z (long low) (2 ^ 48)) ≡ shr_z low (2 ^ 48)
carry_is low small =
    ap (λ z. long (shr_z z (2 ^ 48))) (back w128 (84 * 2 ^ 120) low tt small)
    ∙ back w128 (84 * 2 ^ 72) (shr_z low (2 ^ 48)) tt (shifted_sum low small)

pub above_is : (high low : ℤ) → unsigned_abs high ≤ 84 * 2 ^ 120 → unsigned_abs low ≤ 84 * 2 ^ 120
    → long (long high +ℤ long (shr_z (long low) (2 ^ 48))) ≡ high +ℤ shr_z low (2 ^ 48)
above_is high low small fits =
    (λ i. long (back w128 (84 * 2 ^ 120) high tt small i +ℤ carry_is low fits i))
    ∙ back w128 (84 * 2 ^ 120 + 84 * 2 ^ 72) (high +ℤ shr_z low (2 ^ 48)) tt (abs_add high (shr_z low (2 ^ 48)) (84 * 2 ^ 120) (84 * 2 ^ 72) small (shifted_sum low fits))

pub rest_is : (low : ℤ) → unsigned_abs low ≤ 84 * 2 ^ 120
    → long (long low -ℤ long (long (shr_z (long low) (2 ^ 48)) *ℤ pos (2 ^ 48))) ≡ low -ℤ shr_z low (2 ^ 48) *ℤ pos (2 ^ 48)
rest_is low fits =
    let k = shr_z low (2 ^ 48) in
    let product = ap (λ z. long (z *ℤ pos (2 ^ 48))) (carry_is low fits)
    ∙ back w128 (84 * 2 ^ 120) (k *ℤ pos (2 ^ 48)) tt (abs_mul k (pos (2 ^ 48)) (84 * 2 ^ 72) (2 ^ 48) (shifted_sum low fits) (omega arith)) in
    (λ i. long (back w128 (84 * 2 ^ 120) low tt fits i -ℤ product i))
    ∙ back w128 (2 ^ 48) (low -ℤ k *ℤ pos (2 ^ 48)) tt (within _ (rest_low low) (rest_high low))
  where
    within : (z : ℤ) → pos 0 ≤ℤ z → z <ℤ pos (2 ^ 48) → unsigned_abs z ≤ 2 ^ 48
    within z l h = omega (arith, ints)

-- the sum of the upper part and the carry has the sign, and where it is 0 the rest has
pub folded_above : (high low x : ℤ) → unsigned_abs high ≤ 84 * 2 ^ 120 → unsigned_abs low ≤ 84 * 2 ^ 120
    → x ≡ long (long high +ℤ long (shr_z (long low) (2 ^ 48))) → x ≢ pos 0 → HaveOneSign x (in_parts high low)
folded_above high low x small fits is some =
    let k = shr_z low (2 ^ 48) in
    let x_is : x ≡ high +ℤ k = is ∙ above_is high low small fits in
    same_sign (sign_is x_is (upper_sign (high +ℤ k) (low -ℤ k *ℤ pos (2 ^ 48)) (rest_low low) (rest_high low) (λ e. some (x_is ∙ e)))) (carried high low k)

pub folded_rest : (high low x y : ℤ) → unsigned_abs high ≤ 84 * 2 ^ 120 → unsigned_abs low ≤ 84 * 2 ^ 120
    → x ≡ long (long high +ℤ long (shr_z (long low) (2 ^ 48))) → x ≡ pos 0
    → y ≡ long (long low -ℤ long (long (shr_z (long low) (2 ^ 48)) *ℤ pos (2 ^ 48))) → HaveOneSign y (in_parts high low)
folded_rest high low x y small fits is none rest =
    let k = shr_z low (2 ^ 48) in
    one_sign_is (rest ∙ rest_is low fits ∙ lower_alone (high +ℤ k) (low -ℤ k *ℤ pos (2 ^ 48)) (sym (is ∙ above_is high low small fits) ∙ none) ∙ carried high low k)

pub height_back : (z : ℤ) → unsigned_abs z ≤ 7 * 2 ^ 59 → short z ≡ z
height_back z h = back w64 (7 * 2 ^ 59) z tt h

pub part_back : (z : ℤ) → unsigned_abs z ≤ 3 * 2 ^ 61 → short z ≡ z
part_back z h = back w64 (3 * 2 ^ 61) z tt h

pub low_back : (z : ℤ) → unsigned_abs z ≤ 2 ^ 48 → short z ≡ z
low_back z h = back w64 (2 ^ 48) z tt h
