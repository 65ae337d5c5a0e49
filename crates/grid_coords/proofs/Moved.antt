-- Coordinates less those of an origin, and behind it.
use Rattle.std.specs.Int.{w128}
use Rattle.std.proofs.Common.{◌≡◌, ℕ, zero, suc, ◌+◌, ◌*◌, ◌^◌, ◌<◌, ◌≤◌, ◌++◌, ◌-◌, ◌/◌, ◌%◌, eqb, leb, Bool, true, ℤ, pos, negsuc, to_z, of_z, FitsSigned, subst, sym, ap, ◌∙◌, refl, arith, inl, inr}
use Rattle.std.specs.Prelude.{◌*ℤ◌, ◌-ℤ◌, unsigned_abs, nat_lt, int_lt, if◌then◌else◌}
use Rattle.std.proofs.lemmas.Bool.{cond-false, cond-true, leb-true, le-ltb, lt-ltb, cases_Bool}
use Rattle.std.proofs.lemmas.Int.{to_z-of_z, fits_signed_from_abs}
use Rattle.std.proofs.Math.Nat.{mul-le-mul_right, mul-le-mul_left}
use Rattle.std.proofs.lemmas.Nat.{pow-add}
use Rattle.tet_text.proofs.Numerals.{tens_le}
use Rattle.tet_text.specs.Decimals.{Scaled, IsDecimal, lowest, signed, with_sign}
use Rattle.tet_text.specs.Printing.{sign_text, size_text, decimal_text}
use Rattle.tet_text.proofs.Scaling.{abs_signed, lowest_le, lowest_is_decimal, signed_is_decimal}
use Rattle.grid_coords.specs.declared.grid.Grid.{Grid}
use Rattle.grid_coords.specs.declared.origin.WholePoint.{WholePoint}
use Rattle.grid_coords.proofs.Printed.{lowest_some}
use Rattle.grid_coords.specs.Rounding.{rounded, nearest_whole}
use Rattle.grid_coords.specs.Origins.{most_whole, IsNear, CanMeasure, moved, parts_from, decimal_from, text_from}

-- a product of 128 bits
pub product_fits : (a b x y : ℤ) → a ≡ x → b ≡ y → unsigned_abs (x *ℤ y) < 2 ^ 127 → FitsSigned w128 (a *ℤ b)
product_fits a b x y p q small = subst (FitsSigned w128) (sym (λ j. p j *ℤ q j)) (fits_signed_from_abs w128 (x *ℤ y) small)

pub product_is : (a b x y : ℤ) → a ≡ x → b ≡ y → unsigned_abs (x *ℤ y) < 2 ^ 127 → to_z w128 (of_z w128 (a *ℤ b)) ≡ x *ℤ y
product_is a b x y p q small = to_z-of_z w128 (a *ℤ b) (product_fits a b x y p q small) ∙ (λ j. p j *ℤ q j)

-- a size of some units is one of fewer, larger units
pub fewer_tens : (n i j most : ℕ) → i ≤ j → n * 10 ^ j ≤ most → n * 10 ^ i ≤ most
fewer_tens n i j most le small = let one = mul-le-mul_left n (tens_le i j le) in omega arith

pub more_tens : (n i k most : ℕ) → n * 10 ^ i ≤ most → n * 10 ^ (i + k) ≤ most * 10 ^ k
more_tens n i k most small =
    let e : n * 10 ^ (i + k) ≡ n * 10 ^ i * 10 ^ k = ap (λ (p : ℕ). n * p) (pow-add 10 i k) ∙ grind arith in
    subst (λ (m : ℕ). m ≤ most * 10 ^ k) (sym e) (mul-le-mul_right (10 ^ k) small)

-- the text of a decimal by its sign and its size in lowest terms
sign_of_size : (n : ℤ) (s : ℕ) → int_lt (signed (int_lt n (pos 0)) (lowest (unsigned_abs n) s).0) (pos 0) ≡ int_lt n (pos 0)
sign_of_size (pos m) s = let k = (lowest m s).0 in rw (le-ltb m 0 (omega arith)) (le-ltb k 0 (omega arith))
sign_of_size (negsuc m) s = below (lowest (suc m) s).0 (lowest_some (suc m) s (omega arith))
  where
    below : (n : ℕ) → 0 < n → int_lt (signed true n) (pos 0) ≡ true
    below zero some = absurd (omega arith)
    below (suc n) some = refl

pub printed_from : (w : ℤ) (g : Grid) (c n : ℤ) (s : ℕ × ℕ) → n ≡ parts_from w g c → s ≡ lowest (unsigned_abs n) (g.decimals + g.halvings)
    → sign_text (int_lt n (pos 0)) ++ size_text s.0 s.1 ≡ text_from w g c
unfolding decimal_from
printed_from w g c n s n-is s-is =
    let scale = g.decimals + g.halvings in
    let low = lowest (unsigned_abs n) scale in
    let b = int_lt n (pos 0) in
    ap (λ (p : ℕ × ℕ). sign_text b ++ size_text p.0 p.1) s-is
    ∙ sym (ap (λ (t : Bool). sign_text t ++ size_text (unsigned_abs (signed b low.0)) low.1) (sign_of_size n scale)
    ∙ ap (λ (m : ℕ). sign_text b ++ size_text m low.1) (abs_signed b low.0))
    ∙ ap (λ (m : ℤ). decimal_text (with_sign (int_lt m (pos 0)) (lowest (unsigned_abs m) scale))) n-is

lowest_scale : (n s : ℕ) → (lowest n s).1 ≤ s
lowest_scale n zero = omega arith
lowest_scale n (suc s) =
    elim (cases_Bool (eqb (n % 10) 0)) [
      | inl last ↦ let le = lowest_scale (n / 10) s in rw last (omega arith)
      | inr last ↦ rw last (omega arith)
    ]

-- a rounded number has no more decimals than that
pub rounded_scale : (decimals : ℕ) (d : Scaled) → (rounded decimals d).scale ≤ decimals
unfolding rounded
rounded_scale decimals d =
    let n = nearest_whole (unsigned_abs d.value) (d.scale - decimals) in
    let low = lowest_scale n decimals in
    elim (cases_Bool (leb d.scale decimals)) [
      | inl few ↦ let le = leb-true d.scale decimals few in rw few le
      | inr many ↦ rw many low
    ]

-- a decimal in lowest terms, as 128 bits hold it
pub signed_kept : (b : Bool) (n s : ℕ) (v : ℤ) (p : ℕ × ℕ) → n < 10 ^ 36 → p ≡ lowest n s → v ≡ signed b p.0 → to_z w128 (of_z w128 v) ≡ signed b (lowest n s).0
signed_kept b n s v p small p-is v-is =
    let le = lowest_le n s in
    let value = v-is ∙ ap (λ (q : ℕ × ℕ). signed b q.0) p-is in
    ap (λ (z : ℤ). to_z w128 (of_z w128 z)) value
    ∙ to_z-of_z w128 (signed b (lowest n s).0) (fits_signed_from_abs w128 _ (subst (λ (m : ℕ). m < 2 ^ 127) (sym (abs_signed b (lowest n s).0)) (omega arith)))

pub decimal_kept : (b : Bool) (n s : ℕ) (v : ℤ) (p : ℕ × ℕ) → n < 10 ^ 36 → p ≡ lowest n s → v ≡ signed b p.0
    → IsDecimal (record { value = to_z w128 (of_z w128 v); scale = p.1 })
decimal_kept b n s v p small p-is v-is =
    let dec = signed_is_decimal b (lowest n s).0 (lowest n s).1 (lowest_is_decimal n s small) in
    let value = signed_kept b n s v p small p-is v-is in
    subst IsDecimal (sym (λ j. record { value = value j; scale = (p-is j).1 })) dec

-- what a moved number is
pub moved_is : (w : ℤ) (d : Scaled) (n v : ℤ) (k : ℕ) (p : ℕ × ℕ) → n ≡ d.value -ℤ w *ℤ pos (10 ^ d.scale) → k ≡ unsigned_abs n → k < 10 ^ 36
    → p ≡ lowest k d.scale → v ≡ signed (int_lt n (pos 0)) p.0 → record { value = to_z w128 (of_z w128 v); scale = p.1 } ≡ moved w d
unfolding moved
moved_is w d n v k p n-is k-is small p-is v-is =
    let b = int_lt n (pos 0) in
    let kept : to_z w128 (of_z w128 v) ≡ signed b (lowest k d.scale).0 = signed_kept b k d.scale v p small p-is v-is in
    let same : record { value = to_z w128 (of_z w128 v); scale = p.1 } ≡ with_sign b (lowest k d.scale) = λ j. record { value = kept j; scale = (p-is j).1 } in
    let here : with_sign b (lowest k d.scale) ≡ with_sign b (lowest (unsigned_abs n) d.scale) = ap (λ (m : ℕ). with_sign b (lowest m d.scale)) k-is in
    let few : unsigned_abs n < 10 ^ 36 = subst (λ (m : ℕ). m < 10 ^ 36) k-is small in
    let take : with_sign b (lowest (unsigned_abs n) d.scale) ≡ (if nat_lt (unsigned_abs n) (10 ^ 36) then with_sign b (lowest (unsigned_abs n) d.scale) else d) = sym (cond-true _ _ _ (lt-ltb _ _ few)) in
    same ∙ here ∙ take ∙ ap (λ (m : ℤ). if nat_lt (unsigned_abs m) (10 ^ 36) then with_sign (int_lt m (pos 0)) (lowest (unsigned_abs m) d.scale) else d) n-is

near_more : (n decimals more : ℕ) → more ≤ 6 → n * 10 ^ decimals ≤ most_whole → n * 10 ^ (decimals + more) ≤ 10 ^ 23
near_more n decimals more few small =
    let one = more_tens n decimals more most_whole small in
    let le = tens_le more 6 few in
    let two = mul-le-mul_left most_whole le in
    omega arith

-- from an origin that is near, numbers with up to six decimals more can be measured
pub near_can : (decimals more : ℕ) (w : WholePoint) → more ≤ 6 → IsNear decimals w → CanMeasure (decimals + more) w
near_can decimals more w few near = record {
  fine = omega (arith, near.fine);
  x = near_more (unsigned_abs w.x) decimals more few near.x;
  y = near_more (unsigned_abs w.y) decimals more few near.y;
  z = near_more (unsigned_abs w.z) decimals more few near.z;
}

-- an origin that is near with some decimals is near with fewer
pub near_fewer : (few decimals : ℕ) (w : WholePoint) → few ≤ decimals → IsNear decimals w → IsNear few w
near_fewer few decimals w le near = record {
  fine = omega (arith, near.fine);
  x = fewer_tens (unsigned_abs w.x) few decimals most_whole le near.x;
  y = fewer_tens (unsigned_abs w.y) few decimals most_whole le near.y;
  z = fewer_tens (unsigned_abs w.z) few decimals most_whole le near.z;
}

-- a number that would have more than 36 digits stays
pub unmoved_is : (w : ℤ) (d : Scaled) (n : ℤ) → n ≡ d.value -ℤ w *ℤ pos (10 ^ d.scale) → 10 ^ 36 ≤ unsigned_abs n → d ≡ moved w d
unfolding moved
unmoved_is w d n n-is many = sym (cond-false _ _ _ (le-ltb _ _ (subst (λ (z : ℤ). 10 ^ 36 ≤ unsigned_abs z) n-is many)))
