-- The decimal that a grid coordinate is.
use Rattle.std.proofs.Common.{◌≡◌, ℕ, zero, suc, ◌+◌, ◌*◌, ◌/◌, ◌%◌, ◌^◌, ◌<◌, Bool, true, eqb, ℤ, pos, negsuc, unsigned_abs, List, ◌++◌, Result, Ok, Err, refl, sym, ap, ◌∙◌, arith, inl, inr}
use Rattle.std.specs.Prelude.{int_lt, OnOk}
use Rattle.std.proofs.lemmas.Bool.{eqb-true, le-ltb, cases_Bool}
use Rattle.std.proofs.lemmas.Nat.{pow-add, mul-pow}
use Rattle.std.proofs.Math.Nat.{mul_assoc, mul_right_comm, mul-div_cancel, one-le-pow}
use Rattle.tet_text.specs.Decimals.{lowest, signed}
use Rattle.tet_text.specs.Printing.{sign_text, size_text}
use Rattle.tet_text.proofs.Scaling.{lowest_is, abs_signed}
use Rattle.grid_coords.specs.declared.grid.Grid.{Grid}
use Rattle.grid_coords.specs.Units.{decimal_of_units, grid_text, IsNumberAt}

-- an equal text that is appended
pub ok_same : {X E : Type 0} (r : Result X E) (old new t u : List ℕ) → t ≡ u → OnOk r (new ≡ old ++ t) → OnOk r (new ≡ old ++ u)
ok_same (Ok x) old new t u same then = then ∙ ap (λ s. old ++ s) same
ok_same (Err e) old new t u same then = tt

pub lowest_some : (n s : ℕ) → 0 < n → 0 < (lowest n s).0
lowest_some n zero some = some
lowest_some n (suc s) some =
    elim (cases_Bool (eqb (n % 10) 0)) [
      | inl zero_last ↦
          let none = eqb-true (n % 10) 0 zero_last in
          let left : 0 < n / 10 = omega arith in
          rw zero_last (lowest_some (n / 10) s left)
      | inr other_last ↦ rw other_last some
    ]

times_some : (n p : ℕ) → 0 < n → 0 < p → 0 < n * p
times_some n zero some power = absurd (omega arith)
times_some n (suc p) some power = omega arith

five_some : (k : ℕ) → 0 < 5 ^ k
five_some k = one-le-pow k 5 (omega arith)

-- a size has the sign of the number that it comes from
sign_kept : (c : ℤ) (k s : ℕ) → int_lt (signed (int_lt c (pos 0)) (lowest (unsigned_abs c * 5 ^ k) s).0) (pos 0) ≡ int_lt c (pos 0)
sign_kept (pos m) k s = let n = (lowest (m * 5 ^ k) s).0 in rw (le-ltb m 0 (omega arith)) (le-ltb n 0 (omega arith))
sign_kept (negsuc m) k s = below (lowest (suc m * 5 ^ k) s).0 (lowest_some (suc m * 5 ^ k) s (times_some (suc m) (5 ^ k) (omega arith) (five_some k)))
  where
    below : (n : ℕ) → 0 < n → int_lt (signed true n) (pos 0) ≡ true
    below zero some = absurd (omega arith)
    below (suc n) some = refl

-- its text
pub printed : (g : Grid) (c : ℤ) (s : ℕ × ℕ) → lowest (unsigned_abs c * 5 ^ g.halvings) (g.decimals + g.halvings) ≡ s → sign_text (int_lt c (pos 0)) ++ size_text s.0 s.1 ≡ grid_text g c
unfolding decimal_of_units
printed g c s is =
    let low = lowest (unsigned_abs c * 5 ^ g.halvings) (g.decimals + g.halvings) in
    let b = int_lt c (pos 0) in
    sym (ap (λ (t : Bool). sign_text t ++ size_text (unsigned_abs (signed b low.0)) low.1) (sign_kept c g.halvings (g.decimals + g.halvings))
    ∙ ap (λ (n : ℕ). sign_text b ++ size_text n low.1) (abs_signed b low.0)
    ∙ ap (λ (p : ℕ × ℕ). sign_text b ++ size_text p.0 p.1) is)

cancel : (a b n : ℕ) → 0 < n → a * n ≡ b * n → a ≡ b
cancel a b n some e = sym (mul-div_cancel a some) ∙ ap (λ (m : ℕ). m / n) e ∙ mul-div_cancel b some

-- and its number
size_at : (q t n d k : ℕ) → q * 10 ^ (d + k) ≡ n * 5 ^ k * 10 ^ t → q * 10 ^ d * 2 ^ k ≡ n * 10 ^ t
size_at q t n d k is =
    let tens : 10 ^ (d + k) ≡ 10 ^ d * (2 ^ k * 5 ^ k) = pow-add 10 d k ∙ ap (λ (p : ℕ). 10 ^ d * p) (mul-pow 2 5 k) in
    let left : q * 10 ^ d * 2 ^ k * 5 ^ k ≡ q * 10 ^ (d + k) = mul_assoc (q * 10 ^ d) (2 ^ k) (5 ^ k) ∙ mul_assoc q (10 ^ d) (2 ^ k * 5 ^ k) ∙ ap (λ (p : ℕ). q * p) (sym tens) in
    cancel (q * 10 ^ d * 2 ^ k) (n * 10 ^ t) (5 ^ k) (five_some k) (left ∙ is ∙ mul_right_comm n (5 ^ k) (10 ^ t))

pub number_at : (g : Grid) (c : ℤ) → IsNumberAt g c (decimal_of_units g c)
unfolding decimal_of_units
number_at g c =
    let n = unsigned_abs c * 5 ^ g.halvings in
    let s = g.decimals + g.halvings in
    let b = int_lt c (pos 0) in
    let size = abs_signed b (lowest n s).0 in
    record {
      size = ap (λ (m : ℕ). m * 10 ^ g.decimals * 2 ^ g.halvings) size ∙ size_at (lowest n s).0 (lowest n s).1 (unsigned_abs c) g.decimals g.halvings (lowest_is n s);
      sign = ap (signed b) (sym size);
    }
