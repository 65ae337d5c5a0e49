-- Numbers times powers, within a limit.
use Rattle.std.proofs.Common.{◌≡◌, ℕ, suc, ◌+◌, ◌-◌, ◌*◌, ◌^◌, ◌<◌, ◌≤◌, Some, None, sym, ap, ◌∙◌, arith, inl, inr}
use Rattle.std.specs.Prelude.{option_and_then, unsigned_abs}
use Rattle.tet_text.specs.Decimals.{Scaled}
use Rattle.std.proofs.lemmas.Bool.{cond-true, cond-false, le-leb, lt-leb, cases_lt}
use Rattle.std.proofs.lemmas.Nat.{pow-add}
use Rattle.std.proofs.Math.Nat.{pow-suc, mul_assoc, le-mul_of_pos_right, one-le-pow}
use Rattle.grid_coords.specs.Units.{if_at_most, units}

pub within_some : (most n : ℕ) → n ≤ most → if_at_most most n ≡ Some n
within_some most n le = cond-true _ _ _ (le-leb n most le)

pub within_none : (most n : ℕ) → most < n → if_at_most most n ≡ None
within_none most n lt = cond-false _ _ _ (lt-leb n most lt)

pub within_nothing : (most b k : ℕ) → if_at_most most (0 * b ^ k) ≡ Some 0
within_nothing most b k = let e : 0 * b ^ k ≡ 0 = omega arith in ap (if_at_most most) e ∙ within_some most 0 (omega arith)

pub pow_some : (b k : ℕ) → 1 ≤ b → 1 ≤ b ^ k
pow_some b k le = one-le-pow k b le

pub times_more : (n b k : ℕ) → n * b ^ (k + 1) ≡ n * b ^ k * b
times_more n b k =
    let e : k + 1 ≡ suc k = omega arith in
    ap (λ (j : ℕ). n * b ^ j) e ∙ ap (λ (p : ℕ). n * p) (pow-suc b k) ∙ sym (mul_assoc n (b ^ k) b)

-- a product that is over the limit stays over it
pub within_passed : (most n b i k p : ℕ) → 1 ≤ b → p ≡ n * b ^ i → most < p → i ≤ k → if_at_most most (n * b ^ k) ≡ None
within_passed most n b i k p base is over le =
    let steps : k ≡ i + (k - i) = omega arith in
    let e : n * b ^ k ≡ n * b ^ i * b ^ (k - i) = ap (λ (j : ℕ). n * b ^ j) steps ∙ ap (λ (q : ℕ). n * q) (pow-add b i (k - i)) ∙ sym (mul_assoc n (b ^ i) (b ^ (k - i))) in
    let grows : n * b ^ i ≤ n * b ^ i * b ^ (k - i) = le-mul_of_pos_right (n * b ^ i) (pow_some b (k - i) base) in
    within_none most (n * b ^ k) (omega arith)

-- a product in two steps
pub within_twice : (most n b : ℕ) → 1 ≤ b → option_and_then (λ m. if_at_most most (m * b)) (if_at_most most n) ≡ if_at_most most (n * b)
within_twice most n b some =
    elim (cases_lt most n) [
      | inl over ↦
          let grows : n ≤ n * b = le-mul_of_pos_right n some in
          ap (option_and_then (λ m. if_at_most most (m * b))) (within_none most n over) ∙ sym (within_none most (n * b) (omega arith))
      | inr le ↦ ap (option_and_then (λ m. if_at_most most (m * b))) (within_some most n le)
    ]

-- the units of a number, first its tens and then its halvings
pub units_none : (most decimals halvings : ℕ) (d : Scaled) → if_at_most most (unsigned_abs d.value * 10 ^ (decimals - d.scale)) ≡ None → if_at_most most (units decimals halvings d) ≡ None
unfolding units
units_none most decimals halvings d none =
    sym (within_twice most (unsigned_abs d.value * 10 ^ (decimals - d.scale)) (2 ^ halvings) (pow_some 2 halvings (omega arith))) ∙ ap (option_and_then (λ m. if_at_most most (m * 2 ^ halvings))) none

pub units_some : (most decimals halvings m : ℕ) (d : Scaled) → if_at_most most (unsigned_abs d.value * 10 ^ (decimals - d.scale)) ≡ Some m → if_at_most most (units decimals halvings d) ≡ if_at_most most (m * 2 ^ halvings)
unfolding units
units_some most decimals halvings m d some =
    sym (within_twice most (unsigned_abs d.value * 10 ^ (decimals - d.scale)) (2 ^ halvings) (pow_some 2 halvings (omega arith))) ∙ ap (option_and_then (λ m. if_at_most most (m * 2 ^ halvings))) some

pub tens_are : (most decimals size steps : ℕ) (d : Scaled) → size ≡ unsigned_abs d.value → steps ≡ decimals - d.scale → if_at_most most (size * 10 ^ steps) ≡ if_at_most most (unsigned_abs d.value * 10 ^ (decimals - d.scale))
tens_are most decimals size steps d size-is steps-is = ap (λ (n : ℕ). if_at_most most (n * 10 ^ steps)) size-is ∙ ap (λ (k : ℕ). if_at_most most (unsigned_abs d.value * 10 ^ k)) steps-is

pub over_within : (most n : ℕ) → if_at_most most n ≡ None → most < n
over_within most n none =
    elim (cases_lt most n) [
      | inl over ↦ over
      | inr le ↦ let some = within_some most n le in absurd (cc)
    ]

pub kept_within : (most n m : ℕ) → if_at_most most n ≡ Some m → (n ≡ m) × (m ≤ most)
kept_within most n m some =
    elim (cases_lt most n) [
      | inl over ↦ let none = within_none most n over in absurd (cc)
      | inr le ↦ let same = within_some most n le in let e : n ≡ m = cc in (e, omega arith)
    ]
