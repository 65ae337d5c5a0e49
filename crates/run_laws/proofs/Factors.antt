-- How many factors 2 and 5 can be left below a number that is whole on a grid.
use Rattle.std.proofs.Common.{◌≡◌, ◌≢◌, ℕ, zero, suc, ◌+◌, ◌-◌, ◌*◌, ◌/◌, ◌%◌, ◌^◌, ◌<◌, ◌≤◌, sym, ap, ◌∙◌, arith, inl, inr}
use Rattle.std.proofs.lemmas.Bool.{cases_lt}
use Rattle.std.proofs.lemmas.Nat.{pow-add}
use Rattle.std.proofs.Math.Nat.{pow-suc, mul-div_cancel, one-le-pow}

pub power_some : (b k : ℕ) → 0 < b → 0 < b ^ k
power_some b k h = one-le-pow k b h

pub cancel : (a b n : ℕ) → 0 < n → a * n ≡ b * n → a ≡ b
cancel a b n some e = sym (mul-div_cancel a some) ∙ ap (λ (m : ℕ). m / n) e ∙ mul-div_cancel b some

-- a power is split
pub split : (b i k : ℕ) → i ≤ k → b ^ k ≡ b ^ i * b ^ (k - i)
split b i k le = let e : k ≡ i + (k - i) = omega arith in ap (λ (j : ℕ). b ^ j) e ∙ pow-add b i (k - i)

more : (b k : ℕ) → b ^ suc k ≡ b ^ k * b
more b k = pow-suc b k

-- ---- no factor comes in by the other base

not_by_two : (m : ℕ) → (m * 2) % 5 ≡ 0 → m % 5 ≡ 0
not_by_two m e = omega arith

not_by_five : (m : ℕ) → (m * 5) % 2 ≡ 0 → m % 2 ≡ 0
not_by_five m e = omega arith

no_five : (n k : ℕ) → n % 5 ≢ 0 → (n * 2 ^ k) % 5 ≢ 0
no_five n zero h e = h (ap (λ (m : ℕ). m % 5) (let one : n ≡ n * 1 = omega arith in one) ∙ e)
no_five n (suc k) h e =
    let same : n * 2 ^ suc k ≡ n * 2 ^ k * 2 = ap (λ (m : ℕ). n * m) (more 2 k) ∙ (let r : n * (2 ^ k * 2) ≡ n * 2 ^ k * 2 = omega arith in r) in
    no_five n k h (not_by_two (n * 2 ^ k) (sym (ap (λ (m : ℕ). m % 5) same) ∙ e))

no_two : (n k : ℕ) → n % 2 ≢ 0 → (n * 5 ^ k) % 2 ≢ 0
no_two n zero h e = h (ap (λ (m : ℕ). m % 2) (let one : n ≡ n * 1 = omega arith in one) ∙ e)
no_two n (suc k) h e =
    let same : n * 5 ^ suc k ≡ n * 5 ^ k * 5 = ap (λ (m : ℕ). n * m) (more 5 k) ∙ (let r : n * (5 ^ k * 5) ≡ n * 5 ^ k * 5 = omega arith in r) in
    no_two n k h (not_by_five (n * 5 ^ k) (sym (ap (λ (m : ℕ). m % 2) same) ∙ e))

even : (m : ℕ) → (m * 2) % 2 ≡ 0
even m = omega arith

fifth : (m : ℕ) → (m * 5) % 5 ≡ 0
fifth m = omega arith

-- ---- c units of 1 / (2^a × 5^b) are n / (2^t × 5^f), in lowest terms

abbrev pub IsWhole : ℕ → ℕ → ℕ → ℕ → ℕ → ℕ → Type 0
IsWhole c n t f a b = c * (2 ^ t * 5 ^ f) ≡ n * (2 ^ a * 5 ^ b)

pub twos_within : (c n t f a b : ℕ) → IsWhole c n t f a b → (0 < t → n % 2 ≢ 0) → t ≤ a
twos_within c n t f a b whole odd =
    elim (cases_lt a t) [
      | inr le ↦ le
      | inl lt ↦
          let r = t - suc a in
          let some : 0 < t = omega arith in
          let is : t ≡ a + suc r = omega arith in
          let power : 2 ^ t ≡ 2 ^ a * (2 ^ r * 2) = ap (λ (j : ℕ). 2 ^ j) is ∙ pow-add 2 a (suc r) ∙ ap (λ (m : ℕ). 2 ^ a * m) (more 2 r) in
          let left : c * (2 ^ t * 5 ^ f) ≡ c * 2 ^ r * 5 ^ f * 2 * 2 ^ a = ap (λ (m : ℕ). c * (m * 5 ^ f)) power ∙ regroup c (2 ^ a) (2 ^ r) (5 ^ f) in
          let right : n * (2 ^ a * 5 ^ b) ≡ n * 5 ^ b * 2 ^ a = omega arith in
          let e = cancel (c * 2 ^ r * 5 ^ f * 2) (n * 5 ^ b) (2 ^ a) (power_some 2 a (omega arith)) (sym left ∙ whole ∙ right) in
          absurd (no_two n b (odd some) (ap (λ (m : ℕ). m % 2) (sym e) ∙ even (c * 2 ^ r * 5 ^ f)))
    ]
  where
    regroup : (c a r f : ℕ) → c * (a * (r * 2) * f) ≡ c * r * f * 2 * a
    regroup c a r f = omega arith

pub fives_within : (c n t f a b : ℕ) → IsWhole c n t f a b → (0 < f → n % 5 ≢ 0) → f ≤ b
fives_within c n t f a b whole prime =
    elim (cases_lt b f) [
      | inr le ↦ le
      | inl lt ↦
          let r = f - suc b in
          let some : 0 < f = omega arith in
          let is : f ≡ b + suc r = omega arith in
          let power : 5 ^ f ≡ 5 ^ b * (5 ^ r * 5) = ap (λ (j : ℕ). 5 ^ j) is ∙ pow-add 5 b (suc r) ∙ ap (λ (m : ℕ). 5 ^ b * m) (more 5 r) in
          let left : c * (2 ^ t * 5 ^ f) ≡ c * 2 ^ t * 5 ^ r * 5 * 5 ^ b = ap (λ (m : ℕ). c * (2 ^ t * m)) power ∙ regroup c (2 ^ t) (5 ^ b) (5 ^ r) in
          let right : n * (2 ^ a * 5 ^ b) ≡ n * 2 ^ a * 5 ^ b = omega arith in
          let e = cancel (c * 2 ^ t * 5 ^ r * 5) (n * 2 ^ a) (5 ^ b) (power_some 5 b (omega arith)) (sym left ∙ whole ∙ right) in
          absurd (no_five n a (prime some) (ap (λ (m : ℕ). m % 5) (sym e) ∙ fifth (c * 2 ^ t * 5 ^ r)))
    ]
  where
    regroup : (c t b r : ℕ) → c * (t * (b * (r * 5))) ≡ c * t * r * 5 * b
    regroup c t b r = omega arith

-- so many units they are on the grid, and so many on a coarser one that holds the number
pub units_between : (c n t f a b x y : ℕ) → IsWhole c n t f a b → t ≤ x → x ≤ a → f ≤ y → y ≤ b → c ≡ n * 5 ^ (y - f) * 2 ^ (x - t) * (5 ^ (b - y) * 2 ^ (a - x))
units_between c n t f a b x y whole tx xa fy yb =
    let two : 2 ^ a ≡ 2 ^ t * 2 ^ (x - t) * 2 ^ (a - x) = split 2 x a xa ∙ ap (λ (m : ℕ). m * 2 ^ (a - x)) (split 2 t x tx) in
    let five : 5 ^ b ≡ 5 ^ f * 5 ^ (y - f) * 5 ^ (b - y) = split 5 y b yb ∙ ap (λ (m : ℕ). m * 5 ^ (b - y)) (split 5 f y fy) in
    let e = whole ∙ ap (λ (m : ℕ). n * (m * 5 ^ b)) two ∙ ap (λ (m : ℕ). n * (2 ^ t * 2 ^ (x - t) * 2 ^ (a - x) * m)) five ∙ regroup n (2 ^ t) (2 ^ (x - t)) (2 ^ (a - x)) (5 ^ f) (5 ^ (y - f)) (5 ^ (b - y)) in
    cancel c (n * 5 ^ (y - f) * 2 ^ (x - t) * (5 ^ (b - y) * 2 ^ (a - x))) (2 ^ t * 5 ^ f) (both (2 ^ t) (5 ^ f) (power_some 2 t (omega arith)) (power_some 5 f (omega arith))) e
  where
    regroup : (n t u v f g h : ℕ) → n * (t * u * v * (f * g * h)) ≡ n * g * u * (h * v) * (t * f)
    regroup n t u v f g h = omega arith

    both : (m n : ℕ) → 0 < m → 0 < n → 0 < m * n
    both zero n h k = absurd (omega arith)
    both (suc m) n h k = omega arith
