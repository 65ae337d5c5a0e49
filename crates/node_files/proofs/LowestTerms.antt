-- Fractions in lowest terms.
use Rattle.std.proofs.Common.{◌≡◌, ◌≢◌, ℕ, zero, suc, ◌+◌, ◌-◌, ◌*◌, ◌/◌, ◌%◌, ◌^◌, ◌<◌, ◌≤◌, true, false, eqb, refl, sym, ap, ◌∙◌, arith, inl, inr, unsigned_abs}
use Rattle.std.proofs.lemmas.Bool.{cond-true, cond-false, eqb-true, cases_Bool}
use Rattle.std.proofs.lemmas.Nat.{pow-add, mul-pow, div-add-mod', mul-mod_first}
use Rattle.std.proofs.Math.Nat.{pow-suc, mul_assoc}
use Rattle.node_files.specs.Terms.{divided_out, terms_of, TermsLaw}
use Rattle.node_files.specs.LeastGrid.{units_on, UnitsLaw}

-- a step in which the factor is taken out, and one in which it stays
taken : (b n steps : ℕ) → eqb (n % b) 0 ≡ true → divided_out b n (suc steps) ≡ divided_out b (n / b) steps
taken b n steps is = cond-true _ _ _ is

stays : (b n steps : ℕ) → eqb (n % b) 0 ≡ false → divided_out b n (suc steps) ≡ (n, suc steps)
stays b n steps is = cond-false _ _ _ is

whole : (b n : ℕ) → eqb (n % b) 0 ≡ true → n / b * b ≡ n
whole b n is = let none = eqb-true (n % b) 0 is in omega (arith, div-add-mod' n b)

-- the same number: n / b^steps is the numerator over what is left
abbrev Same : ℕ → ℕ → ℕ → ℕ × ℕ → Type 0
Same b n steps r = n * b ^ r.1 ≡ r.0 * b ^ steps

one_taken : (b n steps m : ℕ) (r : ℕ × ℕ) → m * b ≡ n → Same b m steps r → Same b n (suc steps) r
one_taken b n steps m r is same =
    let p = pow-suc b steps in
    let left : n * b ^ r.1 ≡ m * b ^ r.1 * b = ap (λ (k : ℕ). k * b ^ r.1) (sym is) ∙ omega arith in
    let right : r.0 * b ^ suc steps ≡ r.0 * b ^ steps * b = ap (λ (k : ℕ). r.0 * k) p ∙ omega arith in
    left ∙ ap (λ (k : ℕ). k * b) same ∙ sym right

same_number : (b n steps : ℕ) → Same b n steps (divided_out b n steps)
same_number b n zero = refl
same_number b n (suc steps) =
    elim (cases_Bool (eqb (n % b) 0)) [
      | inl is ↦ rw (taken b n steps is) (one_taken b n steps (n / b) (divided_out b (n / b) steps) (whole b n is) (same_number b (n / b) steps))
      | inr is ↦ rw (stays b n steps is) refl
    ]

-- where a factor is left, the numerator is not divisible
nothing_left : (b n steps : ℕ) → 0 < (divided_out b n steps).1 → (divided_out b n steps).0 % b ≢ 0
nothing_left b n zero = λ some. absurd (omega arith)
nothing_left b n (suc steps) =
    elim (cases_Bool (eqb (n % b) 0)) [
      | inl is ↦ rw (taken b n steps is) (nothing_left b (n / b) steps)
      | inr is ↦ rw (stays b n steps is) (λ some none. let yes : eqb (n % b) 0 ≡ true = rw none refl in absurd (cc))
    ]

-- the numerator divides the number
divides : (b n steps : ℕ) → (k : ℕ) × (n ≡ (divided_out b n steps).0 * k)
divides b n zero = (1, omega arith)
divides b n (suc steps) =
    elim (cases_Bool (eqb (n % b) 0)) [
      | inl is ↦
          let d = divides b (n / b) steps in
          let e = whole b n is in
          let f = d.1 in
          rw (taken b n steps is) (d.0 * b, sym e ∙ ap (λ (k : ℕ). k * b) f ∙ mul_assoc _ _ _)
      | inr is ↦ rw (stays b n steps is) (1, omega arith)
    ]

still_odd : (n m k : ℕ) → n ≡ m * k → n % 2 ≢ 0 → m % 2 ≢ 0
still_odd n m k is odd even = odd (ap (λ (j : ℕ). j % 2) is ∙ sym (mul-mod_first m k 2) ∙ ap (λ (j : ℕ). (j * k) % 2) even ∙ ap (λ (j : ℕ). j % 2) (let z : 0 * k ≡ 0 = omega arith in z))

tens : (k : ℕ) → 10 ^ k ≡ 2 ^ k * 5 ^ k
tens k = mul-pow 2 5 k

pub terms_are : TermsLaw
terms_are d =
    let n = unsigned_abs d.value in
    let odd = divided_out 2 n d.scale in
    let last = divided_out 5 odd.0 d.scale in
    let two = same_number 2 n d.scale in
    let five = same_number 5 odd.0 d.scale in
    let dividing = divides 5 odd.0 d.scale in
    record {
      same = regroup n odd.0 last.0 (2 ^ odd.1) (5 ^ last.1) (2 ^ d.scale) (5 ^ d.scale) (10 ^ d.scale) two five (tens d.scale);
      no_two = λ some. still_odd odd.0 last.0 dividing.0 dividing.1 (nothing_left 2 n d.scale some);
      no_five = nothing_left 5 odd.0 d.scale;
    }
  where
    regroup : (n m l two five all_two all_five all : ℕ) → n * two ≡ m * all_two → m * five ≡ l * all_five → all ≡ all_two * all_five → n * (two * five) ≡ l * all
    regroup n m l two five all_two all_five all e f g =
        let a : n * (two * five) ≡ n * two * five = omega arith in
        let b : m * all_two * five ≡ m * five * all_two = omega arith in
        let c : l * all_five * all_two ≡ l * (all_two * all_five) = omega arith in
        a ∙ ap (λ (k : ℕ). k * five) e ∙ b ∙ ap (λ (k : ℕ). k * all_two) f ∙ c ∙ ap (λ (k : ℕ). l * k) (sym g)

-- powers that are split
split : (b i k : ℕ) → i ≤ k → b ^ k ≡ b ^ i * b ^ (k - i)
split b i k le = let e : k ≡ i + (k - i) = omega arith in ap (λ (j : ℕ). b ^ j) e ∙ pow-add b i (k - i)

pub units_are : UnitsLaw
unfolding units_on
units_are g d five two =
    let t = terms_of d in
    let same = (terms_are d).same in
    let a = split 5 t.fives g.decimals five in
    let b = split 2 t.twos (g.decimals + g.halvings) two in
    let c = pow-add 2 g.decimals g.halvings in
    regroup (unsigned_abs d.value) (10 ^ g.decimals) (2 ^ g.halvings) (2 ^ g.decimals) (5 ^ g.decimals) (2 ^ t.twos) (5 ^ t.fives) (5 ^ (g.decimals - t.fives)) (2 ^ (g.decimals + g.halvings - t.twos)) t.numerator (10 ^ d.scale)
    (tens g.decimals) (sym c ∙ b) a same
  where
    regroup : (n ten half two five twos fives more_five more_two num all : ℕ) → ten ≡ two * five → two * half ≡ twos * more_two → five ≡ fives * more_five → n * (twos * fives) ≡ num * all
        → n * ten * half ≡ num * more_five * more_two * all
    regroup n ten half two five twos fives more_five more_two num all e f h same =
        let a : n * (two * five) * half ≡ n * five * (two * half) = omega arith in
        let b : n * (fives * more_five) * (twos * more_two) ≡ n * (twos * fives) * (more_five * more_two) = omega arith in
        let c : num * all * (more_five * more_two) ≡ num * more_five * more_two * all = omega arith in
        ap (λ (k : ℕ). n * k * half) e ∙ a ∙ ap (λ (k : ℕ). n * k * (two * half)) h ∙ ap (λ (k : ℕ). n * (fives * more_five) * k) f ∙ b ∙ ap (λ (k : ℕ). k * (more_five * more_two)) same ∙ c
