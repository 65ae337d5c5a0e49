-- How many of a list pass a test.
use Rattle.std.proofs.Common.{◌≡◌, ℕ, ◌+◌, ◌<◌, ◌≤◌, Bool, true, false, cond, List, [], ◌∷◌, length, get_or, zero, suc, refl, ap, ◌∙◌, arith}
use Rattle.std.specs.Prelude.{count_by}
use Rattle.std.proofs.lemmas.Bool.{false_from_ne_true}
use Rattle.std.proofs.lemmas.List.Sums.{sum_by-cons, get_or-le-sum_by}

count_by-cons : {X : Type 0} (p : X → Bool) (x : X) (xs : List X) → count_by p (x ∷ xs) ≡ cond (p x) 1 0 + count_by p xs
count_by-cons p x xs = sum_by-cons (λ y. cond (p y) 1 0) x xs

none_counted : {X : Type 0} (p : X → Bool) (xs : List X) (d : X) → ((k : ℕ) → k < length xs → p (get_or xs k d) ≡ true → ⊥) → count_by p xs ≡ 0
none_counted p [] d n = refl
none_counted p (x ∷ xs) d n =
    let head : p x ≡ false = false_from_ne_true (p x) (n 0 (omega arith)) in
    count_by-cons p x xs ∙ ap (λ b. cond b 1 0 + count_by p xs) head ∙ ap (λ c. 0 + c) (none_counted p xs d (λ k l. n (suc k) (omega (arith, l))))

-- where one place alone passes
pub one_counted : {X : Type 0} (p : X → Bool) (xs : List X) (i : ℕ) (d : X) → i < length xs → p (get_or xs i d) ≡ true
    → ((k : ℕ) → k < length xs → p (get_or xs k d) ≡ true → k ≡ i) → count_by p xs ≡ 1
one_counted p [] i d h t n = absurd (omega (arith, h))
one_counted p (x ∷ xs) zero d h t n =
    count_by-cons p x xs ∙ ap (λ b. cond b 1 0 + count_by p xs) t ∙ ap (λ c. 1 + c) (none_counted p xs d (λ k l e. omega (arith, n (suc k) (omega (arith, l)) e)))
one_counted p (x ∷ xs) (suc i) d h t n =
    let head : p x ≡ false = false_from_ne_true (p x) (λ e. omega (arith, n 0 (omega arith) e)) in
    count_by-cons p x xs ∙ ap (λ b. cond b 1 0 + count_by p xs) head
    ∙ ap (λ c. 0 + c) (one_counted p xs i d (omega (arith, h)) t (λ k l e. omega (arith, n (suc k) (omega (arith, l)) e)))

-- where two places pass
pub two_counted : {X : Type 0} (p : X → Bool) (xs : List X) (i j : ℕ) (d : X) → i < j → j < length xs → p (get_or xs i d) ≡ true → p (get_or xs j d) ≡ true → 2 ≤ count_by p xs
two_counted p [] i j d l h t u = absurd (omega (arith, h))
two_counted p (x ∷ xs) i zero d l h t u = absurd (omega (arith, l))
two_counted p (x ∷ xs) zero (suc j) d l h t u =
    let as_number : Bool → ℕ = λ b. cond b 1 0 in
    omega (arith, count_by-cons p x xs, ap as_number t, ap as_number u, get_or-le-sum_by (λ y. cond (p y) 1 0) xs j d (omega (arith, h)))
two_counted p (x ∷ xs) (suc i) (suc j) d l h t u = omega (arith, count_by-cons p x xs, two_counted p xs i j d (omega (arith, l)) (omega (arith, h)) t u)
