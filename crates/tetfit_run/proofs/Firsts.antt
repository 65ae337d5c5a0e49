-- The first element of a list that passes a test.
use Rattle.std.proofs.Common.{◌≡◌, ℕ, ◌<◌, ◌≤◌, true, false, List, length, get_or, position, Some, None, cond, sym, ap, ◌∙◌, arith}
use Rattle.std.specs.Prelude.{Bool, nat_lt}
use Rattle.std.proofs.lemmas.Bool.{cond-true, cond-false, lt-ltb, le-ltb}
use Rattle.std.proofs.lemmas.List.Sums.{position_or_len_is}

-- it is at i, where none before it passes
pub first_at : {X : Type 0} (p : X → Bool) (xs : List X) (i : ℕ) (d : X) → i < length xs → ((k : ℕ) → k < i → p (get_or xs k d) ≡ false) → p (get_or xs i d) ≡ true
    → Some i ≡ position p xs
first_at p xs i d lt fails passes =
    let le : i ≤ length xs = omega arith in
    let at = position_or_len_is p xs i d le fails (λ h. passes) in
    sym (ap (λ n. cond (nat_lt n (length xs)) (Some n) None) at ∙ cond-true _ (Some i) None (lt-ltb i (length xs) lt))

-- there is none, where none passes
pub none_at : {X : Type 0} (p : X → Bool) (xs : List X) (n : ℕ) (d : X) → length xs ≤ n → ((k : ℕ) → k < n → p (get_or xs k d) ≡ false) → None ≡ position p xs
none_at p xs n d le fails =
    let all : (k : ℕ) → k < length xs → p (get_or xs k d) ≡ false = λ k lt. fails k (omega arith) in
    let self : length xs ≤ length xs = omega arith in
    let at = position_or_len_is p xs (length xs) d self all (λ h. absurd (omega arith)) in
    sym (ap (λ n. cond (nat_lt n (length xs)) (Some n) None) at ∙ cond-false _ (Some (length xs)) None (le-ltb (length xs) (length xs) self))
