-- The first place of a list, with its number, that passes a test.
use Rattle.std.proofs.Common.{◌≡◌, ℕ, ◌+◌, ◌<◌, Bool, true, false, cond, List, [], ◌∷◌, length, get_or, Some, None, zero, suc, refl, sym, subst, ap, ◌∙◌, add-zero, arith, rules}
use Rattle.std.specs.Prelude.{Option, find, option_map, IfSome}
use Rattle.std.specs.List.{enumerate_from}

-- the place after n and one more
next : (n k : ℕ) → n + suc k ≡ (n + 1) + k
next n k = omega arith

pub first_is : {X : Type 0} (p : ℕ × X → Bool) (n j : ℕ) (xs : List X) (d : X) → j < length xs → p (n + j, get_or xs j d) ≡ true
    → ((k : ℕ) → k < j → p (n + k, get_or xs k d) ≡ false) → option_map (λ r. r.0) (find p (enumerate_from n xs)) ≡ Some (n + j)
first_is p n j [] d h t b = absurd (omega (arith, h))
first_is p n zero (x ∷ xs) d h t b =
    let e : p (n, x) ≡ true = subst (λ m. p (m, x) ≡ true) (add-zero n) t in
    ap (λ c. option_map (λ r. r.0) (cond c (Some (n, x)) (find p (enumerate_from (n + 1) xs)))) e ∙ ap Some (sym (add-zero n))
first_is {X} p n (suc j) (x ∷ xs) d h t b =
    let e : p (n, x) ≡ false = subst (λ m. p (m, x) ≡ false) (add-zero n) (b 0 (omega arith)) in
    let P : Bool → ℕ → ℕ → Type 0 = λ v m k. p (m, get_or xs k d) ≡ v in
    ap (λ c. option_map (λ r. r.0) (cond c (Some (n, x)) (find p (enumerate_from (n + 1) xs)))) e
    ∙ first_is p (n + 1) j xs d (omega (arith, h)) (subst (λ m. P true m j) (next n j) t) (λ k l. subst (λ m. P false m k) (next n k) (b (suc k) (omega (arith, l))))
    ∙ ap Some (sym (next n j))

pub first_is_none : {X : Type 0} (p : ℕ × X → Bool) (n : ℕ) (xs : List X) (d : X)
    → ((k : ℕ) → k < length xs → p (n + k, get_or xs k d) ≡ false) → option_map (λ r. r.0) (find p (enumerate_from n xs)) ≡ None
first_is_none p n [] d b = refl
first_is_none p n (x ∷ xs) d b =
    let e : p (n, x) ≡ false = subst (λ m. p (m, x) ≡ false) (add-zero n) (b 0 (omega arith)) in
    ap (λ c. option_map (λ r. r.0) (cond c (Some (n, x)) (find p (enumerate_from (n + 1) xs)))) e
    ∙ first_is_none p (n + 1) xs d (λ k l. subst (λ m. p (m, get_or xs k d) ≡ false) (next n k) (b (suc k) (omega (arith, l))))

pub first_within : {X : Type 0} (p : ℕ × X → Bool) (n : ℕ) (xs : List X) → IfSome (option_map (λ r. r.0) (find p (enumerate_from n xs))) (λ i. i < n + length xs)
first_within p n [] = search rules
first_within {X} p n (x ∷ xs) = at (p (n, x)) (subst (λ m. IfSome later (λ i. i < m)) (sym (next n (length xs))) (first_within p (n + 1) xs))
  where
    rest : Option (ℕ × X)
    rest = find p (enumerate_from (n + 1) xs)

    later : Option ℕ
    later = option_map (λ r. r.0) rest

    at : (b : Bool) → IfSome later (λ i. i < n + suc (length xs)) → IfSome (option_map (λ r. r.0) (cond b (Some (n, x)) rest)) (λ i. i < n + suc (length xs))
    at true h = omega arith
    at false h = h
