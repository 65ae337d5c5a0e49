-- Counts of a list's items, one item after another.
use Rattle.std.proofs.Common.{◌≡◌, ℕ, ◌+◌, ◌<◌, Bool, true, false, List, length, take, subst, ap, ◌∙◌, arith}
use Rattle.std.specs.List.{enumerate_from}
use Rattle.std.specs.Prelude.{All, HoldsAt, count_by}
use Rattle.std.proofs.lemmas.List.{take_all}
use Rattle.std.proofs.lemmas.List.FromFn.{length-enumerate_from, get_or-enumerate_from}
use Rattle.std.proofs.lemmas.List.Sums.{count_by_more_yes, count_by_more_no}

pub all_at : {X : Type 0} (P : X → Type 0) (xs : List X) (i : ℕ) (x : X) → All P xs → i < length xs → HoldsAt (λ z. z ≡ x) xs i → P x
all_at P xs i x h l is = subst P (is x) (h i x l)

pub count_yes : {X : Type 0} (p : X → Bool) (xs : List X) (i : ℕ) (x : X) → i < length xs → HoldsAt (λ z. z ≡ x) xs i → p x ≡ true → count_by p (take (i + 1) xs) ≡ count_by p (take i xs) + 1
count_yes p xs i x l is passes = count_by_more_yes p xs i x l (ap p (is x) ∙ passes)

pub count_no : {X : Type 0} (p : X → Bool) (xs : List X) (i : ℕ) (x : X) → i < length xs → HoldsAt (λ z. z ≡ x) xs i → p x ≡ false → count_by p (take (i + 1) xs) ≡ count_by p (take i xs)
count_no p xs i x l is fails = count_by_more_no p xs i x l (ap p (is x) ∙ fails)

-- the item at a place of a list, with the place
numbered_at : {X : Type 0} (xs : List X) (i : ℕ) (x : X) → i < length xs → HoldsAt (λ z. z ≡ x) xs i → HoldsAt (λ z. z ≡ (i, x)) (enumerate_from 0 xs) i
numbered_at xs i x l is =
    let from : 0 + i ≡ i = omega arith in
    λ d. get_or-enumerate_from 0 xs i d l ∙ (λ t. (from t, is d.1 t))

numbered_within : {X : Type 0} (xs : List X) (i : ℕ) → i < length xs → i < length (enumerate_from 0 xs)
numbered_within xs i l = omega (arith, l, length-enumerate_from 0 xs)

pub numbered_yes : {X : Type 0} (p : ℕ × X → Bool) (xs : List X) (i : ℕ) (x : X) → i < length xs → HoldsAt (λ z. z ≡ x) xs i → p (i, x) ≡ true
    → count_by p (take (i + 1) (enumerate_from 0 xs)) ≡ count_by p (take i (enumerate_from 0 xs)) + 1
numbered_yes p xs i x l is passes = count_yes p (enumerate_from 0 xs) i (i, x) (numbered_within xs i l) (numbered_at xs i x l is) passes

pub numbered_no : {X : Type 0} (p : ℕ × X → Bool) (xs : List X) (i : ℕ) (x : X) → i < length xs → HoldsAt (λ z. z ≡ x) xs i → p (i, x) ≡ false
    → count_by p (take (i + 1) (enumerate_from 0 xs)) ≡ count_by p (take i (enumerate_from 0 xs))
numbered_no p xs i x l is fails = count_no p (enumerate_from 0 xs) i (i, x) (numbered_within xs i l) (numbered_at xs i x l is) fails

-- all of a list are counted at its end
pub numbered_all : {X : Type 0} (p : ℕ × X → Bool) (xs : List X) (i : ℕ) → i ≡ length xs → count_by p (take i (enumerate_from 0 xs)) ≡ count_by p (enumerate_from 0 xs)
numbered_all p xs i e = ap (count_by p) (take_all i (enumerate_from 0 xs) (omega (arith, e, length-enumerate_from 0 xs)))
