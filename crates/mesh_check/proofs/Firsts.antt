-- First places, as loops find them.
use Rattle.std.proofs.Common.{◌≡◌, ℕ, ◌+◌, ◌<◌, ◌≤◌, Option, Some, None, refl, sym, subst, arith, inl, inr}
use Rattle.std.specs.Prelude.{min, ◌⊎◌}
use Rattle.std.proofs.lemmas.Bool.{cases_lt}
use Rattle.mesh_check.specs.Defects.{PairBefore}
use Rattle.mesh_check.specs.Searches.{IsLeastOf, IsLeastPair}
use Rattle.mesh_check.specs.Sides.{lesser_of}

-- one more number of which P does not hold
pub none_more : (P : ℕ → Type 0) (i : ℕ) → ((k : ℕ) → k < i → ¬ P k) → ¬ P i → (k : ℕ) → k < i + 1 → ¬ P k
none_more P i before here k lt =
    elim (cases_lt k i) [
      | inl less ↦ before k less
      | inr le ↦ let e : i ≡ k = omega arith in λ h. here (subst P (sym e) h)
    ]

pub none_at_all : (P : ℕ → Type 0) (n : ℕ) → ((k : ℕ) → k < n → ¬ P k) → ((k : ℕ) → P k → k < n) → IsLeastOf P None
none_at_all P n before bound k h = before k (bound k h) h

-- the first pair has this first number
pub pair_here : (R : ℕ → ℕ → Type 0) (i j : ℕ) → ((a b : ℕ) → a < i → ¬ R a b) → R i j → ((k : ℕ) → k < j → ¬ R i k) → IsLeastPair R (Some (i, j))
pair_here R i j before has first = (has, λ a b h. at a b h)
  where
    at : (a b : ℕ) → PairBefore (a, b) (i, j) → ¬ R a b
    at a b (inl lt) = before a b lt
    at a b (inr e) = λ h. first b e.1 (subst (λ (n : ℕ). R n b) e.0 h)

pub pairs_more : (R : ℕ → ℕ → Type 0) (i : ℕ) → ((a b : ℕ) → a < i → ¬ R a b) → ((b : ℕ) → ¬ R i b) → (a b : ℕ) → a < i + 1 → ¬ R a b
pairs_more R i before here a b lt =
    elim (cases_lt a i) [
      | inl less ↦ before a b less
      | inr le ↦ let e : i ≡ a = omega arith in λ h. here b (subst (λ (n : ℕ). R n b) (sym e) h)
    ]

pub no_pair : (R : ℕ → ℕ → Type 0) (n : ℕ) → ((a b : ℕ) → a < n → ¬ R a b) → ((a b : ℕ) → R a b → a < n) → IsLeastPair R None
no_pair R n before bound a b h = before a b (bound a b h) h

-- the first number of which one of two things holds
pub first_of_either : (P Q R : ℕ → Type 0) (o r : Option ℕ) → IsLeastOf P o → IsLeastOf Q r → ((k : ℕ) → R k → P k ⊎ Q k) → ((k : ℕ) → P k → R k) → ((k : ℕ) → Q k → R k) → IsLeastOf R (lesser_of o r)
first_of_either P Q R None None p q split left right = λ k h. elim (split k h) [ inl x ↦ p k x | inr y ↦ q k y ]
first_of_either P Q R None (Some j) p q split left right = (right j q.0, λ k lt h. elim (split k h) [ inl x ↦ p k x | inr y ↦ q.1 k lt y ])
first_of_either P Q R (Some i) None p q split left right = (left i p.0, λ k lt h. elim (split k h) [ inl x ↦ p.1 k lt x | inr y ↦ q k y ])
first_of_either P Q R (Some i) (Some j) p q split left right = (
  elim (cases_lt i j) [
    | inl lt ↦ let e : i ≡ min i j = omega arith in subst R e (left i p.0)
    | inr le ↦ let e : j ≡ min i j = omega arith in subst R e (right j q.0)
  ],
  λ k lt h. elim (split k h) [ inl x ↦ p.1 k (omega arith) x | inr y ↦ q.1 k (omega arith) y ],
)

-- the same thing, said otherwise
pub first_as : (P Q : ℕ → Type 0) (o : Option ℕ) → IsLeastOf P o → ((k : ℕ) → P k → Q k) → ((k : ℕ) → Q k → P k) → IsLeastOf Q o
first_as P Q None first to from = λ k h. first k (from k h)
first_as P Q (Some i) first to from = (to i first.0, λ k lt h. first.1 k lt (from k h))
