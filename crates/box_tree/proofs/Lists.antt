-- One element more of a list, and its members.
use Rattle.std.proofs.Common.{◌≡◌, ◌⊎◌, inl, inr, ℕ, ◌<◌, List, [], ◌∷◌, ◌++◌, length, refl, subst}
use Rattle.std.specs.Prelude.{All, Any, Contains, Result, Ok, Err, IfOk}
use Rattle.std.specs.List.{HoldsAt}
use Rattle.std.specs.Ordering.{nat_cmp, MatchOrdering}
use Rattle.std.specs.declared.cmp.Ordering.{Ordering}
use Rattle.std.specs.declared.cmp.Ordering.TheVariants.{Less, Equal, Greater}
use Rattle.std.proofs.lemmas.Cmp.{ranked}
use Rattle.geo_laws.proofs.Members.{IsMember, here, in_cons, in_append_left, in_append_right, append_cases, contains_of, member_of}

pub less_or_more : (m n : ℕ) → (m < n) ⊎ ((m ≡ n) ⊎ (n < m))
less_or_more m n = at (nat_cmp m n) (ranked m n (nat_cmp m n) refl)
  where
    at : (r : Ordering) → MatchOrdering r (m < n) (m ≡ n) (n < m) → (m < n) ⊎ ((m ≡ n) ⊎ (n < m))
    at Less k = inl k
    at Equal k = inr (inl k)
    at Greater k = inr (inr k)

-- a member of a list with one element more
pub more_cases : {X : Type 0} (x y : X) (xs : List X) → Contains (xs ++ y ∷ []) x → Contains xs x ⊎ (x ≡ y)
more_cases x y xs m = go (append_cases x xs (y ∷ []) (member_of (xs ++ y ∷ []) x m))
  where
    last : (x ≡ y) ⊎ IsMember x [] → x ≡ y
    last (inl e) = e
    last (inr n) = elim n [ ]

    go : IsMember x xs ⊎ IsMember x (y ∷ []) → Contains xs x ⊎ (x ≡ y)
    go (inl m) = inl (contains_of xs x m)
    go (inr n) = inr (last (in_cons x y [] n))

pub in_more : {X : Type 0} (x y : X) (xs : List X) → Contains xs x → Contains (xs ++ y ∷ []) x
in_more x y xs m = contains_of (xs ++ y ∷ []) x (in_append_left x xs (y ∷ []) (member_of xs x m))

pub in_last : {X : Type 0} (x : X) (xs : List X) → Contains (xs ++ x ∷ []) x
in_last x xs = contains_of (xs ++ x ∷ []) x (in_append_right x xs (x ∷ []) here)

-- some member has the property
pub any_of : {X : Type 0} (P : X → Type 0) (xs : List X) (x : X) → Contains xs x → P x → Any P xs
any_of P xs x m p = (m.0, x, m.1, m.2, p)

pub any_member : {X : Type 0} (P : X → Type 0) (xs : List X) (h : Any P xs) → Contains xs h.1
any_member P xs h = (h.0, h.2, h.3)

pub if_ok : {X E : Type 0} {P Q : X → Type 0} (r : Result X E) → ((x : X) → P x → Q x) → IfOk r P → IfOk r Q
if_ok (Ok x) f h = f x h
if_ok (Err e) f h = tt

-- what holds of all holds of the one at a place
pub all_at : {X : Type 0} (P : X → Type 0) (xs : List X) (i : ℕ) (x : X) → All P xs → i < length xs → HoldsAt (λ z. z ≡ x) xs i → P x
all_at P xs i x h l at = subst P (at x) (h i x l)
