-- A walk that rises with each step, through a finite list, ends.
use Rattle.std.proofs.Common.{◌≡◌, ◌⊎◌, inl, inr, ℕ, zero, suc, ◌≤◌, List, [], ◌∷◌, length, refl, ap, arith, subst}
use Rattle.geo_laws.proofs.Members.{IsMember, here, there}

-- the list without one of its members
remove : {A : Type 0} (y : A) (xs : List A) → IsMember y xs → List A
remove y [] m = elim m [ ]
remove y (x ∷ xs) here = xs
remove y (x ∷ xs) (there m) = x ∷ remove y xs m

length-remove : {A : Type 0} (y : A) (xs : List A) → (m : IsMember y xs) → suc (length (remove y xs m)) ≡ length xs
unfolding remove
length-remove y [] m = elim m [ ]
length-remove y (x ∷ xs) here = refl
length-remove y (x ∷ xs) (there m) = ap suc (length-remove y xs m)

in_remove : {A : Type 0} (y z : A) (xs : List A) → (m : IsMember y xs) → IsMember z xs → (z ≡ y) ⊎ IsMember z (remove y xs m)
unfolding remove
in_remove y z [] m k = elim m [ ]
in_remove y z (x ∷ xs) here here = inl refl
in_remove y z (x ∷ xs) here (there k) = inr k
in_remove y z (x ∷ xs) (there m) here = inr here
in_remove y z (x ∷ xs) (there m) (there k) = go (in_remove y z xs m k)
  where
    go : (z ≡ y) ⊎ IsMember z (remove y xs m) → (z ≡ y) ⊎ IsMember z (x ∷ remove y xs m)
    go (inl e) = inl e
    go (inr h) = inr (there h)

-- Where each good one is reached or rises to another good one, from which it would be reached, each is reached
module _ (A : Type 0) (rises : A → A → Type 0) (Good Reached : A → Type 0)
    (trans : (x y z : A) → Good x → Good y → Good z → rises x y → rises y z → rises x z)
    (never : (x : A) → rises x x → ⊥)
    (step : (x : A) → Good x → Reached x ⊎ ((y : A) × Good y × rises x y × (Reached y → Reached x))) where
  pub climb : (n : ℕ) (xs : List A) → length xs ≤ n → (x : A) → Good x → ((y : A) → Good y → rises x y → IsMember y xs) → Reached x
  climb zero xs l x g all = go (step x g)
    where
      empty : (ys : List A) → length ys ≤ 0 → (y : A) → IsMember y ys → ⊥
      empty [] h y m = elim m [ ]
      empty (z ∷ ys) h y m = omega arith

      go : Reached x ⊎ ((y : A) × Good y × rises x y × (Reached y → Reached x)) → Reached x
      go (inl r) = r
      go (inr s) = absurd (empty xs l s.0 (all s.0 s.1 s.2))
  climb (suc n) xs l x g all = go (step x g) (climb n)
    where
      go : Reached x ⊎ ((y : A) × Good y × rises x y × (Reached y → Reached x))
          → ((ys : List A) → length ys ≤ n → (y : A) → Good y → ((z : A) → Good z → rises y z → IsMember z ys) → Reached y) → Reached x
      go (inl r) rest = r
      go (inr s) rest =
          let m = all s.0 s.1 s.2 in
          s.3 (rest (remove s.0 xs m) (let e = length-remove s.0 xs m in omega arith) s.0 s.1
          (λ z k r. kept z k r m (in_remove s.0 z xs m (all z k (trans x s.0 z g s.1 k s.2 r)))))
        where
          kept : (z : A) → Good z → rises s.0 z → (m : IsMember s.0 xs) → (z ≡ s.0) ⊎ IsMember z (remove s.0 xs m) → IsMember z (remove s.0 xs m)
          kept z k r m (inl e) = absurd (never s.0 (subst (λ q. rises s.0 q) e r))
          kept z k r m (inr h) = h
