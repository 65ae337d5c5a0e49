-- Where the flood that carves begins, as far as one hole point more tells.
use Rattle.std.proofs.Common.{◌≡◌, ◌⊎◌, inl, inr, ℕ, zero, suc, ◌+◌, ◌<◌, Bool, true, false, List, [], ◌∷◌, ◌++◌, length, refl, sym, subst, ◌∙◌, ap, arith}
use Rattle.std.specs.Prelude.{◌↔◌, slice_index_or, take}
use Rattle.sign_predicates.specs.Point.{Point, RationalPoint, origin, as_rational}
use Rattle.geo_laws.specs.declared.faces.Face.{Face}
use Rattle.geo_laws.specs.declared.tetrahedra.Tet.{Tet}
use Rattle.hole_carve.specs.Seeds.{BeginsAt, IsSeedAt}
use Rattle.geo_laws.specs.Marks.{is_marked}

hole_at : List RationalPoint → ℕ → RationalPoint
hole_at holes k = slice_index_or holes k (as_rational origin)

splits : (k n : ℕ) → k < n + 1 → (k < n) ⊎ (k ≡ n)
splits k n h = grind (arith, h)

pub begins_next : (b : Bool) (ps : List Point) (closed : List Face) (rows : List Tet) (holes : List RationalPoint) (n : ℕ) (x : RationalPoint)
    (before after : List Bool)
    → slice_index_or holes n (as_rational origin) ≡ x
    → ((i : ℕ) → (is_marked before i ≡ true) ↔ BeginsAt b ps closed rows holes n i)
    → ((i : ℕ) → (is_marked after i ≡ true) ↔ ((is_marked before i ≡ true) ⊎ IsSeedAt ps closed rows x i))
    → (i : ℕ) → (is_marked after i ≡ true) ↔ BeginsAt b ps closed rows holes (n + 1) i
begins_next b ps closed rows holes n x before after e was now i = (λ m. there ((now i).0 m), λ m. (now i).1 (back m))
  where
    more : BeginsAt b ps closed rows holes n i → BeginsAt b ps closed rows holes (n + 1) i
    more (inl h) = inl h
    more (inr (k, h, s)) = inr (k, omega arith, s)

    there : (is_marked before i ≡ true) ⊎ IsSeedAt ps closed rows x i → BeginsAt b ps closed rows holes (n + 1) i
    there (inl m) = more ((was i).0 m)
    there (inr s) = inr (n, omega arith, subst (λ y. IsSeedAt ps closed rows y i) (sym e) s)

    at_last : (k : ℕ) → (k < n) ⊎ (k ≡ n) → IsSeedAt ps closed rows (slice_index_or holes k (as_rational origin)) i → (is_marked before i ≡ true) ⊎ IsSeedAt ps closed rows x i
    at_last k (inl h) s = inl ((was i).1 (inr (k, h, s)))
    at_last k (inr h) s = inr (subst (λ y. IsSeedAt ps closed rows y i) (ap (λ m. slice_index_or holes m (as_rational origin)) h ∙ e) s)

    back : BeginsAt b ps closed rows holes (n + 1) i → (is_marked before i ≡ true) ⊎ IsSeedAt ps closed rows x i
    back (inl h) = inl ((was i).1 (inl h))
    back (inr (k, h, s)) = at_last k (splits k n h) s

pub begins_none : (b : Bool) (ps : List Point) (closed : List Face) (rows : List Tet) (holes : List RationalPoint)
    (before : List Bool)
    → ((i : ℕ) → (is_marked before i ≡ true) ↔ ((b ≡ false) × (i ≡ length rows)))
    → (i : ℕ) → (is_marked before i ≡ true) ↔ BeginsAt b ps closed rows holes 0 i
begins_none b ps closed rows holes before was i = (λ m. inl ((was i).0 m), λ m. (was i).1 (only m))
  where
    only : BeginsAt b ps closed rows holes 0 i → (b ≡ false) × (i ≡ length rows)
    only (inl h) = h
    only (inr (k, h, s)) = absurd (omega arith)

-- where as many marks as there are rows and one more are those at which floods begin
pub record AreBegun (b : Bool) (ps : List Point) (closed : List Face) (rows : List Tet) (holes : List RationalPoint) (n : ℕ) (marks : List Bool) : Type 0 where
  pub long : length marks ≡ length rows + 1
  pub marked : (i : ℕ) → (is_marked marks i ≡ true) ↔ BeginsAt b ps closed rows holes n i

pub front_of : {A : Type 0} (xs zs : List A) (n : ℕ) → n ≡ length xs → take n (xs ++ zs) ≡ xs
front_of [] zs zero h = refl
front_of [] zs (suc n) h = absurd (omega arith)
front_of (x ∷ xs) zs zero h = absurd (omega arith)
front_of (x ∷ xs) zs (suc n) h = ap (λ s. x ∷ s) (front_of xs zs n (omega arith))

-- what holds of the elements holds of the list that they were written into
pub written : {A : Type 0} (P : List A → Type 0) (xs zs : List A) (n : ℕ) → n ≡ length xs → P xs → P (take n (xs ++ zs))
written P xs zs n h p = subst P (sym (front_of xs zs n h)) p
