-- The last earlier place with the same ends.
use Rattle.std.proofs.Common.{◌≡◌, ◌≢◌, ◌⊎◌, inl, inr, ℕ, ◌+◌, ◌<◌, Bool, true, false, cond, List, [], ◌∷◌, ◌++◌, length, get_or, refl, ap, sym, ◌∙◌, subst, arith, eqb-true, eq-eqb}
use Rattle.std.specs.Prelude.{◌==◌, ◌&&◌, Option, Some, None}
use Rattle.std.proofs.lemmas.List.{length-append, get_or_push, get_or_append_left}
use Rattle.geo_laws.proofs.Members.{both_true}
use Rattle.merged_facets.specs.FacetSides.{is_alike, ends_at, IsLastBefore, AreEarlierBelow}
use Rattle.merged_facets.specs.declared.sides.FacetSide.{FacetSide}
use Rattle.merged_facets.specs.declared.sides.Ends.{Ends}

pub alike_same : (p q : Ends) → is_alike p q ≡ true → p ≡ q
alike_same p q h = let r = both_true (p.low == q.low) (p.high == q.high) h in λ j. record { low = eqb-true p.low q.low r.0 j; high = eqb-true p.high q.high r.1 j }

pub same_alike : (p q : Ends) → p ≡ q → is_alike p q ≡ true
same_alike p q e = (λ j. eq-eqb p.low q.low (ap (λ (x : Ends). x.low) e) j && eq-eqb p.high q.high (ap (λ (x : Ends). x.high) e) j)

-- a place below i + 1 is below i, or i
below_or_at : (j i : ℕ) → j < i + 1 → (j < i) ⊎ (j ≡ i)
below_or_at j i h = grind arith

-- the place i has other ends
last_passes : (list : List FacetSide) (i : ℕ) (q : Ends) (o : Option ℕ) → ends_at list i ≢ q → IsLastBefore list i q o → IsLastBefore list (i + 1) q o
last_passes list i q None n h = λ j l. go j (below_or_at j i l)
  where
    go : (j : ℕ) → (j < i) ⊎ (j ≡ i) → ends_at list j ≢ q
    go j (inl less) = h j less
    go j (inr e) = λ f. n (ap (ends_at list) (sym e) ∙ f)
last_passes list i q (Some m) n h = (omega (arith, h.0), h.1, λ k l u. go k l (below_or_at k i u))
  where
    go : (k : ℕ) → m < k → (k < i) ⊎ (k ≡ i) → ends_at list k ≢ q
    go k l (inl less) = h.2 k l less
    go k l (inr e) = λ f. n (ap (ends_at list) (sym e) ∙ f)

-- or these
last_is : (list : List FacetSide) (i : ℕ) (q : Ends) → ends_at list i ≡ q → IsLastBefore list (i + 1) q (Some i)
last_is list i q e = (omega arith, e, λ k l u. absurd (omega arith))

-- the last places with each ends, where the place i has the given ones
pub last_more : (list : List FacetSide) (i : ℕ) (key : Ends) (old new : Ends → Option ℕ) → ends_at list i ≡ key → ((q : Ends) → IsLastBefore list i q (old q))
    → ((q : Ends) → new q ≡ cond (is_alike key q) (Some i) (old q)) → (q : Ends) → IsLastBefore list (i + 1) q (new q)
last_more list i key old new e h put q = subst (λ (o : Option ℕ). IsLastBefore list (i + 1) q o) (sym (put q)) (go (is_alike key q) refl)
  where
    clash : (b : Bool) → b ≡ true → b ≡ false → ⊥
    clash b h k = cc

    go : (b : Bool) → is_alike key q ≡ b → IsLastBefore list (i + 1) q (cond b (Some i) (old q))
    go true f = last_is list i q (e ∙ alike_same key q f)
    go false f = last_passes list i q (old q) (λ d. clash (is_alike key q) (same_alike key q (sym e ∙ d)) f) (h q)

-- and what is kept for the places
pub earlier_more : (list : List FacetSide) (i : ℕ) (earlier new : List (Option ℕ)) (o : Option ℕ) → AreEarlierBelow list i earlier → IsLastBefore list i (ends_at list i) o → new ≡ earlier ++ o ∷ []
    → AreEarlierBelow list (i + 1) new
earlier_more list i earlier new o h last is = record {
  long = let e = ap length is ∙ length-append earlier (o ∷ []) in let l = h.long in omega arith;
  last = λ k l. subst (λ (xs : List (Option ℕ)). IsLastBefore list k (ends_at list k) (get_or xs k None)) (sym is) (go k (below_or_at k i l));
}
  where
    go : (k : ℕ) → (k < i) ⊎ (k ≡ i) → IsLastBefore list k (ends_at list k) (get_or (earlier ++ o ∷ []) k None)
    go k (inl less) =
        subst (λ (p : Option ℕ). IsLastBefore list k (ends_at list k) p) (sym (get_or_append_left earlier (o ∷ []) None k (omega (arith, h.long)))) (h.last k less)
    go k (inr e) =
        subst (λ (p : Option ℕ). IsLastBefore list k (ends_at list k) p) (sym (get_or_push earlier o None k (h.long ∙ sym e)))
        (subst (λ (j : ℕ). IsLastBefore list j (ends_at list j) o) (sym e) last)
