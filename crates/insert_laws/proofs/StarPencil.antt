-- The rows of a new point p on one face, by what stands on the two sides of the face before.
use Rattle.std.proofs.Common.{◌≡◌, ◌≢◌, ◌⊎◌, inl, inr, ℕ, ℤ, pos, neg_ℤ, ◌+ℤ◌, ◌*ℤ◌, ◌<ℤ◌, ◌≤ℤ◌, List, arith, refl, ap, sym, subst, ◌∙◌}
use Rattle.std.proofs.lemmas.Int.{ints}
use Rattle.exact_algebra.proofs.Signs.{sign_of}
use Rattle.geo_laws.proofs.Lexicographic.{IsLexAbove, lex_scale, above_add}
use Rattle.geo_laws.specs.OrientedFace.{Face, IsOther}
use Rattle.insert_laws.proofs.Identities.{solve-under, solve-over, solve-low, solve-side}
use Rattle.geo_laws.proofs.Lexicographic.{IsLexBelow, not_both, above_below, sum_first, sum_second, factor_above}
use Rattle.insert_laws.proofs.Pencil.{IsSet, IsPencil, IsLow, IsLowUnder, IsBare, IsBareUnder, IsFirst, above_not_zero, below_not_zero, at_least, neg_zero_at_least, apart_sides, below_of, low_at_least, under_at_most, not_opposite, turned, first_of, neighbor, low_unique, under_unique}

-- S and p
abbrev pub With : (ℕ → Type 0) → ℕ → ℕ → Type 0
With S p e = (e ≡ p) ⊎ S e

-- on the positive side of the face stands a row that doesn't have p above, or there is no row and p sees the face from there
pub data IsCavityOver (f : Face) (s : ℕ → ℤ) (g : ℕ → ℕ → ℕ → ℤ) (ks : List ℕ) (S : ℕ → Type 0) (p : ℕ) : Type 0 where
  over_row : (o : ℕ) → IsLow f s g ks S o → IsLexBelow (g o p) ks → IsCavityOver f s g ks S p
  over_ghost : IsBare s S → (a : ℕ) → IsLowUnder f s g ks S a → (pos 0 <ℤ s p) ⊎ ((s p ≡ pos 0) × IsLexAbove (g a p) ks) → IsCavityOver f s g ks S p

-- on the other side stands a row that has p above, or there is no row and p doesn't see the face from there
pub data IsClearUnder (f : Face) (s : ℕ → ℤ) (g : ℕ → ℕ → ℕ → ℤ) (ks : List ℕ) (S : ℕ → Type 0) (p : ℕ) : Type 0 where
  under_row : (a : ℕ) → IsLowUnder f s g ks S a → IsLexBelow (g a p) ks → IsClearUnder f s g ks S p
  under_ghost : IsBareUnder s S → (o : ℕ) → IsLow f s g ks S o → ¬ ((pos 0 <ℤ neg_ℤ (s p)) ⊎ ((s p ≡ pos 0) × IsLexBelow (g o p) ks)) → IsClearUnder f s g ks S p

-- ---- from the two places to the row

-- points on the positive side and on the plane, from the row there
over_part : {f : Face} {s : ℕ → ℤ} {g : ℕ → ℕ → ℕ → ℤ} {ks : List ℕ} {n : ℕ} {S : ℕ → Type 0} → IsPencil f s g ks n → (p o : ℕ) → IsLow f s g ks S o → IsLexBelow (g o p) ks → pos 0 <ℤ s p
    → (e : ℕ) → S e → IsOther f e → (pos 0 <ℤ s e) ⊎ (s e ≡ pos 0) → IsLexAbove (g p e) ks
over_part {f} {s} {g} {ks} {n} {S} c p o low below over e l h (inl k) =
    sum_second (s o) (s p) (s e) (g p e) (g o e) (λ k. neg_ℤ (g o p k)) ks low.over (at_least (s p) over) k
    (λ k. solve-over (s o) (g p e k) (s p) (g o e k) (s e) (g o p k) (c.relation o p e k)) (low_at_least c o low e l h) below
over_part {f} {s} {g} {ks} {n} {S} c p o low below over e l h (inr z) =
    sum_first (s o) (s p) (s e) (g p e) (g o e) (λ k. neg_ℤ (g o p k)) ks low.over over (zero_at_least (s e) z)
    (λ k. solve-over (s o) (g p e k) (s p) (g o e k) (s e) (g o p k) (c.relation o p e k))
    (low.others e l h (λ d. above_not_zero (s o) low.over (sym (ap s d) ∙ z))) (inl below)
  where
    zero_at_least : (n : ℤ) → n ≡ pos 0 → pos 0 ≤ℤ n
    zero_at_least n h = omega (arith, ints)

-- points on the other side and on the plane, from the row there
under_part : {f : Face} {s : ℕ → ℤ} {g : ℕ → ℕ → ℕ → ℤ} {ks : List ℕ} {n : ℕ} {S : ℕ → Type 0} → IsPencil f s g ks n → (p a : ℕ) → IsLowUnder f s g ks S a → IsLexBelow (g a p) ks → pos 0 <ℤ s p
    → (e : ℕ) → S e → IsOther f e → (pos 0 <ℤ neg_ℤ (s e)) ⊎ (s e ≡ pos 0) → IsLexAbove (g p e) ks
under_part {f} {s} {g} {ks} {n} {S} c p a low below over e l h (inl k) =
    sum_second (neg_ℤ (s a)) (s p) (neg_ℤ (s e)) (g p e) (λ k. neg_ℤ (g a e k)) (λ k. neg_ℤ (g a p k)) ks low.under (at_least (s p) over) k
    (λ k. solve-under (s a) (g p e k) (s p) (g a e k) (s e) (g a p k) (c.relation a p e k)) (under_at_most c a low e l h) below
under_part {f} {s} {g} {ks} {n} {S} c p a low below over e l h (inr z) =
    sum_first (neg_ℤ (s a)) (s p) (neg_ℤ (s e)) (g p e) (λ k. neg_ℤ (g a e k)) (λ k. neg_ℤ (g a p k)) ks low.under over (neg_zero_at_least (s e) z)
    (λ k. solve-under (s a) (g p e k) (s p) (g a e k) (s e) (g a p k) (c.relation a p e k))
    (low.others e l h (λ d. below_not_zero (s a) low.under (sym (ap s d) ∙ z))) (inl below)

-- p is on the positive side
pub sees : {f : Face} {s : ℕ → ℤ} {g : ℕ → ℕ → ℕ → ℤ} {ks : List ℕ} {n : ℕ} {S : ℕ → Type 0} → IsPencil f s g ks n → (p : ℕ) → IsCavityOver f s g ks S p → IsClearUnder f s g ks S p → pos 0 <ℤ s p
sees {f} {s} {g} {ks} {n} {S} c p (over_row o low below) (under_row a under clear) =
    factor_above (s p) (g o a) (λ k. neg_ℤ (s a) *ℤ neg_ℤ (g o p k) +ℤ s o *ℤ neg_ℤ (g a p k)) ks
    (λ k. solve-side (s o) (g a p k) (s a) (g o p k) (s p) (g o a k) (c.relation o a p k))
    (above_add (λ k. neg_ℤ (s a) *ℤ neg_ℤ (g o p k)) (λ k. s o *ℤ neg_ℤ (g a p k)) ks (lex_scale (neg_ℤ (s a)) (λ k. neg_ℤ (g o p k)) ks under.under below)
    (inl (lex_scale (s o) (λ k. neg_ℤ (g a p k)) ks low.over clear)))
    (low.others a under.on (c.other a (below_not_zero (s a) under.under)) (λ e. apart_sides s o a low.over under.under (sym e)))
sees {f} {s} {g} {ks} {n} {S} c p (over_row o low below) (under_ghost bare q low' unseen) = go (sign_of (s p))
  where
    same : o ≡ q
    same = low_unique c o q low low'

    go : (pos 0 <ℤ s p) ⊎ ((s p ≡ pos 0) ⊎ (pos 0 <ℤ neg_ℤ (s p))) → pos 0 <ℤ s p
    go (inl h) = h
    go (inr (inl z)) = absurd (unseen (inr (z, subst (λ i. IsLexBelow (g i p) ks) same below)))
    go (inr (inr h)) = absurd (unseen (inl h))
sees {f} {s} {g} {ks} {n} {S} c p (over_ghost bare a under (inl h)) clear = h
sees {f} {s} {g} {ks} {n} {S} c p (over_ghost bare a under (inr h)) (under_row b under' below) =
    absurd (not_both (g a p) ks h.1 (subst (λ i. IsLexBelow (g i p) ks) (under_unique c b a under' under) below))
sees {f} {s} {g} {ks} {n} {S} c p (over_ghost bare a under (inr h)) (under_ghost bare' o low unseen) = absurd (bare o low.on low.over)

-- the row of p on a face between a place of the cavity and one that is clear
pub star_is_low : {f : Face} {s : ℕ → ℤ} {g : ℕ → ℕ → ℕ → ℤ} {ks : List ℕ} {n : ℕ} {S : ℕ → Type 0} → IsPencil f s g ks n → (p : ℕ) → IsCavityOver f s g ks S p → IsClearUnder f s g ks S p → IsLow f s g ks (With S p) p
star_is_low {f} {s} {g} {ks} {n} {S} c p cavity clear = record { on = inl refl; over = over; others = λ e l h d. go e h d l cavity clear (sign_of (s e)) }
  where
    over : pos 0 <ℤ s p
    over = sees c p cavity clear

    go : (e : ℕ) → IsOther f e → e ≢ p → (e ≡ p) ⊎ S e → IsCavityOver f s g ks S p → IsClearUnder f s g ks S p → (pos 0 <ℤ s e) ⊎ ((s e ≡ pos 0) ⊎ (pos 0 <ℤ neg_ℤ (s e))) → IsLexAbove (g p e) ks
    go e h d (inl same) _ _ _ = absurd (d same)
    go e h d (inr l) (over_row o low below) _ (inl k) = over_part c p o low below over e l h (inl k)
    go e h d (inr l) (over_ghost bare _ _ _) _ (inl k) = absurd (bare e l k)
    go e h d (inr l) (over_row o low below) _ (inr (inl z)) = over_part c p o low below over e l h (inr z)
    go e h d (inr l) (over_ghost bare _ _ _) (under_row a under clear) (inr (inl z)) = under_part c p a under clear over e l h (inr z)
    go e h d (inr l) (over_ghost bare _ _ _) (under_ghost _ o low _) (inr (inl z)) = absurd (bare o low.on low.over)
    go e h d (inr l) _ (under_row a under clear) (inr (inr k)) = under_part c p a under clear over e l h (inl k)
    go e h d (inr l) _ (under_ghost bare _ _ _) (inr (inr k)) = absurd (bare e l k)

-- ---- from the row to the two places

-- what stands over the face before
cavity_of : {f : Face} {s : ℕ → ℤ} {g : ℕ → ℕ → ℕ → ℤ} {ks : List ℕ} {n : ℕ} {S : ℕ → Type 0} → IsPencil f s g ks n → (p : ℕ) → ¬ S p → IsLow f s g ks (With S p) p → (o : ℕ) → IsFirst s g ks S o → IsLow f s g ks S o × IsLexBelow (g o p) ks
cavity_of {f} {s} {g} {ks} {n} {S} c p new low o first = (record { on = first.on; over = first.over; others = λ e l h d. go e l h d (sign_of (s e)) }, below_of c p o above)
  where
    before : (e : ℕ) → S e → e ≢ p
    before e l d = new (subst S d l)

    above : IsLexAbove (g p o) ks
    above = low.others o (inr first.on) (c.other o (above_not_zero (s o) first.over)) (before o first.on)

    solved : (e k : ℕ) → s p *ℤ g o e k ≡ s o *ℤ g p e k +ℤ neg_ℤ (s e) *ℤ g p o k
    solved e k = solve-low (s p) (g o e k) (s o) (g p e k) (s e) (g p o k) (c.relation p o e k)

    at : (e : ℕ) → S e → IsOther f e → pos 0 ≤ℤ neg_ℤ (s e) → IsLexAbove (g o e) ks
    at e l h k = sum_first (s p) (s o) (neg_ℤ (s e)) (g o e) (g p e) (g p o) ks low.over first.over k (solved e) (low.others e (inr l) h (before e l)) (inl above)

    go : (e : ℕ) → S e → IsOther f e → e ≢ o → (pos 0 <ℤ s e) ⊎ ((s e ≡ pos 0) ⊎ (pos 0 <ℤ neg_ℤ (s e))) → IsLexAbove (g o e) ks
    go e l h d (inl k) = first.ahead e l k d
    go e l h d (inr (inl z)) = at e l h (neg_zero_at_least (s e) z)
    go e l h d (inr (inr k)) = at e l h (at_least (neg_ℤ (s e)) k)

-- what stands under it
clear_of : {f : Face} {s : ℕ → ℤ} {g : ℕ → ℕ → ℕ → ℤ} {ks : List ℕ} {n : ℕ} {S : ℕ → Type 0} → IsPencil f s g ks n → (p : ℕ) → ¬ S p → IsLow f s g ks (With S p) p
    → (a : ℕ) → IsFirst (λ o. neg_ℤ (s o)) (λ o e k. neg_ℤ (g o e k)) ks S a → IsLowUnder f s g ks S a × IsLexBelow (g a p) ks
clear_of {f} {s} {g} {ks} {n} {S} c p new low a first = (record { on = first.on; under = first.over; others = λ e l h d. after.others e (inr l) h d }, after.others p (inl refl) (c.other p (above_not_zero (s p) low.over)) apart)
  where
    apart : p ≢ a
    apart e = new (subst S (sym e) first.on)

    later : IsFirst (λ o. neg_ℤ (s o)) (λ o e k. neg_ℤ (g o e k)) ks (With S p) a
    later = record { on = inr first.on; over = first.over; ahead = λ e l k d. at e l k d }
      where
        at : (e : ℕ) → (e ≡ p) ⊎ S e → pos 0 <ℤ neg_ℤ (s e) → e ≢ a → IsLexBelow (g a e) ks
        at e (inl same) k d = absurd (not_opposite (s p) low.over (subst (λ i. pos 0 <ℤ neg_ℤ (s i)) same k))
        at e (inr l) k d = first.ahead e l k d

    after : IsLow f (λ o. neg_ℤ (s o)) (λ o e k. neg_ℤ (g o e k)) ks (With S p) a
    after = neighbor (turned f s g ks n c) p a (record { on = inl refl; under = double (s p) low.over; others = λ e l h d. above_below (g p e) ks (low.others e l h d) }) later
      where
        double : (n : ℤ) → pos 0 <ℤ n → pos 0 <ℤ neg_ℤ (neg_ℤ n)
        double n h = omega (arith, ints)

-- a row of p stands on a face between a place of the cavity and one that is clear
pub low_is_star : {f : Face} {s : ℕ → ℤ} {g : ℕ → ℕ → ℕ → ℤ} {ks : List ℕ} {n : ℕ} {S : ℕ → Type 0} → IsPencil f s g ks n → (p : ℕ) → IsSet S n → ¬ S p → (e : ℕ) → S e → s e ≢ pos 0 → IsLow f s g ks (With S p) p
    → IsCavityOver f s g ks S p × IsClearUnder f s g ks S p
low_is_star {f} {s} {g} {ks} {n} {S} c p set new e le off low = go (first_of c S set) (first_of (turned f s g ks n c) S set)
  where
    go : IsBare s S ⊎ ((o : ℕ) × IsFirst s g ks S o) → IsBareUnder s S ⊎ ((a : ℕ) × IsFirst (λ o. neg_ℤ (s o)) (λ o e k. neg_ℤ (g o e k)) ks S a)
        → IsCavityOver f s g ks S p × IsClearUnder f s g ks S p
    go (inr o) (inr a) =
        let over = cavity_of c p new low o.0 o.1 in
        let under = clear_of c p new low a.0 a.1 in
        (over_row o.0 over.0 over.1, under_row a.0 under.0 under.1)
    go (inr o) (inl bare) =
        let over = cavity_of c p new low o.0 o.1 in
        (over_row o.0 over.0 over.1, under_ghost bare o.0 over.0 (λ h. unseen h))
      where
        unseen : (pos 0 <ℤ neg_ℤ (s p)) ⊎ ((s p ≡ pos 0) × IsLexBelow (g o.0 p) ks) → ⊥
        unseen (inl k) = not_opposite (s p) low.over k
        unseen (inr k) = above_not_zero (s p) low.over k.0
    go (inl bare) (inr a) =
        let under = clear_of c p new low a.0 a.1 in
        (over_ghost bare a.0 under.0 (inl low.over), under_row a.0 under.0 under.1)
    go (inl bare) (inl bare') = absurd (flat (sign_of (s e)))
      where
        flat : (pos 0 <ℤ s e) ⊎ ((s e ≡ pos 0) ⊎ (pos 0 <ℤ neg_ℤ (s e))) → ⊥
        flat (inl h) = bare e le h
        flat (inr (inl z)) = off z
        flat (inr (inr h)) = bare' e le h
