-- Along a leg from a point where no function of a list is below 0 to one where some is: where the first of them comes to 0. A function that is linear
-- along the leg is the pair of its values at the two ends.
use Rattle.std.proofs.Common.{◌≡◌, ◌⊎◌, inl, inr, ℤ, pos, neg_ℤ, ◌+ℤ◌, ◌*ℤ◌, ◌<ℤ◌, ◌≤ℤ◌, List, [], ◌∷◌, arith}
use Rattle.std.specs.List.{AllByRecursion}
use Rattle.std.proofs.lemmas.Int.{ints}
use Rattle.exact_algebra.proofs.Ring.{var, num, neg, ring, same, ◌⊕◌, ◌⊗◌}
use Rattle.exact_algebra.proofs.Signs.{mul_nonneg, nonneg_of_mul, by_sign}

-- the value at s times the first point and t times the second
abbrev pub along : ℤ → ℤ → ℤ × ℤ → ℤ
along s t e = s *ℤ e.0 +ℤ t *ℤ e.1

-- some member
abbrev pub SomeOf : {A : Type 0} → (A → Type 0) → List A → Type 0
SomeOf P [] = ⊥
SomeOf P (e ∷ es) = P e ⊎ SomeOf P es

-- a function that falls below 0 along the leg, and is 0 here
abbrev pub Leaves : ℤ → ℤ → ℤ × ℤ → Type 0
Leaves s t e = (e.1 <ℤ pos 0) × (along s t e ≡ pos 0)

pub record Exit (es : List (ℤ × ℤ)) : Type 0 where
  pub s : ℤ
  pub t : ℤ
  pub s_above : pos 0 <ℤ s
  pub t_least : pos 0 ≤ℤ t
  pub least : AllByRecursion (λ e. pos 0 ≤ℤ along s t e) es
  pub hit : SomeOf (Leaves s t) es

at_own : (f g : ℤ) → neg_ℤ g *ℤ f +ℤ f *ℤ g ≡ pos 0
unfolding same
at_own f g = ring (neg (var 1) ⊗ var 0 ⊕ var 0 ⊗ var 1) (num (pos 0)) tt (f ∷ g ∷ [])

nonneg_add : (a b : ℤ) → pos 0 ≤ℤ a → pos 0 ≤ℤ b → pos 0 ≤ℤ (a +ℤ b)
nonneg_add a b h k = omega (arith, ints)

-- s times the value at the root of (f, g) is that of (f', g') at s and t, up to factors that are above 0
exchange : (s t f g f' g' : ℤ) → s *ℤ (neg_ℤ g *ℤ f' +ℤ f *ℤ g') ≡ neg_ℤ g *ℤ (s *ℤ f' +ℤ t *ℤ g') +ℤ neg_ℤ g' *ℤ neg_ℤ (s *ℤ f +ℤ t *ℤ g)
unfolding same
exchange s t f g f' g' =
    ring (var 0 ⊗ (neg (var 3) ⊗ var 4 ⊕ var 2 ⊗ var 5)) (neg (var 3) ⊗ (var 0 ⊗ var 4 ⊕ var 1 ⊗ var 5) ⊕ neg (var 5) ⊗ neg (var 0 ⊗ var 2 ⊕ var 1 ⊗ var 3))
    tt (s ∷ t ∷ f ∷ g ∷ f' ∷ g' ∷ [])

neg_above : (a : ℤ) → a <ℤ pos 0 → pos 0 <ℤ neg_ℤ a
neg_above a h = omega (arith, ints)

neg_least : (a : ℤ) → a <ℤ pos 0 → pos 0 ≤ℤ neg_ℤ a
neg_least a h = omega (arith, ints)

-- at the root of (f, g), which falls first, no other is below 0
at_root : (s t f g : ℤ) → pos 0 <ℤ s → pos 0 ≤ℤ f → g <ℤ pos 0 → (s *ℤ f +ℤ t *ℤ g) <ℤ pos 0 → (es : List (ℤ × ℤ))
    → AllByRecursion (λ e. pos 0 ≤ℤ e.0) es → AllByRecursion (λ e. pos 0 ≤ℤ along s t e) es → AllByRecursion (λ e. pos 0 ≤ℤ along (neg_ℤ g) f e) es
at_root s t f g hs hf hg h [] starts least = tt
at_root s t f g hs hf hg h (e ∷ es) starts least = (by_sign e.1 falls (λ z. rises (omega (arith, ints))) (λ a. rises (omega (arith, ints))), at_root s t f g hs hf hg h es starts.1 least.1)
  where
    rises : pos 0 ≤ℤ e.1 → pos 0 ≤ℤ along (neg_ℤ g) f e
    rises k = nonneg_add (neg_ℤ g *ℤ e.0) (f *ℤ e.1) (mul_nonneg (neg_ℤ g) e.0 (neg_least g hg) starts.0) (mul_nonneg f e.1 hf k)

    falls : e.1 <ℤ pos 0 → pos 0 ≤ℤ along (neg_ℤ g) f e
    falls k = nonneg_of_mul s (along (neg_ℤ g) f e) hs (scaled (exchange s t f g e.0 e.1)
        (mul_nonneg (neg_ℤ g) (along s t e) (neg_least g hg) least.0) (mul_nonneg (neg_ℤ e.1) (neg_ℤ (s *ℤ f +ℤ t *ℤ g)) (neg_least e.1 k) (neg_least _ h)))
      where
        scaled : {a b c : ℤ} → a ≡ b +ℤ c → pos 0 ≤ℤ b → pos 0 ≤ℤ c → pos 0 ≤ℤ a
        scaled {a} {b} {c} e h k = omega (arith, ints)

-- where none falls but (f, g)
at_first : (f g : ℤ) → pos 0 ≤ℤ f → g <ℤ pos 0 → (es : List (ℤ × ℤ))
    → AllByRecursion (λ e. pos 0 ≤ℤ e.0) es → AllByRecursion (λ e. pos 0 ≤ℤ e.1) es → AllByRecursion (λ e. pos 0 ≤ℤ along (neg_ℤ g) f e) es
at_first f g hf hg [] starts ends = tt
at_first f g hf hg (e ∷ es) starts ends =
    (nonneg_add (neg_ℤ g *ℤ e.0) (f *ℤ e.1) (mul_nonneg (neg_ℤ g) e.0 (neg_least g hg) starts.0) (mul_nonneg f e.1 hf ends.0), at_first f g hf hg es starts.1 ends.1)

here_least : (f g : ℤ) → pos 0 ≤ℤ (neg_ℤ g *ℤ f +ℤ f *ℤ g)
here_least f g = of_zero (at_own f g)
  where
    of_zero : {a : ℤ} → a ≡ pos 0 → pos 0 ≤ℤ a
    of_zero {a} e = omega (arith, ints)

sign_cases : (a : ℤ) → (pos 0 ≤ℤ a) ⊎ (a <ℤ pos 0)
sign_cases a = by_sign a (λ l. inr l) (λ z. inl (omega (arith, ints))) (λ g. inl (omega (arith, ints)))

-- none is below 0 at the leg's end, or one leaves first
pub exit : (es : List (ℤ × ℤ)) → AllByRecursion (λ e. pos 0 ≤ℤ e.0) es → AllByRecursion (λ e. pos 0 ≤ℤ e.1) es ⊎ Exit es
exit [] starts = inl tt
exit (e ∷ es) starts = go (exit es starts.1)
  where
    go : AllByRecursion (λ e. pos 0 ≤ℤ e.1) es ⊎ Exit es → AllByRecursion (λ e. pos 0 ≤ℤ e.1) (e ∷ es) ⊎ Exit (e ∷ es)
    go (inl ends) = by (sign_cases e.1)
      where
        by : (pos 0 ≤ℤ e.1) ⊎ (e.1 <ℤ pos 0) → AllByRecursion (λ e. pos 0 ≤ℤ e.1) (e ∷ es) ⊎ Exit (e ∷ es)
        by (inl h) = inl (h, ends)
        by (inr h) = inr (record {
          s = neg_ℤ e.1;
          t = e.0;
          s_above = neg_above e.1 h;
          t_least = starts.0;
          least = (here_least e.0 e.1, at_first e.0 e.1 starts.0 h es starts.1 ends);
          hit = inl (h, at_own e.0 e.1);
        })
    go (inr x) = by (sign_cases (along x.s x.t e))
      where
        below : along x.s x.t e <ℤ pos 0 → e.1 <ℤ pos 0
        below h = by_sign e.1 (λ l. l)
            (λ z. absurd (not_both (mul_nonneg x.s e.0 (omega (arith, ints, x.s_above)) starts.0) (mul_nonneg x.t e.1 x.t_least (omega (arith, ints))) h))
            (λ g. absurd (not_both (mul_nonneg x.s e.0 (omega (arith, ints, x.s_above)) starts.0) (mul_nonneg x.t e.1 x.t_least (omega (arith, ints))) h))
          where
            not_both : {a b : ℤ} → pos 0 ≤ℤ a → pos 0 ≤ℤ b → (a +ℤ b) <ℤ pos 0 → ⊥
            not_both {a} {b} h k l = omega (arith, ints)

        by : (pos 0 ≤ℤ along x.s x.t e) ⊎ (along x.s x.t e <ℤ pos 0) → AllByRecursion (λ e. pos 0 ≤ℤ e.1) (e ∷ es) ⊎ Exit (e ∷ es)
        by (inl h) = inr (record { s = x.s; t = x.t; s_above = x.s_above; t_least = x.t_least; least = (h, x.least); hit = inr x.hit })
        by (inr h) = inr (record {
          s = neg_ℤ e.1;
          t = e.0;
          s_above = neg_above e.1 (below h);
          t_least = starts.0;
          least = (here_least e.0 e.1, at_root x.s x.t e.0 e.1 x.s_above starts.0 (below h) h es starts.1 x.least);
          hit = inl (below h, at_own e.0 e.1);
        })
