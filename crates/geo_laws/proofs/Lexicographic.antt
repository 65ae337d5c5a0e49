-- Lists of whole numbers, compared from the left, are an ordered module: sums and positive multiples of lists above 0 are above 0, each
-- list is above, at or below 0, and none is both above and at 0. A list is a function, with one number for each place of a list of places.
use Rattle.std.proofs.Common.{◌≡◌, ◌⊎◌, inl, inr, ℕ, ℤ, pos, neg_ℤ, ◌+ℤ◌, ◌*ℤ◌, ◌<ℤ◌, ◌≤ℤ◌, List, [], ◌∷◌, map, arith, ap, sym, ◌∙◌}
use Rattle.std.proofs.lemmas.Int.{ints}
use Rattle.geo_laws.specs.Height.{IsLexPositive}
use Rattle.exact_algebra.proofs.Signs.{mul_pos, sign_of, pos_same, pos_not_zero}
use Rattle.exact_algebra.proofs.Ring.{num, var, neg, ring, same, ◌⊕◌, ◌⊗◌}
use Rattle.geo_laws.proofs.Members.{IsMember, here, there}
use lib.IntN.{*ℤ-zero, zero-*ℤ}

-- each number is 0
pub data IsZeroAt (f : ℕ → ℤ) : List ℕ → Type 0 where
  none : IsZeroAt f []
  more : {k : ℕ} {ks : List ℕ} → f k ≡ pos 0 → IsZeroAt f ks → IsZeroAt f (k ∷ ks)

-- the numbers of f at the places are above those of 0, or the same
abbrev pub IsLexAbove : (ℕ → ℤ) → List ℕ → Type 0
IsLexAbove f ks = IsLexPositive (map f ks)

abbrev pub IsLexAtLeast : (ℕ → ℤ) → List ℕ → Type 0
IsLexAtLeast f ks = IsLexAbove f ks ⊎ IsZeroAt f ks

-- above, at or below 0
pub lex_sign_of : (f : ℕ → ℤ) (ks : List ℕ) → IsLexAbove f ks ⊎ (IsZeroAt f ks ⊎ IsLexAbove (λ k. neg_ℤ (f k)) ks)
lex_sign_of f [] = inr (inl none)
lex_sign_of f (k ∷ ks) = go (sign_of (f k)) (lex_sign_of f ks)
  where
    neg_zero : (n : ℤ) → n ≡ pos 0 → neg_ℤ n ≡ pos 0
    neg_zero n e = omega (arith, ints)

    go : (pos 0 <ℤ f k) ⊎ ((f k ≡ pos 0) ⊎ (pos 0 <ℤ neg_ℤ (f k))) → IsLexAbove f ks ⊎ (IsZeroAt f ks ⊎ IsLexAbove (λ j. neg_ℤ (f j)) ks)
        → IsLexAbove f (k ∷ ks) ⊎ (IsZeroAt f (k ∷ ks) ⊎ IsLexAbove (λ j. neg_ℤ (f j)) (k ∷ ks))
    go (inl h) rest = inl (inl h)
    go (inr (inr h)) rest = inr (inr (inl h))
    go (inr (inl e)) (inl r) = inl (inr (e, r))
    go (inr (inl e)) (inr (inl z)) = inr (inl (more e z))
    go (inr (inl e)) (inr (inr r)) = inr (inr (inr (neg_zero (f k) e, r)))

-- sums
sum_above : (a b : ℤ) → pos 0 <ℤ a → pos 0 <ℤ b → pos 0 <ℤ (a +ℤ b)
sum_above a b h k = omega (arith, ints)

sum_left : (a b : ℤ) → pos 0 <ℤ a → b ≡ pos 0 → pos 0 <ℤ (a +ℤ b)
sum_left a b h e = omega (arith, ints)

sum_right : (a b : ℤ) → a ≡ pos 0 → pos 0 <ℤ b → pos 0 <ℤ (a +ℤ b)
sum_right a b e k = omega (arith, ints)

sum_zero : (a b : ℤ) → a ≡ pos 0 → b ≡ pos 0 → a +ℤ b ≡ pos 0
sum_zero a b e d = omega (arith, ints)

-- a sum of lists above 0 is above 0
pub lex_add : (f g : ℕ → ℤ) (ks : List ℕ) → IsLexAbove f ks → IsLexAbove g ks → IsLexAbove (λ k. f k +ℤ g k) ks
lex_add f g [] h k = h
lex_add f g (j ∷ ks) (inl h) (inl k) = inl (sum_above (f j) (g j) h k)
lex_add f g (j ∷ ks) (inl h) (inr k) = inl (sum_left (f j) (g j) h k.0)
lex_add f g (j ∷ ks) (inr h) (inl k) = inl (sum_right (f j) (g j) h.0 k)
lex_add f g (j ∷ ks) (inr h) (inr k) = inr (sum_zero (f j) (g j) h.0 k.0, lex_add f g ks h.1 k.1)

-- and so is that of one above 0 and one at 0
pub lex_add_zero : (f g : ℕ → ℤ) (ks : List ℕ) → IsLexAbove f ks → IsZeroAt g ks → IsLexAbove (λ k. f k +ℤ g k) ks
lex_add_zero f g [] h z = absurd h
lex_add_zero f g (j ∷ ks) (inl h) (more e z) = inl (sum_left (f j) (g j) h e)
lex_add_zero f g (j ∷ ks) (inr h) (more e z) = inr (sum_zero (f j) (g j) h.0 e, lex_add_zero f g ks h.1 z)

pub lex_zero_add : (f g : ℕ → ℤ) (ks : List ℕ) → IsZeroAt f ks → IsLexAbove g ks → IsLexAbove (λ k. f k +ℤ g k) ks
lex_zero_add f g [] z h = absurd h
lex_zero_add f g (j ∷ ks) (more e z) (inl h) = inl (sum_right (f j) (g j) e h)
lex_zero_add f g (j ∷ ks) (more e z) (inr h) = inr (sum_zero (f j) (g j) e h.0, lex_zero_add f g ks z h.1)

pub zero_add : (f g : ℕ → ℤ) (ks : List ℕ) → IsZeroAt f ks → IsZeroAt g ks → IsZeroAt (λ k. f k +ℤ g k) ks
zero_add f g [] y z = none
zero_add f g (j ∷ ks) (more d y) (more e z) = more (sum_zero (f j) (g j) d e) (zero_add f g ks y z)

-- a sum of lists that are at least 0 is at least 0
pub at_least_add : (f g : ℕ → ℤ) (ks : List ℕ) → IsLexAtLeast f ks → IsLexAtLeast g ks → IsLexAtLeast (λ k. f k +ℤ g k) ks
at_least_add f g ks (inl h) (inl k) = inl (lex_add f g ks h k)
at_least_add f g ks (inl h) (inr z) = inl (lex_add_zero f g ks h z)
at_least_add f g ks (inr y) (inl k) = inl (lex_zero_add f g ks y k)
at_least_add f g ks (inr y) (inr z) = inr (zero_add f g ks y z)

-- the larger of two parts decides
pub above_add : (f g : ℕ → ℤ) (ks : List ℕ) → IsLexAbove f ks → IsLexAtLeast g ks → IsLexAbove (λ k. f k +ℤ g k) ks
above_add f g ks h (inl k) = lex_add f g ks h k
above_add f g ks h (inr z) = lex_add_zero f g ks h z

pub add_above : (f g : ℕ → ℤ) (ks : List ℕ) → IsLexAtLeast f ks → IsLexAbove g ks → IsLexAbove (λ k. f k +ℤ g k) ks
add_above f g ks (inl h) k = lex_add f g ks h k
add_above f g ks (inr z) k = lex_zero_add f g ks z k

-- multiples
pub lex_scale : (c : ℤ) (f : ℕ → ℤ) (ks : List ℕ) → pos 0 <ℤ c → IsLexAbove f ks → IsLexAbove (λ k. c *ℤ f k) ks
lex_scale c f [] p h = h
lex_scale c f (k ∷ ks) p (inl h) = inl (mul_pos c (f k) p h)
lex_scale c f (k ∷ ks) p (inr h) = inr (ap (λ n. c *ℤ n) h.0 ∙ *ℤ-zero c, lex_scale c f ks p h.1)

pub zero_scale : (c : ℤ) (f : ℕ → ℤ) (ks : List ℕ) → IsZeroAt f ks → IsZeroAt (λ k. c *ℤ f k) ks
zero_scale c f [] z = none
zero_scale c f (k ∷ ks) (more e z) = more (ap (λ n. c *ℤ n) e ∙ *ℤ-zero c) (zero_scale c f ks z)

-- a list is not both above and at 0
pub above_not_zero : (f : ℕ → ℤ) (ks : List ℕ) → IsLexAbove f ks → IsZeroAt f ks → ⊥
above_not_zero f [] h z = h
above_not_zero f (k ∷ ks) (inl h) (more e z) = pos_not_zero (f k) h e
above_not_zero f (k ∷ ks) (inr h) (more e z) = above_not_zero f ks h.1 z

-- numbers that are the same at each place
pub lex_same : (f g : ℕ → ℤ) (ks : List ℕ) → ((k : ℕ) → f k ≡ g k) → IsLexAbove f ks → IsLexAbove g ks
lex_same f g [] e h = h
lex_same f g (k ∷ ks) e (inl h) = inl (pos_same (g k) (f k) (sym (e k)) h)
lex_same f g (k ∷ ks) e (inr h) = inr (sym (e k) ∙ h.0, lex_same f g ks e h.1)

-- a list whose numbers are all 0 is at 0
pub zero_everywhere : (f : ℕ → ℤ) (ks : List ℕ) → ((k : ℕ) → f k ≡ pos 0) → IsZeroAt f ks
zero_everywhere f [] e = none
zero_everywhere f (k ∷ ks) e = more (e k) (zero_everywhere f ks e)

pub zero_same : (f g : ℕ → ℤ) (ks : List ℕ) → ((k : ℕ) → f k ≡ g k) → IsZeroAt f ks → IsZeroAt g ks
zero_same f g [] e z = none
zero_same f g (k ∷ ks) e (more d z) = more (sym (e k) ∙ d) (zero_same f g ks e z)

pub at_least_same : (f g : ℕ → ℤ) (ks : List ℕ) → ((k : ℕ) → f k ≡ g k) → IsLexAtLeast f ks → IsLexAtLeast g ks
at_least_same f g ks e (inl h) = inl (lex_same f g ks e h)
at_least_same f g ks e (inr z) = inr (zero_same f g ks e z)

-- a list that is 0 everywhere is 0 at each place
pub zero_at : (f : ℕ → ℤ) (ks : List ℕ) (k : ℕ) → IsZeroAt f ks → IsMember k ks → f k ≡ pos 0
zero_at f [] k z m = elim m [ ]
zero_at f (j ∷ ks) k (more e z) here = e
zero_at f (j ∷ ks) k (more e z) (there m) = zero_at f ks k z m

times-neg : (c a : ℤ) → c *ℤ a +ℤ c *ℤ neg_ℤ a ≡ pos 0
unfolding same
times-neg c a = ring (var 0 ⊗ var 1 ⊕ var 0 ⊗ neg (var 1)) (num (pos 0)) tt (c ∷ a ∷ [])

-- multiples that are at least 0
pub at_least_scale : (c : ℤ) (f : ℕ → ℤ) (ks : List ℕ) → pos 0 <ℤ c → IsLexAtLeast f ks → IsLexAtLeast (λ k. c *ℤ f k) ks
at_least_scale c f ks p (inl h) = inl (lex_scale c f ks p h)
at_least_scale c f ks p (inr z) = inr (zero_scale c f ks z)

-- the list is not below 0 where a positive multiple of it is at least 0
pub not_below : (c : ℤ) (f : ℕ → ℤ) (ks : List ℕ) → pos 0 <ℤ c → IsLexAtLeast (λ k. c *ℤ f k) ks → IsLexAbove (λ k. neg_ℤ (f k)) ks → ⊥
not_below c f ks p h below =
    above_not_zero (λ k. c *ℤ f k +ℤ c *ℤ neg_ℤ (f k)) ks (add_above (λ k. c *ℤ f k) (λ k. c *ℤ neg_ℤ (f k)) ks h (lex_scale c (λ k. neg_ℤ (f k)) ks p below))
    (zero_everywhere (λ k. c *ℤ f k +ℤ c *ℤ neg_ℤ (f k)) ks (λ k. times-neg c (f k)))

-- a list is at least 0 where a positive multiple of it is
pub at_least_unscale : (c : ℤ) (f : ℕ → ℤ) (ks : List ℕ) → pos 0 <ℤ c → IsLexAtLeast (λ k. c *ℤ f k) ks → IsLexAtLeast f ks
at_least_unscale c f ks p h = go (lex_sign_of f ks)
  where
    go : IsLexAbove f ks ⊎ (IsZeroAt f ks ⊎ IsLexAbove (λ k. neg_ℤ (f k)) ks) → IsLexAtLeast f ks
    go (inl a) = inl a
    go (inr (inl z)) = inr z
    go (inr (inr b)) = absurd (not_below c f ks p h b)

-- and above 0 where a positive multiple of it is
pub above_unscale : (c : ℤ) (f : ℕ → ℤ) (ks : List ℕ) → pos 0 <ℤ c → IsLexAbove (λ k. c *ℤ f k) ks → IsLexAbove f ks
above_unscale c f ks p h = go (at_least_unscale c f ks p (inl h))
  where
    go : IsLexAtLeast f ks → IsLexAbove f ks
    go (inl a) = a
    go (inr z) = absurd (above_not_zero (λ k. c *ℤ f k) ks h (zero_scale c f ks z))

-- ---- lists below 0

abbrev pub IsLexBelow : (ℕ → ℤ) → List ℕ → Type 0
IsLexBelow f ks = IsLexAbove (λ k. neg_ℤ (f k)) ks

cancel : (n : ℤ) → n +ℤ neg_ℤ n ≡ pos 0
cancel n = omega (arith, ints)

-- no list is above 0 and below 0
pub not_both : (f : ℕ → ℤ) (ks : List ℕ) → IsLexAbove f ks → IsLexBelow f ks → ⊥
not_both f ks a b = above_not_zero (λ k. f k +ℤ neg_ℤ (f k)) ks (lex_add f (λ k. neg_ℤ (f k)) ks a b) (zero_everywhere (λ k. f k +ℤ neg_ℤ (f k)) ks (λ k. cancel (f k)))

neg-neg : (n : ℤ) → neg_ℤ (neg_ℤ n) ≡ n
neg-neg n = omega (arith, ints)

neg-times : (c n : ℤ) → neg_ℤ c *ℤ n ≡ neg_ℤ (c *ℤ n)
unfolding same
neg-times c n = ring (neg (var 0) ⊗ var 1) (neg (var 0 ⊗ var 1)) tt (c ∷ n ∷ [])

-- the opposite of a list above 0 is below 0
pub above_below : (f : ℕ → ℤ) (ks : List ℕ) → IsLexAbove f ks → IsLexBelow (λ k. neg_ℤ (f k)) ks
above_below f ks h = lex_same f (λ k. neg_ℤ (neg_ℤ (f k))) ks (λ k. sym (neg-neg (f k))) h

-- ---- sums of multiples

-- a number that is at least 0 is above it or 0
zero_or : (b : ℤ) → pos 0 ≤ℤ b → (pos 0 <ℤ b) ⊎ (b ≡ pos 0)
zero_or b h = go (sign_of b)
  where
    go : (pos 0 <ℤ b) ⊎ ((b ≡ pos 0) ⊎ (pos 0 <ℤ neg_ℤ b)) → (pos 0 <ℤ b) ⊎ (b ≡ pos 0)
    go (inl a) = inl a
    go (inr (inl z)) = inr z
    go (inr (inr n)) = absurd (omega (arith, ints))

times_zero : (b n : ℤ) → b ≡ pos 0 → b *ℤ n ≡ pos 0
times_zero b n e = ap (λ c. c *ℤ n) e ∙ zero-*ℤ n

-- multiples by a number that is at least 0
pub at_least_multiple : (b : ℤ) (f : ℕ → ℤ) (ks : List ℕ) → pos 0 ≤ℤ b → IsLexAtLeast f ks → IsLexAtLeast (λ k. b *ℤ f k) ks
at_least_multiple b f ks p h = go (zero_or b p)
  where
    go : (pos 0 <ℤ b) ⊎ (b ≡ pos 0) → IsLexAtLeast (λ k. b *ℤ f k) ks
    go (inl q) = at_least_scale b f ks q h
    go (inr z) = inr (zero_everywhere (λ k. b *ℤ f k) ks (λ k. times_zero b (f k) z))

-- a list of which a positive multiple is a sum of multiples
pub sum_first : (c a b : ℤ) (x y z : ℕ → ℤ) (ks : List ℕ) → pos 0 <ℤ c → pos 0 <ℤ a → pos 0 ≤ℤ b → ((k : ℕ) → c *ℤ x k ≡ a *ℤ y k +ℤ b *ℤ z k)
    → IsLexAbove y ks → IsLexAtLeast z ks → IsLexAbove x ks
sum_first c a b x y z ks hc ha hb e hy hz =
    above_unscale c x ks hc (lex_same (λ k. a *ℤ y k +ℤ b *ℤ z k) (λ k. c *ℤ x k) ks (λ k. sym (e k))
    (above_add (λ k. a *ℤ y k) (λ k. b *ℤ z k) ks (lex_scale a y ks ha hy) (at_least_multiple b z ks hb hz)))

-- where the second summand is above 0
pub sum_second : (c a b : ℤ) (x y z : ℕ → ℤ) (ks : List ℕ) → pos 0 <ℤ c → pos 0 ≤ℤ a → pos 0 <ℤ b → ((k : ℕ) → c *ℤ x k ≡ a *ℤ y k +ℤ b *ℤ z k)
    → IsLexAtLeast y ks → IsLexAbove z ks → IsLexAbove x ks
sum_second c a b x y z ks hc ha hb e hy hz =
    above_unscale c x ks hc (lex_same (λ k. a *ℤ y k +ℤ b *ℤ z k) (λ k. c *ℤ x k) ks (λ k. sym (e k))
    (add_above (λ k. a *ℤ y k) (λ k. b *ℤ z k) ks (at_least_multiple a y ks ha hy) (lex_scale b z ks hb hz)))

-- the factor between two lists above 0
pub factor_above : (c : ℤ) (x y : ℕ → ℤ) (ks : List ℕ) → ((k : ℕ) → c *ℤ x k ≡ y k) → IsLexAbove y ks → IsLexAbove x ks → pos 0 <ℤ c
factor_above c x y ks e hy hx = go (sign_of c)
  where
    h : IsLexAbove (λ k. c *ℤ x k) ks
    h = lex_same y (λ k. c *ℤ x k) ks (λ k. sym (e k)) hy

    go : (pos 0 <ℤ c) ⊎ ((c ≡ pos 0) ⊎ (pos 0 <ℤ neg_ℤ c)) → pos 0 <ℤ c
    go (inl p) = p
    go (inr (inl d)) = absurd (above_not_zero (λ k. c *ℤ x k) ks h (zero_everywhere (λ k. c *ℤ x k) ks (λ k. times_zero c (x k) d)))
    go (inr (inr n)) = absurd (not_both (λ k. c *ℤ x k) ks h (lex_same (λ k. neg_ℤ c *ℤ x k) (λ k. neg_ℤ (c *ℤ x k)) ks (λ k. neg-times c (x k)) (lex_scale (neg_ℤ c) x ks n hx)))
