-- Functions that are linear along a leg, each the pair of its values at the two ends: where each is above 0 at some end, and any two are above 0 together
-- somewhere, there is a point of the leg at which all are (Helly's theorem in one dimension).
use Rattle.std.proofs.Common.{◌≡◌, ◌⊎◌, inl, inr, ℤ, pos, neg_ℤ, ◌+ℤ◌, ◌-ℤ◌, ◌*ℤ◌, ◌<ℤ◌, ◌≤ℤ◌, List, [], ◌∷◌, arith}
use Rattle.std.specs.List.{AllByRecursion}
use Rattle.std.proofs.lemmas.Int.{ints}
use Rattle.exact_algebra.proofs.Ring.{var, num, neg, ring, ring_given, given, same, ◌⊕◌, ◌⊖◌, ◌⊗◌}
use Rattle.exact_algebra.proofs.Signs.{by_sign, mul_nonneg, mul_pos, nonneg_of_mul}
use Rattle.sign_predicates.proofs.Exit.{along}

-- the minor of two functions: above 0 where the second is above 0 at the root of the first
abbrev pub minor : ℤ × ℤ → ℤ × ℤ → ℤ
minor e d = e.0 *ℤ d.1 -ℤ d.0 *ℤ e.1

-- the function is above 0 at one of the ends
abbrev pub Opens : ℤ × ℤ → Type 0
Opens e = (pos 0 <ℤ e.0) ⊎ (pos 0 <ℤ e.1)

-- beyond the root of e, at the first end or before it, each function that isn't above 0 at the first end is above 0 somewhere
abbrev pub Agrees : List (ℤ × ℤ) → ℤ × ℤ → Type 0
Agrees full e = AllByRecursion (λ d. d.0 ≤ℤ pos 0 → pos 0 <ℤ minor e d) full

-- of the functions that aren't above 0 at the second end, the one whose root comes first
pub record First (full es : List (ℤ × ℤ)) : Type 0 where
  pub e : ℤ × ℤ
  pub starts : pos 0 <ℤ e.0
  pub ends : e.1 ≤ℤ pos 0
  pub agrees : Agrees full e
  pub before : AllByRecursion (λ d. d.1 ≤ℤ pos 0 → pos 0 ≤ℤ minor e d) es

exchange : (a b c d e f : ℤ) → a *ℤ (c *ℤ f -ℤ e *ℤ d) ≡ c *ℤ (a *ℤ f -ℤ e *ℤ b) +ℤ e *ℤ neg_ℤ (a *ℤ d -ℤ c *ℤ b)
unfolding same
exchange a b c d e f =
    ring (var 0 ⊗ (var 2 ⊗ var 5 ⊖ var 4 ⊗ var 3)) (var 2 ⊗ (var 0 ⊗ var 5 ⊖ var 4 ⊗ var 1) ⊕ var 4 ⊗ neg (var 0 ⊗ var 3 ⊖ var 2 ⊗ var 1)) tt (a ∷ b ∷ c ∷ d ∷ e ∷ f ∷ [])

sum_least : {a b c : ℤ} → a ≡ b +ℤ c → pos 0 ≤ℤ b → pos 0 ≤ℤ c → pos 0 ≤ℤ a
sum_least {a} {b} {c} e h k = omega (arith, ints)

neg_least : (a : ℤ) → a <ℤ pos 0 → pos 0 ≤ℤ neg_ℤ a
neg_least a h = omega (arith, ints)

weak : (a : ℤ) → pos 0 <ℤ a → pos 0 ≤ℤ a
weak a h = omega (arith, ints)

opens_low : (d : ℤ × ℤ) → Opens d → d.1 ≤ℤ pos 0 → pos 0 <ℤ d.0
opens_low d (inl h) k = h
opens_low d (inr h) k = absurd (omega (arith, ints))

-- where the root of d comes before that of e, it comes before all that e's does
earlier : (e d : ℤ × ℤ) → pos 0 <ℤ e.0 → pos 0 <ℤ d.0 → minor e d <ℤ pos 0 → (es : List (ℤ × ℤ)) → AllByRecursion Opens es
    → AllByRecursion (λ c. c.1 ≤ℤ pos 0 → pos 0 ≤ℤ minor e c) es → AllByRecursion (λ c. c.1 ≤ℤ pos 0 → pos 0 ≤ℤ minor d c) es
earlier e d he hd l [] o b = tt
earlier e d he hd l (c ∷ es) o b = (
  λ h. nonneg_of_mul e.0 (minor d c) he (sum_least (exchange e.0 e.1 d.0 d.1 c.0 c.1)
      (mul_nonneg d.0 (minor e c) (weak d.0 hd) (b.0 h)) (mul_nonneg c.0 (neg_ℤ (minor e d)) (weak c.0 (opens_low c o.0 h)) (neg_least (minor e d) l))),
  earlier e d he hd l es o.1 b.1,
)

self : (a b : ℤ) → pos 0 ≤ℤ (a *ℤ b -ℤ a *ℤ b)
self a b = omega (arith, ints)

pub first : (full : List (ℤ × ℤ)) → AllByRecursion Opens full → (es : List (ℤ × ℤ)) → AllByRecursion Opens es → AllByRecursion (λ e. e.1 ≤ℤ pos 0 → Agrees full e) es → First full es
first full all [] o a = record { e = (pos 1, pos 0); starts = omega (arith, ints); ends = omega (arith, ints); agrees = at_end full all; before = tt }
  where
    one : (a b : ℤ) → pos 0 <ℤ b → pos 0 <ℤ (pos 1 *ℤ b -ℤ a *ℤ pos 0)
    one a b h = omega (arith, ints)

    second : (d : ℤ × ℤ) → Opens d → d.0 ≤ℤ pos 0 → pos 0 <ℤ d.1
    second d (inl h) k = absurd (omega (arith, ints))
    second d (inr h) k = h

    at_end : (ds : List (ℤ × ℤ)) → AllByRecursion Opens ds → Agrees ds (pos 1, pos 0)
    at_end [] o = tt
    at_end (d ∷ ds) o = (λ h. one d.0 d.1 (second d o.0 h), at_end ds o.1)
first full all (d ∷ es) o a = go (first full all es o.1 a.1)
  where
    go : First full es → First full (d ∷ es)
    go r = by_sign d.1 (λ l. low (omega (arith, ints))) (λ z. low (omega (arith, ints))) (λ g. high g)
      where
        high : pos 0 <ℤ d.1 → First full (d ∷ es)
        high g = record { e = r.e; starts = r.starts; ends = r.ends; agrees = r.agrees; before = (λ h. absurd (omega (arith, ints)), r.before) }

        keep : pos 0 ≤ℤ minor r.e d → First full (d ∷ es)
        keep h = record { e = r.e; starts = r.starts; ends = r.ends; agrees = r.agrees; before = (λ _. h, r.before) }

        low : d.1 ≤ℤ pos 0 → First full (d ∷ es)
        low h = by_sign (minor r.e d)
            (λ l. record {
              e = d;
              starts = opens_low d o.0 h;
              ends = h;
              agrees = a.0 h;
              before = (λ _. self d.0 d.1, earlier r.e d r.starts (opens_low d o.0 h) l es o.1 r.before);
            })
            (λ z. keep (omega (arith, ints)))
            (λ g. keep (weak (minor r.e d) g))

-- ---- the point between the two

value_is : (a b c d e f : ℤ) → (neg_ℤ b +ℤ c) *ℤ e +ℤ (a -ℤ d) *ℤ f ≡ (a *ℤ f -ℤ e *ℤ b) +ℤ (c *ℤ e -ℤ f *ℤ d)
unfolding same
value_is a b c d e f =
    ring ((neg (var 1) ⊕ var 2) ⊗ var 4 ⊕ (var 0 ⊖ var 3) ⊗ var 5) ((var 0 ⊗ var 5 ⊖ var 4 ⊗ var 1) ⊕ (var 2 ⊗ var 4 ⊖ var 5 ⊗ var 3)) tt (a ∷ b ∷ c ∷ d ∷ e ∷ f ∷ [])

-- e is one of the functions, (a, b) the first root, and (d, c) turned round the last one
pub above_at : (a b c d : ℤ) → pos 0 <ℤ a → b ≤ℤ pos 0 → pos 0 <ℤ c → d ≤ℤ pos 0 → (e : ℤ × ℤ) → Opens e
    → (e.0 ≤ℤ pos 0 → pos 0 <ℤ minor (a, b) e) → (e.1 ≤ℤ pos 0 → pos 0 ≤ℤ minor (a, b) e)
    → (e.1 ≤ℤ pos 0 → pos 0 <ℤ minor (c, d) (e.1, e.0)) → (e.0 ≤ℤ pos 0 → pos 0 ≤ℤ minor (c, d) (e.1, e.0))
    → pos 0 <ℤ along (neg_ℤ b +ℤ c) (a -ℤ d) e
above_at a b c d ha hb hc hd e o p q r s =
    by_sign e.0 (λ l. first_low (omega (arith, ints))) (λ z. first_low (omega (arith, ints)))
    (λ g. by_sign e.1 (λ l. second_low (omega (arith, ints))) (λ z. second_low (omega (arith, ints))) (λ k. both g k))
  where
    add : {x y z : ℤ} → x ≡ y +ℤ z → pos 0 <ℤ y → pos 0 ≤ℤ z → pos 0 <ℤ x
    add {x} {y} {z} e h k = omega (arith, ints)

    add_back : {x y z : ℤ} → x ≡ y +ℤ z → pos 0 ≤ℤ y → pos 0 <ℤ z → pos 0 <ℤ x
    add_back {x} {y} {z} e h k = omega (arith, ints)

    first_low : e.0 ≤ℤ pos 0 → pos 0 <ℤ along (neg_ℤ b +ℤ c) (a -ℤ d) e
    first_low h = add (value_is a b c d e.0 e.1) (p h) (s h)

    second_low : e.1 ≤ℤ pos 0 → pos 0 <ℤ along (neg_ℤ b +ℤ c) (a -ℤ d) e
    second_low h = add_back (value_is a b c d e.0 e.1) (q h) (r h)

    plus : (x y : ℤ) → pos 0 <ℤ x → pos 0 <ℤ y → pos 0 <ℤ (x +ℤ y)
    plus x y h k = omega (arith, ints)

    both : pos 0 <ℤ e.0 → pos 0 <ℤ e.1 → pos 0 <ℤ along (neg_ℤ b +ℤ c) (a -ℤ d) e
    both g k = plus ((neg_ℤ b +ℤ c) *ℤ e.0) ((a -ℤ d) *ℤ e.1) (mul_pos (neg_ℤ b +ℤ c) e.0 (omega (arith, ints)) g) (mul_pos (a -ℤ d) e.1 (omega (arith, ints)) k)

-- ---- and the other direction

negated_first : (i j a b c d : ℤ) → i *ℤ neg_ℤ (a *ℤ d -ℤ c *ℤ b) ≡ neg_ℤ (d *ℤ (i *ℤ a +ℤ j *ℤ b) +ℤ neg_ℤ b *ℤ (i *ℤ c +ℤ j *ℤ d))
unfolding same
negated_first i j a b c d =
    ring (var 0 ⊗ neg (var 2 ⊗ var 5 ⊖ var 4 ⊗ var 3)) (neg (var 5 ⊗ (var 0 ⊗ var 2 ⊕ var 1 ⊗ var 3) ⊕ neg (var 3) ⊗ (var 0 ⊗ var 4 ⊕ var 1 ⊗ var 5))) tt (i ∷ j ∷ a ∷ b ∷ c ∷ d ∷ [])

negated : (i j a b : ℤ) → i *ℤ neg_ℤ a +ℤ j *ℤ neg_ℤ b ≡ neg_ℤ (i *ℤ a +ℤ j *ℤ b)
unfolding same
negated i j a b = ring (var 0 ⊗ neg (var 2) ⊕ var 1 ⊗ neg (var 3)) (neg (var 0 ⊗ var 2 ⊕ var 1 ⊗ var 3)) tt (i ∷ j ∷ a ∷ b ∷ [])

without : (i j a b : ℤ) → j ≡ pos 0 → i *ℤ neg_ℤ a ≡ neg_ℤ (i *ℤ a +ℤ j *ℤ b)
unfolding same
without i j a b e =
    ring_given (var 0 ⊗ neg (var 2)) (neg (var 0 ⊗ var 2 ⊕ var 1 ⊗ var 3)) (given (var 3) (var 1) (num (pos 0)) ∷ []) tt (i ∷ j ∷ a ∷ b ∷ []) (e, tt)

-- where a function isn't above 0 at an end, the other end counts
other_end : (i j a b : ℤ) → pos 0 ≤ℤ i → pos 0 ≤ℤ j → a ≤ℤ pos 0 → pos 0 <ℤ (i *ℤ a +ℤ j *ℤ b) → (pos 0 <ℤ j) × (pos 0 <ℤ b)
other_end i j a b hi hj ha h = (by_sign j (λ l. absurd (omega (arith, ints))) (λ z. absurd (none_j z)) (λ g. g), by_sign b (λ l. absurd (none_b (omega (arith, ints)))) (λ z. absurd (none_b (omega (arith, ints)))) (λ g. g))
  where
    most : (x y : ℤ) → pos 0 ≤ℤ x → y ≤ℤ pos 0 → pos 0 ≤ℤ (x *ℤ neg_ℤ y)
    most x y h k = mul_nonneg x (neg_ℤ y) h (flip y k)
      where
        flip : (y : ℤ) → y ≤ℤ pos 0 → pos 0 ≤ℤ neg_ℤ y
        flip y k = omega (arith, ints)

    none_b : b ≤ℤ pos 0 → ⊥
    none_b k = clash (i *ℤ neg_ℤ a) (j *ℤ neg_ℤ b) (i *ℤ a +ℤ j *ℤ b) (negated i j a b) (most i a hi ha) (most j b hj k) h
      where
        clash : (x y z : ℤ) → x +ℤ y ≡ neg_ℤ z → pos 0 ≤ℤ x → pos 0 ≤ℤ y → pos 0 <ℤ z → ⊥
        clash x y z e p q r = omega (arith, ints)

    none_j : j ≡ pos 0 → ⊥
    none_j e = clash (i *ℤ neg_ℤ a) (i *ℤ a +ℤ j *ℤ b) (without i j a b e) (most i a hi ha) h
      where
        clash : (x z : ℤ) → x ≡ neg_ℤ z → pos 0 ≤ℤ x → pos 0 <ℤ z → ⊥
        clash x z e p r = omega (arith, ints)

pub minor_none : (i j : ℤ) (e d : ℤ × ℤ) → pos 0 ≤ℤ i → pos 0 ≤ℤ j → pos 0 <ℤ along i j e → pos 0 <ℤ along i j d → e.1 ≤ℤ pos 0 → d.0 ≤ℤ pos 0 → minor e d ≤ℤ pos 0 → ⊥
minor_none i j e d hi hj he hd le ld h =
    clash (i *ℤ neg_ℤ (minor e d)) (d.1 *ℤ along i j e) (neg_ℤ e.1 *ℤ along i j d) (negated_first i j e.0 e.1 d.0 d.1)
    (mul_nonneg i (neg_ℤ (minor e d)) hi (flip (minor e d) h))
    (mul_pos d.1 (along i j e) (other_end i j d.0 d.1 hi hj ld hd).1 he)
    (mul_nonneg (neg_ℤ e.1) (along i j d) (flip e.1 le) (weak (along i j d) hd))
  where
    flip : (y : ℤ) → y ≤ℤ pos 0 → pos 0 ≤ℤ neg_ℤ y
    flip y k = omega (arith, ints)

    clash : (x y z : ℤ) → x ≡ neg_ℤ (y +ℤ z) → pos 0 ≤ℤ x → pos 0 <ℤ y → pos 0 ≤ℤ z → ⊥
    clash x y z e p q r = omega (arith, ints)

-- two functions that are above 0 at one point
pub minor_above : (i j : ℤ) (e d : ℤ × ℤ) → pos 0 ≤ℤ i → pos 0 ≤ℤ j → pos 0 <ℤ along i j e → pos 0 <ℤ along i j d → e.1 ≤ℤ pos 0 → d.0 ≤ℤ pos 0 → pos 0 <ℤ minor e d
minor_above i j e d hi hj he hd le ld = by_sign (minor e d) (λ l. absurd (not_below l)) (λ z. absurd (none (omega (arith, ints)))) (λ g. g)
  where
    -- i * minor = d.1 * (value of e) - e.1 * (value of d)
    none : minor e d ≤ℤ pos 0 → ⊥
    none h = minor_none i j e d hi hj he hd le ld h

    not_below : minor e d <ℤ pos 0 → ⊥
    not_below l = none (omega (arith, ints))
