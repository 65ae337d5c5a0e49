-- The pencil of rows on one face. For each point off the face's plane there is one row, and of two such points one is above the row of the other.
use Rattle.geo_laws.proofs.Heights.{above_or_not}
use Rattle.std.proofs.Common.{◌≡◌, ◌≢◌, ◌⊎◌, inl, inr, ℕ, zero, suc, ◌<◌, ◌≤◌, ℤ, pos, neg_ℤ, ◌+ℤ◌, ◌-ℤ◌, ◌*ℤ◌, ◌<ℤ◌, ◌≤ℤ◌, List, [], ◌∷◌, arith, ap, sym, subst, ◌∙◌}
use Rattle.std.proofs.lemmas.Int.{ints}
use Rattle.exact_algebra.proofs.Signs.{sign_of}
use Rattle.geo_laws.proofs.Corners.{same_or_not}
use Rattle.geo_laws.proofs.Ties.{order}
use Rattle.geo_laws.proofs.Lexicographic.{IsZeroAt, none, more, IsLexAbove, IsLexAtLeast, lex_sign_of, lex_same, zero_everywhere}
use Rattle.geo_laws.specs.OrientedFace.{Face, IsOther}
use Rattle.insert_laws.proofs.Identities.{turned-relation, solve-middle, solve-under}
use Rattle.geo_laws.proofs.Lexicographic.{IsLexBelow, not_both, sum_first, sum_second}

-- s says on which side of the face's plane each point lies, and g o e how far e is above the row of o, at each place
pub record IsPencil (f : Face) (s : ℕ → ℤ) (g : ℕ → ℕ → ℕ → ℤ) (ks : List ℕ) (n : ℕ) : Type 0 where
  pub relation : (o q e k : ℕ) → s o *ℤ g q e k ≡ s q *ℤ g o e k -ℤ s e *ℤ g o q k
  pub opposite : (o e k : ℕ) → g o e k ≡ neg_ℤ (g e o k)
  pub other : (e : ℕ) → s e ≢ pos 0 → IsOther f e
  pub apart : (o e : ℕ) → e < n → IsOther f e → e ≢ o → s o ≢ pos 0 → ¬ IsZeroAt (g o e) ks

-- the row of o is positive, and every other point of S is above it
pub record IsLow (f : Face) (s : ℕ → ℤ) (g : ℕ → ℕ → ℕ → ℤ) (ks : List ℕ) (S : ℕ → Type 0) (o : ℕ) : Type 0 where
  pub on : S o
  pub over : pos 0 <ℤ s o
  pub others : (e : ℕ) → S e → IsOther f e → e ≢ o → IsLexAbove (g o e) ks

-- the same for a row on the other side of the face
pub record IsLowUnder (f : Face) (s : ℕ → ℤ) (g : ℕ → ℕ → ℕ → ℤ) (ks : List ℕ) (S : ℕ → Type 0) (a : ℕ) : Type 0 where
  pub on : S a
  pub under : pos 0 <ℤ neg_ℤ (s a)
  pub others : (e : ℕ) → S e → IsOther f e → e ≢ a → IsLexBelow (g a e) ks

-- no point of S is on the positive side of the face
abbrev pub IsBare : (ℕ → ℤ) → (ℕ → Type 0) → Type 0
IsBare s S = (e : ℕ) → S e → ¬ (pos 0 <ℤ s e)

-- no point on the other side
abbrev pub IsBareUnder : (ℕ → ℤ) → (ℕ → Type 0) → Type 0
IsBareUnder s S = (e : ℕ) → S e → ¬ (pos 0 <ℤ neg_ℤ (s e))

-- ---- signs

pub above_not_zero : (n : ℤ) → pos 0 <ℤ n → n ≢ pos 0
above_not_zero n h e = omega (arith, ints)

pub below_not_zero : (n : ℤ) → pos 0 <ℤ neg_ℤ n → n ≢ pos 0
below_not_zero n h e = omega (arith, ints)

pub at_least : (n : ℤ) → pos 0 <ℤ n → pos 0 ≤ℤ n
at_least n h = omega (arith, ints)

zero_at_least : (n : ℤ) → n ≡ pos 0 → pos 0 ≤ℤ n
zero_at_least n h = omega (arith, ints)

pub neg_zero_at_least : (n : ℤ) → n ≡ pos 0 → pos 0 ≤ℤ neg_ℤ n
neg_zero_at_least n h = omega (arith, ints)

pub not_opposite : (n : ℤ) → pos 0 <ℤ n → pos 0 <ℤ neg_ℤ n → ⊥
not_opposite n h k = omega (arith, ints)

neg_zero : (n : ℤ) → n ≡ neg_ℤ n → n ≡ pos 0
neg_zero n e = omega (arith, ints)

pub flip : (m n : ℕ) → m ≢ n → n ≢ m
flip m n h e = h (sym e)

pub last_or : (m e : ℕ) → e < suc m → (e ≡ m) ⊎ (e < m)
last_or m e h = go (order e m)
  where
    go : (e < m) ⊎ ((e ≡ m) ⊎ (m < e)) → (e ≡ m) ⊎ (e < m)
    go (inl l) = inr l
    go (inr (inl d)) = inl d
    go (inr (inr l)) = absurd (omega arith)

-- two points on different sides
pub apart_sides : (s : ℕ → ℤ) (o a : ℕ) → pos 0 <ℤ s o → pos 0 <ℤ neg_ℤ (s a) → o ≢ a
apart_sides s o a ho ha e = not_opposite (s a) (subst (λ i. pos 0 <ℤ s i) e ho) ha

-- ---- the order of the pencil

-- its turned form
pub turned : (f : Face) (s : ℕ → ℤ) (g : ℕ → ℕ → ℕ → ℤ) (ks : List ℕ) (n : ℕ) → IsPencil f s g ks n → IsPencil f (λ o. neg_ℤ (s o)) (λ o e k. neg_ℤ (g o e k)) ks n
turned f s g ks n p = record {
  relation = λ o q e k. turned-relation (s o) (g q e k) (s q) (g o e k) (s e) (g o q k) (p.relation o q e k);
  opposite = λ o e k. ap neg_ℤ (p.opposite o e k);
  other = λ e h. p.other e (λ z. h (neg_of_zero (s e) z));
  apart = λ o e l h d so z. p.apart o e l h d (λ w. so (neg_of_zero (s o) w)) (un_negated (g o e) ks z);
}
  where
    neg_of_zero : (n : ℤ) → n ≡ pos 0 → neg_ℤ n ≡ pos 0
    neg_of_zero n e = omega (arith, ints)

    of_neg_zero : (n : ℤ) → neg_ℤ n ≡ pos 0 → n ≡ pos 0
    of_neg_zero n e = omega (arith, ints)

    un_negated : (h : ℕ → ℤ) (ks : List ℕ) → IsZeroAt (λ k. neg_ℤ (h k)) ks → IsZeroAt h ks
    un_negated h [] z = none
    un_negated h (k ∷ ks) (more e z) = more (of_neg_zero (h k) e) (un_negated h ks z)

pub below_of : {f : Face} {s : ℕ → ℤ} {g : ℕ → ℕ → ℕ → ℤ} {ks : List ℕ} {n : ℕ} → IsPencil f s g ks n → (o e : ℕ) → IsLexAbove (g o e) ks → IsLexBelow (g e o) ks
below_of {g = g} {ks = ks} p o e h = lex_same (g o e) (λ k. neg_ℤ (g e o k)) ks (λ k. p.opposite o e k) h

pub above_of : {f : Face} {s : ℕ → ℤ} {g : ℕ → ℕ → ℕ → ℤ} {ks : List ℕ} {n : ℕ} → IsPencil f s g ks n → (o e : ℕ) → IsLexBelow (g o e) ks → IsLexAbove (g e o) ks
above_of {g = g} {ks = ks} p o e h = lex_same (λ k. neg_ℤ (g o e k)) (g e o) ks (λ k. sym (p.opposite e o k)) h

-- a point is at the height of its own row
self_zero : {f : Face} {s : ℕ → ℤ} {g : ℕ → ℕ → ℕ → ℤ} {ks : List ℕ} {n : ℕ} → IsPencil f s g ks n → (o k : ℕ) → g o o k ≡ pos 0
self_zero {g = g} p o k = neg_zero (g o o k) (p.opposite o o k)

-- a low tetrahedron has no point below it
pub low_at_least : {f : Face} {s : ℕ → ℤ} {g : ℕ → ℕ → ℕ → ℤ} {ks : List ℕ} {n : ℕ} {S : ℕ → Type 0} → IsPencil f s g ks n → (o : ℕ) → IsLow f s g ks S o → (e : ℕ) → S e → IsOther f e → IsLexAtLeast (g o e) ks
-- a low tetrahedron has no point below it
low_at_least {f} {s} {g} {ks} {n} {S} p o low e l h = go (same_or_not e o)
  where
    go : (e ≡ o) ⊎ (e ≡ o → ⊥) → IsLexAtLeast (g o e) ks
    go (inl d) = inr (zero_everywhere (g o e) ks (λ k. ap (λ i. g o i k) d ∙ self_zero p o k))
    go (inr d) = inl (low.others e l h d)

pub under_at_most : {f : Face} {s : ℕ → ℤ} {g : ℕ → ℕ → ℕ → ℤ} {ks : List ℕ} {n : ℕ} {S : ℕ → Type 0} → IsPencil f s g ks n → (a : ℕ) → IsLowUnder f s g ks S a → (e : ℕ) → S e → IsOther f e → IsLexAtLeast (λ k. neg_ℤ (g a e k)) ks
under_at_most {f} {s} {g} {ks} {n} {S} p a low e l h = go (same_or_not e a)
  where
    neg_of_zero : (n : ℤ) → n ≡ pos 0 → neg_ℤ n ≡ pos 0
    neg_of_zero n e = omega (arith, ints)

    go : (e ≡ a) ⊎ (e ≡ a → ⊥) → IsLexAtLeast (λ k. neg_ℤ (g a e k)) ks
    go (inl d) = inr (zero_everywhere (λ k. neg_ℤ (g a e k)) ks (λ k. neg_of_zero (g a e k) (ap (λ i. g a i k) d ∙ self_zero p a k)))
    go (inr d) = inl (low.others e l h d)

-- the row of o is on the positive side, and every other point there is above it
pub record IsFirst (s : ℕ → ℤ) (g : ℕ → ℕ → ℕ → ℤ) (ks : List ℕ) (S : ℕ → Type 0) (o : ℕ) : Type 0 where
  pub on : S o
  pub over : pos 0 <ℤ s o
  pub ahead : (e : ℕ) → S e → pos 0 <ℤ s e → e ≢ o → IsLexAbove (g o e) ks

above_trans : {f : Face} {s : ℕ → ℤ} {g : ℕ → ℕ → ℕ → ℤ} {ks : List ℕ} {n : ℕ} → IsPencil f s g ks n → (o q e : ℕ) → pos 0 <ℤ s o → pos 0 <ℤ s q → pos 0 <ℤ s e
    → IsLexAbove (g o q) ks → IsLexAbove (g q e) ks → IsLexAbove (g o e) ks
above_trans {s = s} {g = g} {ks = ks} p o q e so sq se hoq hqe =
    sum_first (s q) (s o) (s e) (g o e) (g q e) (g o q) ks sq so (at_least (s e) se) (λ k. solve-middle (s o) (g q e k) (s q) (g o e k) (s e) (g o q k) (p.relation o q e k)) hqe (inl hoq)

-- those of S below m
abbrev Upto : (ℕ → Type 0) → ℕ → ℕ → Type 0
Upto S m e = (e < m) × S e

first_upto : {f : Face} {s : ℕ → ℤ} {g : ℕ → ℕ → ℕ → ℤ} {ks : List ℕ} {n : ℕ} → IsPencil f s g ks n → (S : ℕ → Type 0) → ((e : ℕ) → S e ⊎ ¬ S e) → (m : ℕ) → m ≤ n → IsBare s (Upto S m) ⊎ ((o : ℕ) × IsFirst s g ks (Upto S m) o)
first_upto p S decided zero h = inl (λ e l. absurd (omega (arith, l.0)))
first_upto {f} {s} {g} {ks} {n} p S decided (suc m) h = go (first_upto p S decided m (omega arith)) (test (decided m) (above_or_not (s m)))
  where
    test : S m ⊎ ¬ S m → (pos 0 <ℤ s m) ⊎ ¬ (pos 0 <ℤ s m) → (S m × (pos 0 <ℤ s m)) ⊎ (S m → ¬ (pos 0 <ℤ s m))
    test (inl a) (inl b) = inl (a, b)
    test (inl a) (inr b) = inr (λ _. b)
    test (inr a) _ = inr (λ k. absurd (a k))

    further : (e : ℕ) → Upto S m e → Upto S (suc m) e
    further e l = let k = l.0 in (omega arith, l.1)

    split : (e : ℕ) → Upto S (suc m) e → ((e ≡ m) × S e) ⊎ Upto S m e
    split e l = at (last_or m e l.0)
      where
        at : (e ≡ m) ⊎ (e < m) → ((e ≡ m) × S e) ⊎ Upto S m e
        at (inl d) = inl (d, l.1)
        at (inr k) = inr (k, l.1)

    go : IsBare s (Upto S m) ⊎ ((o : ℕ) × IsFirst s g ks (Upto S m) o) → (S m × (pos 0 <ℤ s m)) ⊎ (S m → ¬ (pos 0 <ℤ s m)) → IsBare s (Upto S (suc m)) ⊎ ((o : ℕ) × IsFirst s g ks (Upto S (suc m)) o)
    go (inl bare) (inr not_m) = inl (λ e l. each e (split e l))
      where
        each : (e : ℕ) → ((e ≡ m) × S e) ⊎ Upto S m e → ¬ (pos 0 <ℤ s e)
        each e (inl d) k = not_m (subst S d.0 d.1) (subst (λ i. pos 0 <ℤ s i) d.0 k)
        each e (inr l) k = bare e l k
    go (inl bare) (inl ahead_m) = inr (m, record { on = (omega arith, ahead_m.0); over = ahead_m.1; ahead = λ e l k d. each e (split e l) k d })
      where
        each : (e : ℕ) → ((e ≡ m) × S e) ⊎ Upto S m e → pos 0 <ℤ s e → e ≢ m → IsLexAbove (g m e) ks
        each e (inl d) k n = absurd (n d.0)
        each e (inr l) k n = absurd (bare e l k)
    go (inr r) (inr not_m) = inr (r.0, kept r.0 r.1)
      where
        each : (o : ℕ) → IsFirst s g ks (Upto S m) o → (e : ℕ) → ((e ≡ m) × S e) ⊎ Upto S m e → pos 0 <ℤ s e → e ≢ o → IsLexAbove (g o e) ks
        each o r e (inl d) k n = absurd (not_m (subst S d.0 d.1) (subst (λ i. pos 0 <ℤ s i) d.0 k))
        each o r e (inr l) k n = r.ahead e l k n

        kept : (o : ℕ) → IsFirst s g ks (Upto S m) o → IsFirst s g ks (Upto S (suc m)) o
        kept o r = record { on = further o r.on; over = r.over; ahead = λ e l k d. each o r e (split e l) k d }
    go (inr r) (inl ahead_m) = inr (compared r.0 r.1 (lex_sign_of (g r.0 m) ks))
      where
        stays : (o : ℕ) → IsFirst s g ks (Upto S m) o → IsLexAbove (g o m) ks → (e : ℕ) → ((e ≡ m) × S e) ⊎ Upto S m e → pos 0 <ℤ s e → e ≢ o → IsLexAbove (g o e) ks
        stays o r c e (inl d) k n = subst (λ i. IsLexAbove (g o i) ks) (sym d.0) c
        stays o r c e (inr l) k n = r.ahead e l k n

        gives : (o : ℕ) → IsFirst s g ks (Upto S m) o → IsLexBelow (g o m) ks → (e : ℕ) → ((e ≡ m) × S e) ⊎ Upto S m e → (e ≡ o) ⊎ (e ≡ o → ⊥) → pos 0 <ℤ s e → e ≢ m → IsLexAbove (g m e) ks
        gives o r c e (inl d) _ k n = absurd (n d.0)
        gives o r c e (inr l) (inl d) k n = subst (λ i. IsLexAbove (g m i) ks) (sym d) (above_of p o m c)
        gives o r c e (inr l) (inr d) k n = above_trans p m o e ahead_m.1 r.over k (above_of p o m c) (r.ahead e l k d)

        compared : (o : ℕ) → IsFirst s g ks (Upto S m) o → IsLexAbove (g o m) ks ⊎ (IsZeroAt (g o m) ks ⊎ IsLexBelow (g o m) ks) → (q : ℕ) × IsFirst s g ks (Upto S (suc m)) q
        compared o r (inl c) = (o, record { on = further o r.on; over = r.over; ahead = λ e l k d. stays o r c e (split e l) k d })
        compared o r (inr (inl z)) = let l = r.on.0 in
            absurd (p.apart o m (omega arith) (p.other m (above_not_zero (s m) ahead_m.1)) (λ e. omega arith) (above_not_zero (s o) r.over) z)
        compared o r (inr (inr c)) = (m, record { on = (omega arith, ahead_m.0); over = ahead_m.1; ahead = λ e l k d. gives o r c e (split e l) (same_or_not e o) k d })

-- S is a set of numbers below n
pub record IsSet (S : ℕ → Type 0) (n : ℕ) : Type 0 where
  pub decided : (e : ℕ) → S e ⊎ ¬ S e
  pub below : (e : ℕ) → S e → e < n

-- of the points on the positive side one is first, if there is any
pub first_of : {f : Face} {s : ℕ → ℤ} {g : ℕ → ℕ → ℕ → ℤ} {ks : List ℕ} {n : ℕ} → IsPencil f s g ks n → (S : ℕ → Type 0) → IsSet S n → IsBare s S ⊎ ((o : ℕ) × IsFirst s g ks S o)
first_of {f} {s} {g} {ks} {n} p S set = go (first_upto p S set.decided n (omega arith))
  where
    go : IsBare s (Upto S n) ⊎ ((o : ℕ) × IsFirst s g ks (Upto S n) o) → IsBare s S ⊎ ((o : ℕ) × IsFirst s g ks S o)
    go (inl bare) = inl (λ e l. bare e (set.below e l, l))
    go (inr r) = inr (r.0, record { on = r.1.on.1; over = r.1.over; ahead = λ e l k d. r.1.ahead e (set.below e l, l) k d })

-- ---- the neighbor across a face

-- a first row has all points above it, where there is a low row on the other side of the face
pub neighbor : {f : Face} {s : ℕ → ℤ} {g : ℕ → ℕ → ℕ → ℤ} {ks : List ℕ} {n : ℕ} {S : ℕ → Type 0} → IsPencil f s g ks n → (a o : ℕ) → IsLowUnder f s g ks S a → IsFirst s g ks S o → IsLow f s g ks S o
neighbor {f} {s} {g} {ks} {n} {S} p a o low first = record { on = first.on; over = first.over; others = λ e l h d. go e l h d (sign_of (s e)) }
  where
    solved : (e k : ℕ) → neg_ℤ (s a) *ℤ g o e k ≡ s o *ℤ neg_ℤ (g a e k) +ℤ neg_ℤ (s e) *ℤ neg_ℤ (g a o k)
    solved e k = solve-under (s a) (g o e k) (s o) (g a e k) (s e) (g a o k) (p.relation a o e k)

    across : IsLexBelow (g a o) ks
    across = low.others o first.on (p.other o (above_not_zero (s o) first.over)) (apart_sides s o a first.over low.under)

    go : (e : ℕ) → S e → IsOther f e → e ≢ o → (pos 0 <ℤ s e) ⊎ ((s e ≡ pos 0) ⊎ (pos 0 <ℤ neg_ℤ (s e))) → IsLexAbove (g o e) ks
    go e l h d (inl k) = first.ahead e l k d
    go e l h d (inr (inl z)) =
        sum_first (neg_ℤ (s a)) (s o) (neg_ℤ (s e)) (g o e) (λ k. neg_ℤ (g a e k)) (λ k. neg_ℤ (g a o k)) ks low.under first.over (neg_zero_at_least (s e) z) (solved e)
        (low.others e l h (λ q. below_not_zero (s a) low.under (sym (ap s q) ∙ z))) (inl across)
    go e l h d (inr (inr k)) =
        sum_second (neg_ℤ (s a)) (s o) (neg_ℤ (s e)) (g o e) (λ k. neg_ℤ (g a e k)) (λ k. neg_ℤ (g a o k)) ks low.under (at_least (s o) first.over) k (solved e)
        (under_at_most p a low e l h) across

-- two low rows on one side of a face are the same
pub low_unique : {f : Face} {s : ℕ → ℤ} {g : ℕ → ℕ → ℕ → ℤ} {ks : List ℕ} {n : ℕ} {S : ℕ → Type 0} → IsPencil f s g ks n → (o q : ℕ) → IsLow f s g ks S o → IsLow f s g ks S q → o ≡ q
low_unique {f} {s} {g} {ks} {n} {S} p o q ho hq = go (same_or_not o q)
  where
    go : (o ≡ q) ⊎ (o ≡ q → ⊥) → o ≡ q
    go (inl e) = e
    go (inr d) = absurd (not_both (g o q) ks (ho.others q hq.on (p.other q (above_not_zero (s q) hq.over)) (flip o q d))
        (below_of p q o (hq.others o ho.on (p.other o (above_not_zero (s o) ho.over)) d)))

pub under_unique : {f : Face} {s : ℕ → ℤ} {g : ℕ → ℕ → ℕ → ℤ} {ks : List ℕ} {n : ℕ} {S : ℕ → Type 0} → IsPencil f s g ks n → (a b : ℕ) → IsLowUnder f s g ks S a → IsLowUnder f s g ks S b → a ≡ b
under_unique {f} {s} {g} {ks} {n} {S} p a b ha hb = low_unique (turned f s g ks n p) a b (as_low a ha) (as_low b hb)
  where
    as_low : (a : ℕ) → IsLowUnder f s g ks S a → IsLow f (λ o. neg_ℤ (s o)) (λ o e k. neg_ℤ (g o e k)) ks S a
    as_low a h = record { on = h.on; over = h.under; others = h.others }
