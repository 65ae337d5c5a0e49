-- Tests of integers, and numbers sorted by a key: sorting keeps the members.
use Rattle.std.proofs.Common.{◌≡◌, ◌⊎◌, inl, inr, ℕ, ℤ, pos, negsuc, ◌<ℤ◌, ◌≤ℤ◌, Bool, true, false, List, [], ◌∷◌, sym, subst, arith}
use Rattle.std.specs.Prelude.{int_lt, int_le, if◌then◌else◌}
use Rattle.std.proofs.lemmas.Int.{ints}
use Rattle.std.proofs.lemmas.Bool.{ltb-true, ltb-false, leb-true}
use Rattle.geo_laws.specs.Segment.{place_by, sort_by}
use Rattle.geo_laws.proofs.Members.{IsMember, here, there, in_cons, in_head}

pub int_lt_true : (a b : ℤ) → int_lt a b ≡ true → a <ℤ b
int_lt_true (pos a) (pos b) e = omega (arith, ints, ltb-true a b e)
int_lt_true (pos a) (negsuc b) e = cc
int_lt_true (negsuc a) (pos b) e = omega (arith, ints)
int_lt_true (negsuc a) (negsuc b) e = omega (arith, ints, ltb-true b a e)

pub int_lt_false : (a b : ℤ) → int_lt a b ≡ false → b ≤ℤ a
int_lt_false (pos a) (pos b) e = omega (arith, ints, ltb-false a b e)
int_lt_false (pos a) (negsuc b) e = omega (arith, ints)
int_lt_false (negsuc a) (pos b) e = cc
int_lt_false (negsuc a) (negsuc b) e = omega (arith, ints, ltb-false b a e)

pub int_le_true : (a b : ℤ) → int_le a b ≡ true → a ≤ℤ b
int_le_true (pos a) (pos b) e = omega (arith, ints, leb-true a b e)
int_le_true (pos a) (negsuc b) e = cc
int_le_true (negsuc a) (pos b) e = omega (arith, ints)
int_le_true (negsuc a) (negsuc b) e = omega (arith, ints, leb-true b a e)

in_place : (key : ℕ → ℤ) (i : ℕ) (s : List ℕ) → IsMember i (place_by key i s)
in_place key i [] = here
in_place key i (j ∷ js) = go (int_lt (key j) (key i)) (in_place key i js)
  where
    go : (b : Bool) → IsMember i (place_by key i js) → IsMember i (if b then j ∷ place_by key i js else i ∷ j ∷ js)
    go true m = there m
    go false m = here

still_in : (key : ℕ → ℤ) (i k : ℕ) (s : List ℕ) → IsMember k s → IsMember k (place_by key i s)
still_in key i k [] m = elim m [ ]
still_in key i k (j ∷ js) m = go (int_lt (key j) (key i)) (in_cons k j js m) (still_in key i k js) m
  where
    go : (b : Bool) → (k ≡ j) ⊎ IsMember k js → (IsMember k js → IsMember k (place_by key i js)) → IsMember k (j ∷ js) → IsMember k (if b then j ∷ place_by key i js else i ∷ j ∷ js)
    go true (inl e) rest m = in_head k j (place_by key i js) e
    go true (inr n) rest m = there (rest n)
    go false c rest m = there m

pub from_place : (key : ℕ → ℤ) (i k : ℕ) (s : List ℕ) → IsMember k (place_by key i s) → (k ≡ i) ⊎ IsMember k s
from_place key i k [] m = in_cons k i [] m
from_place key i k (j ∷ js) m = go (int_lt (key j) (key i)) m (from_place key i k js)
  where
    later : (k ≡ i) ⊎ IsMember k js → (k ≡ i) ⊎ IsMember k (j ∷ js)
    later (inl e) = inl e
    later (inr n) = inr (there n)

    at_head : (k ≡ j) ⊎ IsMember k (place_by key i js) → (IsMember k (place_by key i js) → (k ≡ i) ⊎ IsMember k js) → (k ≡ i) ⊎ IsMember k (j ∷ js)
    at_head (inl e) rest = inr (in_head k j js e)
    at_head (inr n) rest = later (rest n)

    go : (b : Bool) → IsMember k (if b then j ∷ place_by key i js else i ∷ j ∷ js) → (IsMember k (place_by key i js) → (k ≡ i) ⊎ IsMember k js) → (k ≡ i) ⊎ IsMember k (j ∷ js)
    go true n rest = at_head (in_cons k j (place_by key i js) n) rest
    go false n rest = in_cons k i (j ∷ js) n

-- sorting keeps the members
pub to_sorted : (key : ℕ → ℤ) (k : ℕ) (s : List ℕ) → IsMember k s → IsMember k (sort_by key s)
to_sorted key k [] m = elim m [ ]
to_sorted key k (i ∷ s) m = go (in_cons k i s m) (to_sorted key k s)
  where
    go : (k ≡ i) ⊎ IsMember k s → (IsMember k s → IsMember k (sort_by key s)) → IsMember k (place_by key i (sort_by key s))
    go (inl e) rest = subst (λ n. IsMember n (place_by key i (sort_by key s))) (sym e) (in_place key i (sort_by key s))
    go (inr n) rest = still_in key i k (sort_by key s) (rest n)

pub from_sorted : (key : ℕ → ℤ) (k : ℕ) (s : List ℕ) → IsMember k (sort_by key s) → IsMember k s
from_sorted key k [] m = m
from_sorted key k (i ∷ s) m = go (from_place key i k (sort_by key s) m) (from_sorted key k s)
  where
    go : (k ≡ i) ⊎ IsMember k (sort_by key s) → (IsMember k (sort_by key s) → IsMember k s) → IsMember k (i ∷ s)
    go (inl e) rest = in_head k i s e
    go (inr n) rest = there (rest n)
