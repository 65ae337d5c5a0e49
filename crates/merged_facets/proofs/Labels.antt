-- Groups of numbers, each named by its least member.
use Rattle.std.proofs.Common.{◌≡◌, ◌≢◌, ◌⊎◌, inl, inr, ℕ, ◌+◌, ◌<◌, ◌≤◌, List, [], ◌∷◌, ◌++◌, take, drop, length, get_or, ap, sym, ◌∙◌, subst, arith, eq-eqb, ne_eqb}
use Rattle.std.specs.Prelude.{◌==◌, if◌then◌else◌, min, max}
use Rattle.std.proofs.Math.ListN.{set}
use Rattle.std.proofs.lemmas.List.{length-set, length-append, get_or-set_same, get_or-set_other, get_or_push, get_or_append_left, take_all, take-append-le}
use Rattle.merged_facets.specs.Labels.{IsForest, AreLabels, joined_label, IsIdentity}

same_or_other : (a b : ℕ) → (a ≡ b) ⊎ (a ≢ b)
same_or_other a b = grind arith

yes : (a b x y : ℕ) → a ≡ b → (if a == b then x else y) ≡ x
yes a b x y e = ap (λ t. if t then x else y) (eq-eqb a b e)

no : (a b x y : ℕ) → a ≢ b → (if a == b then x else y) ≡ y
no a b x y e = ap (λ t. if t then x else y) (ne_eqb a b e)

-- ---- one number leads elsewhere

within : (down : List ℕ) (i v j : ℕ) → j < length (set down i v) → j < length down
within down i v j h = omega (arith, length-set down i v)

pub forest_set : (down : List ℕ) (i v : ℕ) → i < length down → v ≤ i → IsForest down → IsForest (set down i v)
forest_set down i v there least h j l = go (same_or_other j i)
  where
    go : (j ≡ i) ⊎ (j ≢ i) → get_or (set down i v) j 0 ≤ j
    go (inl e) = let k = ap (λ n. get_or (set down i v) n 0) e ∙ get_or-set_same down i v 0 there in omega arith
    go (inr n) = let k = get_or-set_other down i j v 0 n in let m = h j (within down i v j l) in omega arith

-- further down the way that it went
pub labels_set : (down : List ℕ) (label : ℕ → ℕ) (i v : ℕ) → i < length down → v ≤ get_or down i 0 → IsForest down → label v ≡ label i → AreLabels down label
    → AreLabels (set down i v) label
labels_set down label i v there less forest same h = record { least = h.least; again = h.again; kept = kept; own = own }
  where
    kept : (j : ℕ) → j < length (set down i v) → label (get_or (set down i v) j 0) ≡ label j
    kept j l = go (same_or_other j i)
      where
        go : (j ≡ i) ⊎ (j ≢ i) → label (get_or (set down i v) j 0) ≡ label j
        go (inl e) = ap label (ap (λ n. get_or (set down i v) n 0) e ∙ get_or-set_same down i v 0 there) ∙ same ∙ ap label (sym e)
        go (inr n) = ap label (get_or-set_other down i j v 0 n) ∙ h.kept j (within down i v j l)

    own : (j : ℕ) → j < length (set down i v) → get_or (set down i v) j 0 ≡ j → label j ≡ j
    own j l e = go (same_or_other j i)
      where
        go : (j ≡ i) ⊎ (j ≢ i) → label j ≡ j
        go (inl d) =
            let k = ap (λ n. get_or (set down i v) n 0) d ∙ get_or-set_same down i v 0 there in
            let f = forest i there in
            let r : get_or down i 0 ≡ i = omega arith in
            ap label d ∙ h.own i there r ∙ sym d
        go (inr n) = h.own j (within down i v j l) (sym (get_or-set_other down i j v 0 n) ∙ e)

-- ---- two groups are made one

pub labels_join : (down : List ℕ) (label : ℕ → ℕ) (m n : ℕ) → max m n < length down → label m ≡ m → label n ≡ n → AreLabels down label
    → AreLabels (set down (max m n) (min m n)) (joined_label m n label)
labels_join down label m n there at_m at_n h = record { least = least; again = again; kept = kept; own = own }
  where
    -- the greater label, and the lesser
    high : label (max m n) ≡ max m n
    high = go (either m n)
      where
        either : (m n : ℕ) → (max m n ≡ m) ⊎ (max m n ≡ n)
        either m n = grind arith

        go : (max m n ≡ m) ⊎ (max m n ≡ n) → label (max m n) ≡ max m n
        go (inl e) = ap label e ∙ at_m ∙ sym e
        go (inr e) = ap label e ∙ at_n ∙ sym e

    low : label (min m n) ≡ min m n
    low = go (either m n)
      where
        either : (m n : ℕ) → (min m n ≡ m) ⊎ (min m n ≡ n)
        either m n = grind arith

        go : (min m n ≡ m) ⊎ (min m n ≡ n) → label (min m n) ≡ min m n
        go (inl e) = ap label e ∙ at_m ∙ sym e
        go (inr e) = ap label e ∙ at_n ∙ sym e

    in_order : min m n ≤ max m n
    in_order = omega arith

    -- the lesser label names itself
    low_again : joined_label m n label (min m n) ≡ min m n
    low_again = go (same_or_other (label (min m n)) (max m n))
      where
        go : (label (min m n) ≡ max m n) ⊎ (label (min m n) ≢ max m n) → joined_label m n label (min m n) ≡ min m n
        go (inl e) = yes (label (min m n)) (max m n) (min m n) (label (min m n)) e
        go (inr e) = no (label (min m n)) (max m n) (min m n) (label (min m n)) e ∙ low

    least : (j : ℕ) → joined_label m n label j ≤ j
    least j = go (same_or_other (label j) (max m n))
      where
        go : (label j ≡ max m n) ⊎ (label j ≢ max m n) → joined_label m n label j ≤ j
        go (inl e) = let k = yes (label j) (max m n) (min m n) (label j) e in let l = h.least j in let o = in_order in omega arith
        go (inr e) = let k = no (label j) (max m n) (min m n) (label j) e in let l = h.least j in omega arith

    again : (j : ℕ) → joined_label m n label (joined_label m n label j) ≡ joined_label m n label j
    again j = go (same_or_other (label j) (max m n))
      where
        go : (label j ≡ max m n) ⊎ (label j ≢ max m n) → joined_label m n label (joined_label m n label j) ≡ joined_label m n label j
        go (inl e) = let k = yes (label j) (max m n) (min m n) (label j) e in ap (joined_label m n label) k ∙ low_again ∙ sym k
        go (inr e) =
            let k = no (label j) (max m n) (min m n) (label j) e in
            let d : label (label j) ≢ max m n = λ f. e (sym (h.again j) ∙ f) in
            ap (joined_label m n label) k ∙ no (label (label j)) (max m n) (min m n) (label (label j)) d ∙ h.again j ∙ sym k

    kept : (j : ℕ) → j < length (set down (max m n) (min m n)) → joined_label m n label (get_or (set down (max m n) (min m n)) j 0) ≡ joined_label m n label j
    kept j l = go (same_or_other j (max m n))
      where
        go : (j ≡ max m n) ⊎ (j ≢ max m n) → joined_label m n label (get_or (set down (max m n) (min m n)) j 0) ≡ joined_label m n label j
        go (inl e) =
            ap (joined_label m n label) (ap (λ i. get_or (set down (max m n) (min m n)) i 0) e ∙ get_or-set_same down (max m n) (min m n) 0 there)
            ∙ low_again ∙ sym (yes (label j) (max m n) (min m n) (label j) (ap label e ∙ high))
        go (inr d) =
            ap (joined_label m n label) (get_or-set_other down (max m n) j (min m n) 0 d)
            ∙ ap (λ k. if k == max m n then min m n else k) (h.kept j (within down (max m n) (min m n) j l))

    own : (j : ℕ) → j < length (set down (max m n) (min m n)) → get_or (set down (max m n) (min m n)) j 0 ≡ j → joined_label m n label j ≡ j
    own j l e = go (same_or_other j (max m n))
      where
        go : (j ≡ max m n) ⊎ (j ≢ max m n) → joined_label m n label j ≡ j
        go (inl d) =
            let k = ap (λ i. get_or (set down (max m n) (min m n)) i 0) d ∙ get_or-set_same down (max m n) (min m n) 0 there in
            yes (label j) (max m n) (min m n) (label j) (ap label d ∙ high) ∙ sym k ∙ e
        go (inr d) =
            let o = h.own j (within down (max m n) (min m n) j l) (sym (get_or-set_other down (max m n) j (min m n) 0 d) ∙ e) in
            no (label j) (max m n) (min m n) (label j) (λ f. d (sym o ∙ f)) ∙ o

-- the same, where the one label is the lesser
pub labels_join_at : (down : List ℕ) (label : ℕ → ℕ) (m n i v : ℕ) → i ≡ max m n → v ≡ min m n → i < length down → label m ≡ m → label n ≡ n → AreLabels down label
    → AreLabels (set down i v) (joined_label m n label)
labels_join_at down label m n i v ei ev there at_m at_n h =
    let l : max m n < length down = omega arith in
    subst (λ (p : ℕ). AreLabels (set down p v) (joined_label m n label)) (sym ei) (subst (λ (p : ℕ). AreLabels (set down (max m n) p) (joined_label m n label)) (sym ev) (labels_join down label m n l at_m at_n h))

-- ---- each number alone

pub identity_more : (down new : List ℕ) (n : ℕ) → IsIdentity down n → new ≡ down ++ n ∷ [] → IsIdentity new (n + 1)
identity_more down new n h is = record {
  long = let e = ap length is ∙ length-append down (n ∷ []) in let l = h.long in omega arith;
  each = λ i l. subst (λ (xs : List ℕ). get_or xs i 0 ≡ i) (sym is) (go i (before i n l));
}
  where
    before : (a b : ℕ) → a < b + 1 → (a < b) ⊎ (a ≡ b)
    before a b h = grind arith

    go : (i : ℕ) → (i < n) ⊎ (i ≡ n) → get_or (down ++ n ∷ []) i 0 ≡ i
    go i (inl less) = get_or_append_left down (n ∷ []) 0 i (omega (arith, h.long)) ∙ h.each i less
    go i (inr e) = get_or_push down n 0 i (h.long ∙ sym e) ∙ sym e

-- ---- what is written back into a vector

pub whole : (n : ℕ) (new items : List ℕ) → n ≡ length new → take n (new ++ drop (length new) items) ≡ new
whole n new items e = take-append-le n new (drop (length new) items) (omega arith) ∙ take_all n new (omega arith)
