-- The rows without a mark.
use Rattle.std.proofs.Common.{◌≡◌, ◌⊎◌, inl, inr, ℕ, zero, suc, ◌+◌, ◌<◌, ◌≤◌, Bool, true, false, cond, List, [], ◌∷◌, ◌++◌, length, refl, ap, sym, subst, ◌∙◌, arith}
use Rattle.std.specs.Prelude.{take}
use Rattle.geo_laws.specs.declared.tetrahedra.Tet.{Tet}
use Rattle.geo_laws.proofs.Members.{IsMember, here, there, in_cons, in_head}
use Rattle.hole_carve.specs.Kept.{unmarked}
use Rattle.geo_laws.proofs.Ascending.{Rises, more, pairs_of, rises_of}
use Rattle.geo_laws.specs.Delaunay.{RowBefore, row_at}
use Rattle.std.specs.Prelude.{AllPairs}
use Rattle.geo_laws.specs.Marks.{is_marked}

appended_past : (m : Bool) (t : Tet) (xs ys : List Tet) → cond m (xs ++ ys) (t ∷ xs ++ ys) ≡ cond m xs (t ∷ xs) ++ ys
appended_past true t xs ys = refl
appended_past false t xs ys = refl

-- one row more that is marked
pub unmarked_marked : (rows : List Tet) (marks : List Bool) (k : ℕ) → k < length rows → is_marked marks k ≡ true → unmarked (take (k + 1) rows) marks ≡ unmarked (take k rows) marks
unmarked_marked [] marks k h e = absurd (omega arith)
unmarked_marked (t ∷ rows) [] k h e = absurd (never e)
  where
    never : false ≡ true → ⊥
    never e = cc
unmarked_marked (t ∷ rows) (m ∷ marks) zero h e = ap (λ b. cond b [] (t ∷ [])) e
unmarked_marked (t ∷ rows) (m ∷ marks) (suc k) h e =
    ap (λ n. unmarked (take n (t ∷ rows)) (m ∷ marks)) (let z : suc k + 1 ≡ suc (k + 1) = omega arith in z)
    ∙ ap (λ s. cond m s (t ∷ s)) (unmarked_marked rows marks k (omega arith) e)

-- and one that isn't
pub unmarked_next : (rows : List Tet) (marks : List Bool) (k : ℕ) → k < length rows → k < length marks → is_marked marks k ≡ false → unmarked (take (k + 1) rows) marks ≡ unmarked (take k rows) marks ++ row_at rows k ∷ []
unmarked_next [] marks k h l e = absurd (omega arith)
unmarked_next (t ∷ rows) [] k h l e = absurd (omega arith)
unmarked_next (t ∷ rows) (m ∷ marks) zero h l e = ap (λ b. cond b [] (t ∷ [])) e
unmarked_next (t ∷ rows) (m ∷ marks) (suc k) h l e =
    ap (λ n. unmarked (take n (t ∷ rows)) (m ∷ marks)) (let z : suc k + 1 ≡ suc (k + 1) = omega arith in z)
    ∙ ap (λ s. cond m s (t ∷ s)) (unmarked_next rows marks k (omega arith) (omega arith) e)
    ∙ appended_past m t (unmarked (take k rows) marks) (row_at rows k ∷ [])

-- ---- which rows they are

pub of_unmarked : (rows : List Tet) (marks : List Bool) → length rows ≤ length marks → (t : Tet) → IsMember t (unmarked rows marks) → (i : ℕ) × (i < length rows) × (row_at rows i ≡ t) × (is_marked marks i ≡ false)
of_unmarked [] marks l t m = elim m [ ]
of_unmarked (r ∷ rows) [] l t m = absurd (omega arith)
of_unmarked (r ∷ rows) (b ∷ marks) l t m = go b refl m (of_unmarked rows marks (omega arith) t)
  where
    later : (i : ℕ) × (i < length rows) × (row_at rows i ≡ t) × (is_marked marks i ≡ false) → (i : ℕ) × (i < length (r ∷ rows)) × (row_at (r ∷ rows) i ≡ t) × (is_marked (b ∷ marks) i ≡ false)
    later (i, h, e, d) = (suc i, omega arith, e, d)

    first : (t ≡ r) ⊎ IsMember t (unmarked rows marks) → b ≡ false → (IsMember t (unmarked rows marks) → (i : ℕ) × (i < length rows) × (row_at rows i ≡ t) × (is_marked marks i ≡ false))
        → (i : ℕ) × (i < length (r ∷ rows)) × (row_at (r ∷ rows) i ≡ t) × (is_marked (b ∷ marks) i ≡ false)
    first (inl e) d rest = (0, omega arith, sym e, d)
    first (inr n) d rest = later (rest n)

    go : (c : Bool) → b ≡ c → IsMember t (cond c (unmarked rows marks) (r ∷ unmarked rows marks)) → (IsMember t (unmarked rows marks) → (i : ℕ) × (i < length rows) × (row_at rows i ≡ t) × (is_marked marks i ≡ false))
        → (i : ℕ) × (i < length (r ∷ rows)) × (row_at (r ∷ rows) i ≡ t) × (is_marked (b ∷ marks) i ≡ false)
    go true d n rest = later (rest n)
    go false d n rest = first (in_cons t r (unmarked rows marks) n) d rest

pub in_unmarked : (rows : List Tet) (marks : List Bool) (i : ℕ) → i < length rows → is_marked marks i ≡ false → IsMember (row_at rows i) (unmarked rows marks)
in_unmarked [] marks i h e = absurd (omega arith)
in_unmarked (t ∷ rows) [] zero h e = here
in_unmarked (t ∷ rows) [] (suc i) h e = there (all rows i (omega arith))
  where
    all : (s : List Tet) (k : ℕ) → k < length s → IsMember (row_at s k) s
    all [] k h = absurd (omega arith)
    all (r ∷ s) zero h = here
    all (r ∷ s) (suc k) h = there (all s k (omega arith))
in_unmarked (t ∷ rows) (b ∷ marks) zero h e = subst (λ c. IsMember t (cond c (unmarked rows marks) (t ∷ unmarked rows marks))) (sym e) here
in_unmarked (t ∷ rows) (b ∷ marks) (suc i) h e = go b (in_unmarked rows marks i (omega arith) e)
  where
    go : (c : Bool) → IsMember (row_at rows i) (unmarked rows marks) → IsMember (row_at rows i) (cond c (unmarked rows marks) (t ∷ unmarked rows marks))
    go true m = m
    go false m = there m

-- ---- their order

of_rest : (rows : List Tet) (marks : List Bool) (t : Tet) → IsMember t (unmarked rows marks) → IsMember t rows
of_rest [] marks t m = m
of_rest (r ∷ rows) [] t m = m
of_rest (r ∷ rows) (b ∷ marks) t m = go b m (of_rest rows marks t)
  where
    first : (t ≡ r) ⊎ IsMember t (unmarked rows marks) → (IsMember t (unmarked rows marks) → IsMember t rows) → IsMember t (r ∷ rows)
    first (inl e) rest = in_head t r rows e
    first (inr n) rest = there (rest n)

    go : (c : Bool) → IsMember t (cond c (unmarked rows marks) (r ∷ unmarked rows marks)) → (IsMember t (unmarked rows marks) → IsMember t rows) → IsMember t (r ∷ rows)
    go true n rest = there (rest n)
    go false n rest = first (in_cons t r (unmarked rows marks) n) rest

rises_unmarked : (rows : List Tet) (marks : List Bool) → Rises RowBefore rows → Rises RowBefore (unmarked rows marks)
rises_unmarked [] marks r = r
rises_unmarked (t ∷ rows) [] r = r
rises_unmarked (t ∷ rows) (b ∷ marks) (more first rest) = go b (rises_unmarked rows marks rest)
  where
    go : (c : Bool) → Rises RowBefore (unmarked rows marks) → Rises RowBefore (cond c (unmarked rows marks) (t ∷ unmarked rows marks))
    go true r = r
    go false r = more (λ u m. first u (of_rest rows marks u m)) r

pub unmarked_ascends : (rows : List Tet) (marks : List Bool) → AllPairs RowBefore rows → AllPairs RowBefore (unmarked rows marks)
unmarked_ascends rows marks h = pairs_of (unmarked rows marks) (rises_unmarked rows marks (rises_of rows h))
