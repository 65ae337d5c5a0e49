-- The rows of a part in the whole list, and their marks.
use Rattle.std.proofs.Common.{◌≡◌, ◌⊎◌, inl, inr, ℕ, zero, suc, ◌+◌, ◌<◌, ◌≤◌, Option, List, [], ◌∷◌, ◌++◌, length, refl, ap, sym, subst, ◌∙◌, arith}
use Rattle.std.specs.Prelude.{◌↔◌, Contains, AllPairs, slice_index_or}
use Rattle.sign_predicates.specs.Point.{origin, as_rational}
use Rattle.geo_laws.specs.Delaunay.{RowBefore, row_at}
use Rattle.geo_laws.specs.declared.tetrahedra.Tet.{Tet}
use Rattle.geo_laws.proofs.Ascending.{before_itself}
use Rattle.path_laws.specs.Places.{KeepsOut}
use Rattle.path_laws.proofs.KeptPart.{law_kept_part}
use Rattle.hole_carve.specs.Marks.{mark_at, region_point, IsInRegion, IsFirstOf, IsPlaceFrom, KeptMarksLaw}
use Rattle.hole_carve.proofs.Carved.{listed, numbered}
use Rattle.hole_carve.proofs.Marked.{first_as}

order : (a b : ℕ) → (a < b) ⊎ (b ≤ a)
order a b = grind arith

-- rows that ascend are at most once in their list, and stand in their order
pub in_order : (rows : List Tet) → AllPairs RowBefore rows → (i j : ℕ) → i < length rows → j < length rows → row_at rows i ≡ row_at rows j → i ≤ j
in_order rows up i j h k e = go (order j i)
  where
    go : (j < i) ⊎ (i ≤ j) → i ≤ j
    go (inl l) = absurd (before_itself (row_at rows j) (subst (RowBefore (row_at rows j)) e (up j i (record { a = 0; b = 0; c = 0; d = 0 }) l h)))
    go (inr l) = l

pub only_place : (rows : List Tet) → AllPairs RowBefore rows → (i j : ℕ) → i < length rows → j < length rows → row_at rows i ≡ row_at rows j → i ≡ j
only_place rows up i j h k e = let a = in_order rows up i j h k e in let b = in_order rows up j i k h (sym e) in omega arith

-- a row of the list that stands from a place on is found there
pub is_found : (rows : List Tet) (row : Tet) (from place : ℕ) → IsPlaceFrom rows row from place → Contains rows row → ((j : ℕ) → j < length rows → row_at rows j ≡ row → from ≤ j) → place < length rows
is_found rows row from place p c ahead = let n = numbered rows row c in go n.0 n.1 n.2 (order n.0 place)
  where
    go : (j : ℕ) → j < length rows → row_at rows j ≡ row → (j < place) ⊎ (place ≤ j) → place < length rows
    go j h e (inl l) = absurd (p.least j (ahead j h e) l e)
    go j h e (inr l) = omega (arith, h, l)

-- and the later rows of an ascending part stand there or later
pub still_ahead : (rows kept : List Tet) → AllPairs RowBefore rows → AllPairs RowBefore kept → (at place : ℕ) → place < length rows → row_at rows place ≡ row_at kept at
    → (k j : ℕ) → at < k → k < length kept → j < length rows → row_at rows j ≡ row_at kept k → place ≤ j
still_ahead rows kept up kept_up at place h e k j l m n d = go (order j place)
  where
    none : Tet
    none = record { a = 0; b = 0; c = 0; d = 0 }

    before : RowBefore (row_at rows place) (row_at rows j)
    before = subst (λ s. RowBefore s (row_at rows j)) (sym e) (subst (RowBefore (row_at kept at)) (sym d) (kept_up at k none l m))

    go : (j < place) ⊎ (place ≤ j) → place ≤ j
    go (inl b) = absurd (not_both (row_at rows place) (row_at rows j) before (up j place none b h))
      where
        not_both : (s t : Tet) → RowBefore s t → RowBefore t s → ⊥
        not_both s t a b = grind (arith, a, b)
    go (inr b) = b

-- ---- marks in order

pub mark_before : (marks : List (Option ℕ)) (m : Option ℕ) (k : ℕ) → k < length marks → mark_at (marks ++ m ∷ []) k ≡ mark_at marks k
mark_before [] m k h = absurd (omega arith)
mark_before (n ∷ marks) m zero h = refl
mark_before (n ∷ marks) m (suc k) h = mark_before marks m k (omega arith)

pub mark_last : (marks : List (Option ℕ)) (m : Option ℕ) (k : ℕ) → length marks ≡ k → mark_at (marks ++ m ∷ []) k ≡ m
mark_last [] m zero h = refl
mark_last [] m (suc k) h = absurd (omega arith)
mark_last (n ∷ marks) m zero h = absurd (omega arith)
mark_last (n ∷ marks) m (suc k) h = mark_last marks m k (omega arith)

pub one_longer : (marks : List (Option ℕ)) (m : Option ℕ) → length (marks ++ m ∷ []) ≡ length marks + 1
one_longer [] m = refl
one_longer (n ∷ marks) m = let e = one_longer marks m in omega arith

-- the marks of the rows so far, and of one more
pub each_next : (rows kept : List Tet) → AllPairs RowBefore rows → (marks own own' : List (Option ℕ)) (at place : ℕ) (m : Option ℕ)
    → place < length rows → row_at rows place ≡ row_at kept at → mark_at marks place ≡ m → length own ≡ at → own' ≡ own ++ m ∷ []
    → ((k j : ℕ) → k < at → j < length rows → row_at rows j ≡ row_at kept k → mark_at own k ≡ mark_at marks j)
    → (k j : ℕ) → k < at + 1 → j < length rows → row_at rows j ≡ row_at kept k → mark_at own' k ≡ mark_at marks j
each_next rows kept up marks own own' at place m h e is long more was k j l n d = ap (λ s. mark_at s k) more ∙ go (order k at)
  where
    go : (k < at) ⊎ (at ≤ k) → mark_at (own ++ m ∷ []) k ≡ mark_at marks j
    go (inl b) = mark_before own m k (omega arith) ∙ was k j b n d
    go (inr b) =
        let same : at ≡ k = omega arith in
        mark_last own m k (long ∙ same) ∙ sym is ∙ ap (mark_at marks) (only_place rows up place j h n (e ∙ ap (row_at kept) same ∙ sym d))

-- ---- the law

pub law_kept_marks : KeptMarksLaw
law_kept_marks carving ps ts whole holes regions part marks kept fill ws rs is are own = record { long = own.long; each = each }
  where
    out : KeepsOut carving ps ts whole holes part
    out = law_kept_part carving ps ts whole holes part fill ws is

    at : (i : ℕ) → i < length part → (j : ℕ) × (j < length whole) × (row_at whole j ≡ row_at part i)
    at i h = numbered whole (row_at part i) (is.of_whole (row_at part i) (listed part i h))

    each : (i : ℕ) → i < length part → IsFirstOf (λ k. IsInRegion ps ts part (region_point regions k) (row_at part i)) (length regions) (mark_at kept i)
    each i h =
        let j = at i h in
        first_as (λ k. IsInRegion ps ts whole (region_point regions k) (row_at whole j.0)) (λ k. IsInRegion ps ts part (region_point regions k) (row_at part i)) (length regions)
        (λ k l. by k l j.0 j.2) (mark_at kept i)
        (subst (IsFirstOf (λ k. IsInRegion ps ts whole (region_point regions k) (row_at whole j.0)) (length regions)) (sym (own.each i j.0 h j.1 j.2)) (are.each j.0 j.1))
      where
        by : (k : ℕ) → k < length regions → (j : ℕ) → row_at whole j ≡ row_at part i → IsInRegion ps ts whole (region_point regions k) (row_at whole j) ↔ IsInRegion ps ts part (region_point regions k) (row_at part i)
        by k l j e =
            let w = rs k (record { at = as_rational origin; attribute = [] }) l in
            let m = out.marks_are (row_at part i) (listed part i h) (region_point regions k) w in
            (λ p. m.1 (subst (IsInRegion ps ts whole (region_point regions k)) e p), λ p. subst (IsInRegion ps ts whole (region_point regions k)) (sym e) (m.0 p))

-- ---- one row of the part after the other

-- a row of the part, read with any row in place of one that isn't there
abbrev pub ReadsAt : List Tet → ℕ → Tet → Type 0
ReadsAt kept at row = (d : Tet) → slice_index_or kept at d ≡ row

pub row_found : (rows kept : List Tet) (at from place : ℕ) (row : Tet) → ReadsAt kept at row → at < length kept → ((t : Tet) → Contains kept t → Contains rows t)
    → ((k j : ℕ) → at ≤ k → k < length kept → j < length rows → row_at rows j ≡ row_at kept k → from ≤ j) → IsPlaceFrom rows row from place → place < length rows
row_found rows kept at from place row reads h part ahead p =
    is_found rows row from place p (part row (at, h, reads row)) (λ j l e. ahead at j (omega arith) h l (e ∙ sym (reads (record { a = 0; b = 0; c = 0; d = 0 }))))
