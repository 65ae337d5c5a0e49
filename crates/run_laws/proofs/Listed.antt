-- The names of kept and added points.
use Rattle.std.proofs.Common.{◌≡◌, ◌⊎◌, inl, inr, ℕ, ◌+◌, ◌-◌, ◌<◌, List, ◌++◌, length, get_or, sym, subst, ◌∙◌, arith, length-append}
use Rattle.std.specs.List.{range_with_len}
use Rattle.std.proofs.lemmas.Bool.{cases_lt}
use Rattle.std.proofs.lemmas.List.{get_or_append_left, get_or-append-add, get_or_default}
use Rattle.std.proofs.lemmas.List.FromFn.{length-range_with_len, get_or-range_with_len}
use Rattle.sign_predicates.specs.Point.{Point, origin}
use Rattle.geo_laws.specs.Delaunay.{point}
use Rattle.node_files.specs.Folding.{IsFolded}
use Rattle.node_files.proofs.Folds.{names_long, kept_at}
use Rattle.run_laws.specs.Listed.{ListedNamesLaw}

module _ (listed points added : List Point) (names folded : List ℕ) (h : IsFolded listed points names folded) where
  behind : List ℕ
  behind = range_with_len (length listed) (length added)

  all : List ℕ
  all = names ++ behind

  long : length names ≡ length points
  long = names_long listed points names folded h

  all_long : length all ≡ length points + length added
  unfolding all behind
  all_long = omega (arith, long, length-append names (range_with_len (length listed) (length added)), length-range_with_len (length listed) (length added))

  kept_name : (i d : ℕ) → i < length points → get_or all i d ≡ get_or names i 0
  unfolding all behind
  kept_name i d lt = get_or_append_left names (range_with_len (length listed) (length added)) d i (omega (arith, long)) ∙ same names i d 0 (omega (arith, long))
    where
      same : (xs : List ℕ) (i d e : ℕ) → i < length xs → get_or xs i d ≡ get_or xs i e
      same xs i d e lt = get_or_default xs i d e lt

  added_name : (k d : ℕ) → k < length added → get_or all (length points + k) d ≡ length listed + k
  unfolding all behind
  added_name k d lt =
      subst (λ (n : ℕ). get_or (names ++ range_with_len (length listed) (length added)) (n + k) d ≡ length listed + k) long
      (get_or-append-add names (range_with_len (length listed) (length added)) k d ∙ get_or-range_with_len (length listed) (length added) k d lt)

  -- a point is kept, or the k-th one that is added
  abbrev IsAdded : ℕ → Type 0
  IsAdded i = (k : ℕ) × (k < length added) × (i ≡ length points + k)

  cases : (i : ℕ) → i < length points + length added → (i < length points) ⊎ IsAdded i
  cases i lt = elim (cases_lt i (length points)) [
    | inl before ↦ inl before
    | inr le ↦ inr (i - length points, omega arith, omega arith)
  ]

  rises : (i j d : ℕ) → i < j → j < length points + length added → get_or all i d < get_or all j d
  rises i j d less lt = go (cases i (omega arith)) (cases j lt)
    where
      kept_kept : i < length points → j < length points → get_or all i d < get_or all j d
      kept_kept li lj =
          let e = kept_name i d li in
          let f = kept_name j d lj in
          let up = h.ascending i j 0 less (omega (arith, long)) in
          omega arith

      kept_added : i < length points → IsAdded j → get_or all i d < get_or all j d
      kept_added li (k, lk, is) =
          let e = kept_name i d li in
          let f = subst (λ (n : ℕ). get_or all n d ≡ length listed + k) (sym is) (added_name k d lk) in
          let within = (kept_at listed points names folded h i li).0 in
          omega arith

      both_added : IsAdded i → IsAdded j → get_or all i d < get_or all j d
      both_added (k, lk, is) (m, lm, at) =
          let e = subst (λ (n : ℕ). get_or all n d ≡ length listed + k) (sym is) (added_name k d lk) in
          let f = subst (λ (n : ℕ). get_or all n d ≡ length listed + m) (sym at) (added_name m d lm) in
          omega arith

      go : (i < length points) ⊎ IsAdded i → (j < length points) ⊎ IsAdded j → get_or all i d < get_or all j d
      go (inl li) (inl lj) = kept_kept li lj
      go (inl li) (inr aj) = kept_added li aj
      go (inr (k, lk, is)) (inl lj) = absurd (omega arith)
      go (inr ai) (inr aj) = both_added ai aj

  same_point : (i : ℕ) → i < length points + length added → point (listed ++ added) (get_or all i 0) ≡ point (points ++ added) i
  same_point i lt = go (cases i lt)
    where
      go : (i < length points) ⊎ IsAdded i → point (listed ++ added) (get_or all i 0) ≡ point (points ++ added) i
      go (inl li) =
          let at = kept_at listed points names folded h i li in
          subst (λ (n : ℕ). point (listed ++ added) n ≡ point (points ++ added) i) (sym (kept_name i 0 li))
          (get_or_append_left listed added origin (get_or names i 0) at.0 ∙ sym at.1 ∙ sym (get_or_append_left points added origin i li))
      go (inr (k, lk, is)) =
          let name = subst (λ (n : ℕ). get_or all n 0 ≡ length listed + k) (sym is) (added_name k 0 lk) in
          subst (λ (n : ℕ). point (listed ++ added) n ≡ point (points ++ added) i) (sym name)
          (subst (λ (n : ℕ). point (listed ++ added) (length listed + k) ≡ point (points ++ added) n) (sym is)
          (get_or-append-add listed added k origin ∙ sym (get_or-append-add points added k origin)))

  below : (i d : ℕ) → i < length points + length added → get_or all i d < length listed + length added
  below i d lt = go (cases i lt)
    where
      go : (i < length points) ⊎ IsAdded i → get_or all i d < length listed + length added
      go (inl li) = let e = kept_name i d li in let within = (kept_at listed points names folded h i li).0 in omega arith
      go (inr (k, lk, is)) = let name = subst (λ (n : ℕ). get_or all n d ≡ length listed + k) (sym is) (added_name k d lk) in omega arith

pub listed_names : ListedNamesLaw
unfolding all behind
listed_names listed points added names folded h =
    let count = all_long listed points added names folded h in
    let ps = length-append points added in
    let qs = length-append listed added in (
      record {
        long = omega arith;
        rising = λ i j d less lt. rises listed points added names folded h i j d less (omega arith);
        same = λ i lt. same_point listed points added names folded h i (omega arith);
      },
      λ i d lt. let b = below listed points added names folded h i d (omega arith) in omega arith,
    )
