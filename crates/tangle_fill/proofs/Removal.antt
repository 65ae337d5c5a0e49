-- The rows of a Delaunay list that are not among new ones, and its faces with no point beyond them.
use Rattle.std.proofs.Common.{◌≡◌, ◌⊎◌, inl, inr, ℕ, ◌+◌, ◌<◌, ◌≤◌, pos, true, false, List, [], ◌∷◌, ◌++◌, length, sym, subst, arith}
use Rattle.std.specs.Prelude.{◌<ℤ◌, IsTrue, All, Any, Contains}
use Rattle.std.specs.List.{AllWithin, HoldsAt}
use Rattle.std.proofs.lemmas.List.Elements.{AllWithin-more, Contains-append_left, Contains-push, Contains-push_cases}
use Rattle.sign_predicates.specs.Point.{Point}
use Rattle.sign_predicates.specs.Orientation.{IsPositive}
use Rattle.geo_laws.specs.Delaunay.{point, corners, all_numbers, IsOn, IsDelaunay, IsDelaunayAmong, IsDelaunayList}
use Rattle.geo_laws.specs.OrientedFace.{Face, reversed}
use Rattle.geo_laws.specs.declared.tetrahedra.Tet.{Tet}
use Rattle.geo_laws.specs.declared.complex.FacetTriangle.{FacetTriangle}
use Rattle.geo_laws.proofs.Corners.{contains_below, all_within}
use Rattle.geo_laws.proofs.Members.{IsMember, some_true, any_true}
use Rattle.insert_laws.specs.Insertion.{IsFaceOf, HasNoneAmongBeyond}
use Rattle.insert_laws.proofs.Insert.{law_face_pairing}
use Rattle.crossing_laws.specs.Crossing.{faces_of, is_same}
use Rattle.crossing_laws.proofs.Faces.{Same, same_of, same_test, same_back, opposite_back, side-same}
use Rattle.refill_laws.proofs.SameFaces.{face_of_row, own_is_face, at_place}
use Rattle.tangle_laws.specs.Tangle.{lies_on, HasPointOn}
use Rattle.tangle_laws.proofs.Apart.{fails_true}
use Rattle.tangle_laws.proofs.Sides.{same_alike}
use Rattle.tangle_laws.proofs.Steps.{on_of_delaunay}
use Rattle.tangle_fill.specs.Indexed.{IsIndexed}
use Rattle.tangle_fill.specs.Removed.{AreAmong, IsRemoved, IsBareIn}
use Rattle.tangle_fill.specs.Change.{IsRest}
use Rattle.tangle_fill.specs.declared.growth.Growth.{Growth}
use Rattle.geo_laws.specs.Facet.{IsUncrossed}

-- ---- one row after another

-- so it is with the first i rows of the list
pub record IsRemovedBelow (old rows rest : List Tet) (i : ℕ) : Type 0 where
  pub within : AreAmong old rest
  pub others : AllWithin (λ t. Contains rows t ⊎ Contains rest t) old 0 i

pub removed_none : (old rows : List Tet) → IsRemovedBelow old rows [] 0
removed_none old rows = record { within = λ t c. absurd (none c.0 c.1); others = λ k d l h. absurd (omega arith) }
  where
    none : (k : ℕ) → k < 0 → ⊥
    none k h = omega arith

pub pass_kept : (old rows rest : List Tet) (i : ℕ) (row : Tet) → IsRemovedBelow old rows rest i → HoldsAt (λ u. u ≡ row) old i → Contains rows row → IsRemovedBelow old rows rest (i + 1)
pass_kept old rows rest i row h is c = record {
  within = h.within;
  others = AllWithin-more (λ t. Contains rows t ⊎ Contains rest t) old 0 i h.others (λ d. subst (λ t. Contains rows t ⊎ Contains rest t) (sym (is d)) (inl c));
}

pub take_removed : (old rows rest : List Tet) (i : ℕ) (row : Tet) → i < length old → IsRemovedBelow old rows rest i → HoldsAt (λ u. u ≡ row) old i → IsRemovedBelow old rows (rest ++ row ∷ []) (i + 1)
take_removed old rows rest i row l h is = record {
  within = λ t c. by t (Contains-push_cases rest row t c);
  others = AllWithin-more (Either (rest ++ row ∷ [])) old 0 i (λ k d a b. more _ (h.others k d a b)) (λ d. subst (Either (rest ++ row ∷ [])) (sym (is d)) (inr (Contains-push rest row)));
}
  where
    Either : List Tet → Tet → Type 0
    Either xs t = Contains rows t ⊎ Contains xs t

    more : (t : Tet) → Either rest t → Either (rest ++ row ∷ []) t
    more t (inl c) = inl c
    more t (inr c) = inr (Contains-append_left rest (row ∷ []) t c)

    by : (t : Tet) → Contains rest t ⊎ (row ≡ t) → Contains old t
    by t (inl c) = h.within t c
    by t (inr e) = subst (Contains old) e (i, l, is row)

pub rest_of : (old rows rest : List Tet) (i : ℕ) → length old ≤ i → IsRemovedBelow old rows rest i → IsRest old rows rest
rest_of old rows rest i l h = record {
  within = h.within;
  others = λ t c. subst (λ t. Contains rows t ⊎ Contains rest t) c.2 (h.others c.0 t (omega arith) (below c.0 c.1));
}
  where
    below : (k : ℕ) → k < length old → k < i
    below k h = omega arith

-- and found by their sides
pub removed_of : (old rows rest : List Tet) (removed : Growth) → IsRest old rows rest → removed.rows ≡ rest → IsIndexed removed → IsRemoved old rows removed
removed_of old rows rest removed h same indexed = record {
  within = λ t c. h.within t (subst (λ (xs : List Tet). Contains xs t) same c);
  others = λ t c. go t (h.others t c);
  indexed = indexed;
}
  where
    go : (t : Tet) → Contains rows t ⊎ Contains rest t → Contains rows t ⊎ Contains removed.rows t
    go t (inl c) = inl c
    go t (inr c) = inr (subst (λ (xs : List Tet). Contains xs t) (sym same) c)

-- ---- rows of a Delaunay list

pub removed_positive : (ps : List Point) (old rest : List Tet) → IsDelaunayList ps old → AreAmong old rest → (t : Tet) → Contains rest t → IsOn ps t × IsPositive (corners ps t)
removed_positive ps old rest list within t c = let d = (list.exactly t).0 (within t c) in (on_of_delaunay ps t d, d.is_positive)

-- where facets cross the removed rows, those that none crosses are kept
pub kept_of : (ps : List Point) (ts : List FacetTriangle) (old rows : List Tet) (removed : Growth) → IsRemoved old rows removed → All (λ t. ¬ IsUncrossed ps ts t) removed.rows
    → (t : Tet) → Contains old t → IsUncrossed ps ts t → Contains rows t
kept_of ps ts old rows removed parts crossed t c free = go (parts.others t c)
  where
    go : Contains rows t ⊎ Contains removed.rows t → Contains rows t
    go (inl k) = k
    go (inr k) = absurd (subst (λ u. ¬ IsUncrossed ps ts u) k.2 (crossed k.0 t k.1) free)

-- ---- a face of an old row that no old row has turned over has no point beyond it

pub none_of : (f : Face) (rows : List Tet) → All (λ t. lies_on f t ≡ false) rows → (s : Tet) → Contains rows s → lies_on f s ≡ true → ⊥
none_of f rows none s c lies = fails_true (lies_on f s) (subst (λ u. lies_on f u ≡ false) c.2 (none c.0 s c.1)) lies

-- beyond a face of an old row, where points lie there, lies another one
pub row_beyond : (ps : List Point) (old : List Tet) (f : Face) → IsDelaunayList ps old → Any (λ t. IsTrue (lies_on (reversed f) t)) old → HasPointOn ps f → (s : Tet) × Contains old s × (lies_on f s ≡ true)
row_beyond ps old f list b p =
    let g = some_true (is_same (reversed f)) (faces_of b.1) b.4 in
    at b.1 ((list.exactly b.1).0 (b.0, b.2, b.3)) g.0 g.1 (opposite_back g.0 f (same_back (reversed f) g.0 (same_of (reversed f) g.0 g.2)))
  where
    across : (g : Face) → Same f (reversed g) → (s : Tet) → IsDelaunay ps s → IsFaceOf ps (reversed g) s → (s : Tet) × Contains old s × (lies_on f s ≡ true)
    across g same s d face =
        let own = face_of_row ps s d.is_positive (reversed g) face in
        (s, (list.exactly s).1 d, any_true (is_same f) (faces_of s) own.face own.member (same_test f own.face (same_alike (reversed g) f own.face (same_back f (reversed g) same) own.same)))

    at : (u : Tet) → IsDelaunay ps u → (g : Face) → IsMember g (faces_of u) → Same f (reversed g) → (s : Tet) × Contains old s × (lies_on f s ≡ true)
    at u d g m same = go (law_face_pairing ps (all_numbers ps) (all_within ps) (reversed g) u d face)
      where
        face : IsFaceOf ps (reversed (reversed g)) u
        face = let place = at_place u g m in subst (λ (h : Face). IsFaceOf ps h u) (sym place.is) (own_is_face ps u d.is_positive place.place)

        go : HasNoneAmongBeyond ps (all_numbers ps) (reversed g) ⊎ ((s : Tet) × IsDelaunayAmong ps (all_numbers ps) s × IsFaceOf ps (reversed g) s) → (s : Tet) × Contains old s × (lies_on f s ≡ true)
        go (inl beyond) = absurd (beyond p.0 (contains_below (length ps) p.0 p.1) (subst (λ v. pos 0 <ℤ v) (side-same ps (point ps p.0) f (reversed g) same) p.2))
        go (inr s) = across g same s.0 s.1 s.2

-- so no point does, where none of the new and none of the removed rows lies there
pub none_beyond : (ps : List Point) (old rows : List Tet) (removed : Growth) (f : Face) → IsDelaunayList ps old → IsRemoved old rows removed → ((s : Tet) → Contains rows s → lies_on f s ≡ true → ⊥) → IsBareIn old removed.rows f → HasPointOn ps f → ⊥
none_beyond ps old rows removed f list parts none bare p = let s = row_beyond ps old f list bare.behind p in go s.0 s.2 (parts.others s.0 s.1)
  where
    go : (s : Tet) → lies_on f s ≡ true → Contains rows s ⊎ Contains removed.rows s → ⊥
    go s lies (inl c) = none s c lies
    go s lies (inr c) = none_of f removed.rows bare.none s c lies
