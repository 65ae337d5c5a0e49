-- A list that differs from a Delaunay list in rows whose corners are marked, and of which the rows with marked faces pair up, pairs up in all
-- its faces. Source: a face that is not marked is one of old rows alone, and those pair up.
use Rattle.std.proofs.Common.{◌≡◌, ◌⊎◌, inl, inr, ℕ, zero, suc, ◌+◌, ◌<◌, ◌≤◌, Bool, true, false, List, [], ◌∷◌, ◌++◌, length, sym, subst, arith}
use Rattle.std.specs.Prelude.{IsTrue, All, AllPairs, Any, Contains}
use Rattle.std.specs.List.{AllByRecursion, AllWithin, HoldsAt, list_any, slice_index_or}
use Rattle.std.proofs.lemmas.List.Elements.{AllWithin-more, Contains-append_left, Contains-get_or, Contains-push, Contains-push_cases}
use Rattle.std.proofs.lemmas.List.Quantifiers.{all_pairs_push}
use Rattle.sign_predicates.specs.Point.{Point}
use Rattle.sign_predicates.specs.Centroid.{centroid}
use Rattle.sign_predicates.specs.Orientation.{IsPositive}
use Rattle.geo_laws.specs.Delaunay.{corners, IsDelaunay, IsDelaunayList, RowBefore}
use Rattle.geo_laws.specs.Faces.{row_faces}
use Rattle.geo_laws.specs.Mesh.{IsLocallyDelaunay}
use Rattle.geo_laws.specs.OrientedFace.{Face, reversed}
use Rattle.geo_laws.specs.declared.faces.Face as sorted_face
use Rattle.geo_laws.specs.declared.tetrahedra.Tet.{Tet}
use Rattle.geo_laws.specs.declared.complex.FacetTriangle.{FacetTriangle}
use Rattle.geo_laws.proofs.Corners.{all_within}
use Rattle.geo_laws.proofs.Members.{IsMember, here, some_true}
use Rattle.geo_laws.proofs.Radical.{law_radical}
use Rattle.crossing_laws.specs.Crossing.{faces_of, is_same}
use Rattle.crossing_laws.proofs.Tests.{all_at, decided}
use Rattle.crossing_laws.proofs.Count.{all_members}
use Rattle.crossing_laws.proofs.Faces.{Same, straight, onward, backward, same_of}
use Rattle.tangle_laws.specs.Tangle.{lies_on}
use Rattle.tangle_laws.specs.Growth.{ShareNoSide, IsFilled, IsSmooth, IsAlone, HoldsNudged}
use Rattle.tangle_laws.proofs.Apart.{fails_true}
use Rattle.tangle_laws.proofs.Counted.{holds_own, centroid_w}
use Rattle.tangle_laws.proofs.Nudged.{law_nudged}
use Rattle.tangle_laws.proofs.Sides.{on_own, common_inside, share_back}
use Rattle.tangle_laws.proofs.Steps.{on_of_delaunay, before_differ}
use Rattle.tangle_fill.specs.Fill.{as_oriented}
use Rattle.tangle_fill.specs.Accept.{IsRow, AreArrangedRows, HasTriangle, AreTriangleFaces, IsEvenRow, IsPairedGrowth}
use Rattle.tangle_fill.specs.Indexed.{IsIndexed}
use Rattle.tangle_fill.specs.Removed.{AreAmong}
use Rattle.tangle_fill.specs.Change.{IsMarkedRow, IsMarkedFace, HasNoMarkedFace, HoldsNearRows, IsChange, IsFilledNear, IsClosedNear}
use Rattle.tangle_fill.specs.declared.change.Change.{Change}
use Rattle.tangle_fill.specs.declared.growth.Growth.{Growth}
use Rattle.tangle_fill.proofs.Candidates.{outside_row, on_sides, even_pair}
use Rattle.tangle_fill.proofs.Growing.{none_shared}
use Rattle.tangle_fill.proofs.Removal.{row_beyond}
use Rattle.tangle_fill.proofs.Smoothed.{only_one}
use Rattle.geo_laws.specs.Marks.{is_marked}

-- ---- marked faces

marked_same : (marks : List Bool) (f g : Face) → Same f g → IsMarkedFace marks g → IsMarkedFace marks f
marked_same marks f g same m = go same
  where
    at : (i j : ℕ) → i ≡ j → IsTrue (is_marked marks j) → IsTrue (is_marked marks i)
    at i j e h = subst (λ k. IsTrue (is_marked marks k)) (sym e) h

    go : Same f g → IsMarkedFace marks f
    go (straight a b c) = record { a = at f.a g.a a m.a; b = at f.b g.b b m.b; c = at f.c g.c c m.c }
    go (onward a b c) = record { a = at f.a g.b a m.b; b = at f.b g.c b m.c; c = at f.c g.a c m.a }
    go (backward a b c) = record { a = at f.a g.c a m.c; b = at f.b g.a b m.a; c = at f.c g.b c m.b }

pub marked_back : (marks : List Bool) (f : Face) → IsMarkedFace marks f → IsMarkedFace marks (reversed f)
marked_back marks f m = record { a = m.a; b = m.c; c = m.b }

marked_or_not : (marks : List Bool) (f : Face) → IsMarkedFace marks f ⊎ ¬ IsMarkedFace marks f
marked_or_not marks f = go (decided (is_marked marks f.a)) (decided (is_marked marks f.b)) (decided (is_marked marks f.c))
  where
    go : (is_marked marks f.a ≡ true) ⊎ (is_marked marks f.a ≡ false) → (is_marked marks f.b ≡ true) ⊎ (is_marked marks f.b ≡ false)
        → (is_marked marks f.c ≡ true) ⊎ (is_marked marks f.c ≡ false) → IsMarkedFace marks f ⊎ ¬ IsMarkedFace marks f
    go (inr n) b c = inr (λ m. fails_true (is_marked marks f.a) n m.a)
    go (inl a) (inr n) c = inr (λ m. fails_true (is_marked marks f.b) n m.b)
    go (inl a) (inl b) (inr n) = inr (λ m. fails_true (is_marked marks f.c) n m.c)
    go (inl a) (inl b) (inl c) = inl (record { a = a; b = b; c = c })

-- each face of a marked row is marked
pub marked_side : (marks : List Bool) (t : Tet) → IsMarkedRow marks t → (f : Face) → lies_on f t ≡ true → IsMarkedFace marks f
marked_side marks t m f h = let g = some_true (is_same f) (faces_of t) h in marked_same marks f g.0 (same_of f g.0 g.2) (all_at (IsMarkedFace marks) g.0 (faces_of t) four g.1)
  where
    four : AllByRecursion (IsMarkedFace marks) (faces_of t)
    four = (record { a = m.b; b = m.d; c = m.c }, (record { a = m.a; b = m.c; c = m.d }, (record { a = m.a; b = m.d; c = m.b }, (record { a = m.a; b = m.b; c = m.c }, tt))))

-- a row with a marked face is near
pub near_row : (marks : List Bool) (rows : List Tet) (near : Growth) → HoldsNearRows marks rows near → (t : Tet) → Contains rows t → (f : Face) → lies_on f t ≡ true → IsMarkedFace marks f → Contains near.rows t
near_row marks rows near h t c f on m = go (h.others t c)
  where
    go : Contains near.rows t ⊎ HasNoMarkedFace marks t → Contains near.rows t
    go (inl k) = k
    go (inr none) = absurd (none f on m)

pub near_sides : (marks : List Bool) (rows : List Tet) (near : Growth) → HoldsNearRows marks rows near → (t : Tet) → Contains rows t → (f : Face)
    → (lies_on f t ≡ true) ⊎ (lies_on (reversed f) t ≡ true) → IsMarkedFace marks f → Contains near.rows t
near_sides marks rows near h t c f (inl on) m = near_row marks rows near h t c f on m
near_sides marks rows near h t c f (inr on) m = near_row marks rows near h t c (reversed f) on (marked_back marks f m)

-- ---- rows that were added

module _ (ps : List Point) (old : List Tet) (c : Change) (list : IsDelaunayList ps old) (h : IsChange ps old c) where
  pub added_side : (t : Tet) → Contains c.added t → (f : Face) → lies_on f t ≡ true → IsMarkedFace c.marks.items f
  added_side t m f on = marked_side c.marks.items t (subst (IsMarkedRow c.marks.items) m.2 (h.added_marked m.0 t m.1)) f on

  added_sides : (t : Tet) → Contains c.added t → (f : Face) → (lies_on f t ≡ true) ⊎ (lies_on (reversed f) t ≡ true) → IsMarkedFace c.marks.items f
  added_sides t m f (inl on) = added_side t m f on
  added_sides t m f (inr on) = marked_back c.marks.items (reversed f) (added_side t m (reversed f) on)

  -- such a row is near
  pub added_near : (t : Tet) → Contains c.added t → Contains c.near.rows t
  added_near t m =
      let f : Face = record { a = t.b; b = t.d; c = t.c } in
      near_row c.marks.items c.rows c.near h.near t (h.added.within t m) f (on_own t f here) (added_side t m f (on_own t f here))

  -- ---- all rows are positive rows of the points

  row_of : (t : Tet) → Contains old t ⊎ Contains c.added t → IsRow ps t
  row_of t (inl o) = let d = (list.exactly t).0 o in (on_of_delaunay ps t d, d.is_positive, d.is_arranged)
  row_of t (inr m) = subst (IsRow ps) m.2 (h.added_rows m.0 t m.1)

  pub row_at : (t : Tet) → Contains c.rows t → IsRow ps t
  row_at t m = row_of t (h.added.others t m)

  pub all_rows : AreArrangedRows ps c.rows
  all_rows k d l = row_at (slice_index_or c.rows k d) (Contains-get_or c.rows k d l)

  pub near_rows : AreArrangedRows ps c.near.rows
  near_rows k d l = row_at (slice_index_or c.near.rows k d) (h.near.within (slice_index_or c.near.rows k d) (Contains-get_or c.near.rows k d l))

  pub near_paired : IsPairedGrowth ps c.near
  near_paired = record { rows = near_rows; one_a_side = h.near.one_a_side; indexed = h.near.indexed }

  -- ---- one row on a side

  one_row : (s t : Tet) → Contains c.rows s → Contains c.rows t → (f : Face) → lies_on f s ≡ true → lies_on f t ≡ true → s ≡ t
  one_row s t cs ct f on_s on_t = go (h.added.others s cs) (h.added.others t ct)
    where
      marked : IsMarkedFace c.marks.items f → s ≡ t
      marked m = only_one c.near.rows h.near.one_a_side s t (near_row c.marks.items c.rows c.near h.near s cs f on_s m) (near_row c.marks.items c.rows c.near h.near t ct f on_t m) f on_s on_t

      go : Contains old s ⊎ Contains c.added s → Contains old t ⊎ Contains c.added t → s ≡ t
      go (inr m) k = marked (added_side s m f on_s)
      go (inl o) (inr m) = marked (added_side t m f on_t)
      go (inl o) (inl p) =
          let ds = (list.exactly s).0 o in
          let dt = (list.exactly t).0 p in
          (law_radical.delaunay ps _ (all_within ps) s t ds dt).1 (common_inside ps s t ds.is_positive dt.is_positive f on_s on_t)

  pub sides_apart : AllPairs RowBefore c.rows → AllPairs ShareNoSide c.rows
  sides_apart ascending i j d l k = all_members (λ f. lies_on f t ≡ false) (faces_of s) one
    where
      s : Tet
      s = slice_index_or c.rows i d

      t : Tet
      t = slice_index_or c.rows j d

      at_s : i < length c.rows
      at_s = omega arith

      one : (f : Face) → IsMember f (faces_of s) → lies_on f t ≡ false
      one f m = go (decided (lies_on f t))
        where
          go : (lies_on f t ≡ true) ⊎ (lies_on f t ≡ false) → lies_on f t ≡ false
          go (inl e) = absurd (before_differ s t (ascending i j d l k) (one_row s t (Contains-get_or c.rows i d at_s) (Contains-get_or c.rows j d k) f (on_own s f m) e))
          go (inr e) = e

  -- ---- a row across each face

  pub all_filled : All (IsClosedNear ps c) c.near.rows → All (λ t. AllByRecursion (λ f. IsFilled ps c.rows (reversed f)) (faces_of t)) c.rows
  all_filled closed k d l = all_members (λ f. IsFilled ps c.rows (reversed f)) (faces_of t) one
    where
      t : Tet
      t = slice_index_or c.rows k d

      in_rows : Contains c.rows t
      in_rows = Contains-get_or c.rows k d l

      one : (f : Face) → IsMember f (faces_of t) → IsFilled ps c.rows (reversed f)
      one f m = go (marked_or_not c.marks.items f)
        where
          on : lies_on f t ≡ true
          on = on_own t f m

          across : ¬ IsMarkedFace c.marks.items f → (s : Tet) → lies_on (reversed f) s ≡ true → Contains c.rows s ⊎ Contains c.removed.rows s → Any (λ t. IsTrue (lies_on (reversed f) t)) c.rows
          across unmarked s lies (inl u) = (u.0, s, u.1, u.2, lies)
          across unmarked s lies (inr u) =
              absurd (unmarked (marked_back c.marks.items (reversed f) (marked_side c.marks.items s (subst (IsMarkedRow c.marks.items) u.2 (h.removed_marked u.0 s u.1)) (reversed f) lies)))

          go : IsMarkedFace c.marks.items f ⊎ ¬ IsMarkedFace c.marks.items f → IsFilled ps c.rows (reversed f)
          go (inl y) points =
              let n = near_row c.marks.items c.rows c.near h.near t in_rows f on y in
              all_at (λ f. IsFilledNear ps c (reversed f)) f (faces_of t) (subst (IsClosedNear ps c) n.2 (closed n.0 t n.1)) m (marked_back c.marks.items f y) points
          go (inr unmarked) points = by (h.added.others t in_rows)
            where
              by : Contains old t ⊎ Contains c.added t → Any (λ t. IsTrue (lies_on (reversed f) t)) c.rows
              by (inr a) = absurd (unmarked (added_side t a f on))
              by (inl o) = let s = row_beyond ps old (reversed f) list (o.0, t, o.1, o.2, on) points in across unmarked s.0 s.2 (h.removed.others s.0 s.1)

  -- ---- locally Delaunay rows

  pub all_smooth : (ts : List FacetTriangle) (faces : List sorted_face.Face) → AllPairs RowBefore c.rows → AreTriangleFaces ts faces → All (IsEvenRow ps faces c.near.rows) c.added → IsSmooth ps ts c.rows
  all_smooth ts faces ascending are even i j d l k face fs ft none =
      let at_s : i < length c.rows = omega arith in
      pair (slice_index_or c.rows i d) (slice_index_or c.rows j d) (Contains-get_or c.rows i d at_s) (Contains-get_or c.rows j d k) (sides_apart ascending i j d l k) fs ft
    where
      open_face : ¬ Contains faces face
      open_face m = none (are face m)

      even_of : (s : Tet) → Contains c.added s → IsEvenRow ps faces c.near.rows s
      even_of s m = subst (IsEvenRow ps faces c.near.rows) m.2 (even m.0 s m.1)

      beside : (s t : Tet) → Contains c.rows s → Contains c.rows t → ShareNoSide s t → Contains (row_faces s) face → Contains (row_faces t) face → Contains c.added s → IsLocallyDelaunay ps s t
      beside s t cs ct apart fs ft m =
          let p = (row_at s cs).1 in
          let q = (row_at t ct).1 in
          let marked = added_sides s m (as_oriented face) (on_sides ps s face p fs) in
          even_pair ps c.near.rows faces s t p q apart face fs ft open_face (near_sides c.marks.items c.rows c.near h.near t ct (as_oriented face) (on_sides ps t face q ft) marked) (even_of s m)

      pair : (s t : Tet) → Contains c.rows s → Contains c.rows t → ShareNoSide s t → Contains (row_faces s) face → Contains (row_faces t) face → IsLocallyDelaunay ps s t
      pair s t cs ct apart fs ft = go (h.added.others s cs) (h.added.others t ct)
        where
          go : Contains old s ⊎ Contains c.added s → Contains old t ⊎ Contains c.added t → IsLocallyDelaunay ps s t
          go (inr m) n = beside s t cs ct apart fs ft m
          go (inl o) (inr m) = let both = beside t s ct cs (share_back s t apart) ft fs m in (both.1, both.0)
          go (inl o) (inl p) = let ds = (list.exactly s).0 o in let dt = (list.exactly t).0 p in (outside_row ps s t ds dt, outside_row ps t s dt ds)

  -- ---- one row alone

  both_positive : (s t : Tet) → IsPositive (corners ps s) → IsPositive (corners ps t) → All (λ t. IsPositive (corners ps t)) (s ∷ t ∷ [])
  both_positive s t p q zero d l = p
  both_positive s t p q (suc zero) d l = q
  both_positive s t p q (suc (suc k)) d l = absurd (omega arith)

  -- of two rows of the Delaunay list none holds the other's centroid
  old_alone : (t u : Tet) → IsDelaunay ps t → IsDelaunay ps u → HoldsNudged (corners ps u) (centroid (corners ps t)) → u ≡ t
  old_alone t u dt du holds =
      let y = law_nudged ps (t ∷ u ∷ []) (both_positive t u dt.is_positive du.is_positive) (centroid (corners ps t)) (centroid_w (corners ps t)) in
      let in_t = (y.2.1 0 t (omega arith)).0 (holds_own (corners ps t) dt.is_positive) in
      let in_u = (y.2.1 1 t (omega arith)).0 holds in
      sym ((law_radical.delaunay ps _ (all_within ps) t u dt du).1 (y.0, y.1, (in_t, in_u)))

  pub alone_in : (t : Tet) → Contains old t → IsAlone ps c.added t → IsAlone ps c.rows t
  alone_in t o alone u m holds = go (h.added.others u m)
    where
      go : Contains old u ⊎ Contains c.added u → u ≡ t
      go (inl p) = old_alone t u ((list.exactly t).0 o) ((list.exactly u).0 p) holds
      go (inr a) = alone u a holds

-- ---- facet triangles

pub triangle_in : (rows near : List Tet) (k : FacetTriangle) → ((t : Tet) → Contains near t → Contains rows t) → HasTriangle near k → HasTriangle rows k
triangle_in rows near k within f = let m = within f.1 (f.0, f.2, f.3) in (m.0, f.1, m.1, m.2, f.4)

-- ---- rows that are near, one after another

-- so it is with the first i rows
pub record IsNearBelow (marks : List Bool) (rows : List Tet) (near : Growth) (i : ℕ) : Type 0 where
  pub within : AreAmong rows near.rows
  pub others : AllWithin (λ t. Contains near.rows t ⊎ HasNoMarkedFace marks t) rows 0 i
  pub one_a_side : AllPairs ShareNoSide near.rows
  pub indexed : IsIndexed near

pub near_none : (marks : List Bool) (rows : List Tet) (near : Growth) → near.rows ≡ [] → IsIndexed near → IsNearBelow marks rows near 0
near_none marks rows near e indexed = record {
  within = λ t m. absurd (none t (subst (λ (xs : List Tet). Contains xs t) e m));
  others = λ k d l h. absurd (omega arith);
  one_a_side = subst (AllPairs ShareNoSide) (sym e) (λ i j d l k. absurd (omega arith));
  indexed = indexed;
}
  where
    none : (t : Tet) → Contains [] t → ⊥
    none t c = let l = c.1 in omega arith

pub near_passed : (marks : List Bool) (rows : List Tet) (near : Growth) (i : ℕ) (row : Tet) → IsNearBelow marks rows near i → HoldsAt (λ u. u ≡ row) rows i → HasNoMarkedFace marks row → IsNearBelow marks rows near (i + 1)
near_passed marks rows near i row h is none = record {
  within = h.within;
  others = AllWithin-more Either rows 0 i h.others (λ d. subst Either (sym (is d)) (inr none));
  one_a_side = h.one_a_side;
  indexed = h.indexed;
}
  where
    Either : Tet → Type 0
    Either t = Contains near.rows t ⊎ HasNoMarkedFace marks t

pub near_taken : (marks : List Bool) (rows : List Tet) (before after : Growth) (i : ℕ) (row : Tet) → i < length rows → IsNearBelow marks rows before i → HoldsAt (λ u. u ≡ row) rows i
    → All (λ t. list_any (λ f. lies_on f t) (faces_of row) ≡ false) before.rows → after.rows ≡ before.rows ++ row ∷ [] → IsIndexed after → IsNearBelow marks rows after (i + 1)
near_taken marks rows before after i row l h is none e indexed = record {
  within = λ t c. by t (Contains-push_cases before.rows row t (subst (λ (xs : List Tet). Contains xs t) e c));
  others = AllWithin-more Either rows 0 i (λ k d a b. more _ (h.others k d a b)) (λ d. subst Either (sym (is d)) (inl (subst (λ (xs : List Tet). Contains xs row) (sym e) (Contains-push before.rows row))));
  one_a_side = subst (AllPairs ShareNoSide) (sym e) (all_pairs_push ShareNoSide before.rows row h.one_a_side (λ k d m. share_back row (slice_index_or before.rows k d) (none_shared row (slice_index_or before.rows k d) (none k d m))));
  indexed = indexed;
}
  where
    Either : Tet → Type 0
    Either t = Contains after.rows t ⊎ HasNoMarkedFace marks t

    more : (t : Tet) → Contains before.rows t ⊎ HasNoMarkedFace marks t → Either t
    more t (inl c) = inl (subst (λ (xs : List Tet). Contains xs t) (sym e) (Contains-append_left before.rows (row ∷ []) t c))
    more t (inr n) = inr n

    by : (t : Tet) → Contains before.rows t ⊎ (row ≡ t) → Contains rows t
    by t (inl c) = h.within t c
    by t (inr e) = subst (Contains rows) e (i, l, is row)

pub near_all : (marks : List Bool) (rows : List Tet) (near : Growth) (i : ℕ) → length rows ≤ i → IsNearBelow marks rows near i → HoldsNearRows marks rows near
near_all marks rows near i l h = record {
  within = h.within;
  others = λ t c. subst (λ t. Contains near.rows t ⊎ HasNoMarkedFace marks t) c.2 (h.others c.0 t (omega arith) (below c.0 c.1));
  one_a_side = h.one_a_side;
  indexed = h.indexed;
}
  where
    below : (k : ℕ) → k < length rows → k < i
    below k h = omega arith
