-- The rows without a mark are the kept part, where the marks are those of the flood that carves.
use Rattle.std.proofs.Common.{◌≡◌, ◌⊎◌, inl, inr, ℕ, zero, suc, ◌+◌, ◌<◌, ◌≤◌, pos, ◌<ℤ◌, Bool, true, false, not, List, [], ◌∷◌, length, refl, ap, sym, subst, ◌∙◌, arith}
use Rattle.std.specs.Prelude.{Contains, All, ◌↔◌, slice_index_or, IsTrue, Result, Ok, Err, IfOk}
use Rattle.sign_predicates.specs.Point.{Point, RationalPoint, SomeRational, origin, as_rational}
use Rattle.sign_predicates.specs.Orientation.{InClosed, StrictlyInside}
use Rattle.geo_laws.specs.Delaunay.{corners, row_at}
use Rattle.geo_laws.specs.Faces.{row_faces}
use Rattle.geo_laws.specs.declared.faces.Face.{Face}
use Rattle.geo_laws.specs.declared.tetrahedra.Tet.{Tet}
use Rattle.geo_laws.specs.declared.complex.FacetTriangle.{FacetTriangle}
use Rattle.geo_laws.specs.Path.{IsJoined}
use Rattle.geo_laws.proofs.Members.{contains_of, member_of}
use Rattle.path_laws.specs.Places.{IsFilling, IsKeptPart}
use Rattle.path_laws.specs.Flood.{IsFacetFace, HoldsOnFacet, IsHoleSeed, IsSeed, IsReached, IsLeftByFlood, IsDecidedByFlood, carving_of}
use Rattle.path_laws.proofs.FacetFaces.{law_two_rows}
use Rattle.path_laws.proofs.FloodChains.{law_carve, law_region}
use Rattle.incidence.specs.declared.pairs.Across.{Across}
use Rattle.hole_carve.specs.Flooding.{IsFlooded, IsFloodedFrom}
use Rattle.hole_carve.specs.Ways.{face_opposite}
use Rattle.hole_carve.specs.Seeds.{HoldsOn, HoldsOnSome, RowHolds, IsSeedAt, BeginsAt}
use Rattle.hole_carve.specs.Kept.{unmarked}
use Rattle.hole_carve.proofs.Reached.{Setting, flood_is, flood_from}
use Rattle.hole_carve.proofs.KeptRows.{of_unmarked, in_unmarked}
use Rattle.geo_laws.specs.Marks.{is_marked}

-- an element that is there is the same whatever stands for one that isn't
pub same_at : {X : Type 0} (xs : List X) (k : ℕ) (d e : X) → k < length xs → slice_index_or xs k d ≡ slice_index_or xs k e
same_at [] k d e h = absurd (omega arith)
same_at (x ∷ xs) zero d e h = refl
same_at (x ∷ xs) (suc k) d e h = same_at xs k d e (omega arith)

pub listed : (rows : List Tet) (i : ℕ) → i < length rows → Contains rows (row_at rows i)
listed rows i h = (i, h, same_at rows i (row_at rows i) (record { a = 0; b = 0; c = 0; d = 0 }) h)

pub numbered : (rows : List Tet) (t : Tet) → Contains rows t → (i : ℕ) × (i < length rows) × (row_at rows i ≡ t)
numbered rows t (i, h, e) = (i, h, same_at rows i (record { a = 0; b = 0; c = 0; d = 0 }) t h ∙ e)

face_same_at : (t : Tet) (k : ℕ) → k < 4 → (d : Face) → slice_index_or (row_faces t) k d ≡ face_opposite t k
face_same_at t k h d = same_at (row_faces t) k d (record { a = 0; b = 0; c = 0 }) h

-- ---- seeds

of_seed : (ps : List Point) (ts : List FacetTriangle) (closed : List Face) (rows : List Tet) → ((f : Face) → Contains closed f ↔ IsFacetFace ts f) → (x : RationalPoint) (i : ℕ) → IsSeedAt ps closed rows x i → IsHoleSeed ps ts rows x i
of_seed ps ts closed rows closes x i s = record { off_facets = off; holds = holds s.holds }
  where
    off : (t : Tet) → Contains rows t → ¬ HoldsOnFacet ps ts t x
    off t c (cl, (k, l, flat, facet)) =
        let n = numbered rows t c in
        let on : HoldsOn ps closed t x = (cl, (k, l, flat, (closes (face_opposite t k)).1 (facet (record { a = 0; b = 0; c = 0 })))) in
        s.off (n.0, n.1, subst (λ r. HoldsOn ps closed r x) (sym n.2) on)

    holds : RowHolds ps rows x i ⊎ (i ≡ length rows) × ((j : ℕ) → ¬ RowHolds ps rows x j) → (i < length rows) × InClosed (corners ps (row_at rows i)) x ⊎ (i ≡ length rows) × ((t : Tet) → Contains rows t → ¬ InClosed (corners ps t) x)
    holds (inl h) = inl h
    holds (inr (e, none)) = inr (e, λ t c cl. let n = numbered rows t c in none n.0 (n.1, subst (λ r. InClosed (corners ps r) x) (sym n.2) cl))

to_seed : (ps : List Point) (ts : List FacetTriangle) (closed : List Face) (rows : List Tet) → ((f : Face) → Contains closed f ↔ IsFacetFace ts f) → (x : RationalPoint) (i : ℕ) → IsHoleSeed ps ts rows x i → IsSeedAt ps closed rows x i
to_seed ps ts closed rows closes x i s = record { off = off; holds = holds s.holds }
  where
    off : ¬ HoldsOnSome ps closed rows x
    off (j, h, (cl, (k, l, flat, c))) =
        let r = row_at rows j in
        let on : HoldsOnFacet ps ts r x = (cl, (k, l, flat, λ d. subst (IsFacetFace ts) (sym (face_same_at r k l d)) ((closes (face_opposite r k)).0 c))) in
        s.off_facets r (listed rows j h) on

    holds : (i < length rows) × InClosed (corners ps (row_at rows i)) x ⊎ (i ≡ length rows) × ((t : Tet) → Contains rows t → ¬ InClosed (corners ps t) x) → RowHolds ps rows x i ⊎ (i ≡ length rows) × ((j : ℕ) → ¬ RowHolds ps rows x j)
    holds (inl h) = inl h
    holds (inr (e, none)) = inr (e, λ j h. none (row_at rows j) (listed rows j h.0) h.1)

not_kept : (b : Bool) → IsTrue (not b) → b ≡ false
not_kept true e = cc
not_kept false e = refl

kept_not : (b : Bool) → b ≡ false → IsTrue (not b)
kept_not true e = cc
kept_not false e = refl

begins_is : (b : Bool) (ps : List Point) (ts : List FacetTriangle) (closed : List Face) (rows : List Tet) (holes : List RationalPoint) → ((f : Face) → Contains closed f ↔ IsFacetFace ts f)
    → (i : ℕ) → BeginsAt b ps closed rows holes (length holes) i ↔ IsSeed b ps ts rows holes i
begins_is b ps ts closed rows holes closes i = (there, back)
  where
    there : BeginsAt b ps closed rows holes (length holes) i → IsSeed b ps ts rows holes i
    there (inl (k, e)) = inl (kept_not b k, e)
    there (inr (k, h, s)) = let y = slice_index_or holes k (as_rational origin) in inr (k, y, h, same_at holes k y (as_rational origin) h, of_seed ps ts closed rows closes y i s)

    back : IsSeed b ps ts rows holes i → BeginsAt b ps closed rows holes (length holes) i
    back (inl (k, e)) = inl (not_kept b k, e)
    back (inr (k, y, h, e, s)) = inr (k, h, subst (λ z. IsSeedAt ps closed rows z i) (sym (same_at holes k (as_rational origin) y h ∙ e)) (to_seed ps ts closed rows closes y i s))

-- ---- the rows without a mark

marked_or_not : (b : Bool) → (b ≡ true) ⊎ (b ≡ false)
marked_or_not true = inl refl
marked_or_not false = inr refl

never_both : (b : Bool) → b ≡ true → b ≡ false → ⊥
never_both b h k = cc

left_by_flood : (b : Bool) (ps : List Point) (ts : List FacetTriangle) (rows : List Tet) (holes : List RationalPoint) (marks : List Bool) → IsFilling ps ts rows → length rows ≤ length marks
    → ((i : ℕ) → (is_marked marks i ≡ true) ↔ IsReached ts rows (IsSeed b ps ts rows holes) i) → IsLeftByFlood b ps ts rows holes (unmarked rows marks)
left_by_flood b ps ts rows holes marks fill long is = record { of_rows = of_rows; decided = λ i h. decided i h (marked_or_not (is_marked marks i)) }
  where
    of_rows : (t : Tet) → Contains (unmarked rows marks) t → Contains rows t
    of_rows t c = let n = of_unmarked rows marks long t (member_of (unmarked rows marks) t c) in subst (Contains rows) n.2 (listed rows n.0 n.1)

    out : (i : ℕ) → i < length rows → is_marked marks i ≡ true → ¬ Contains (unmarked rows marks) (row_at rows i)
    out i h m c =
        let n = of_unmarked rows marks long (row_at rows i) (member_of (unmarked rows marks) (row_at rows i) c) in
        let same = (law_two_rows ps ts rows fill).differ n.0 i n.1 h n.2 in
        never_both (is_marked marks i) m (subst (λ j. is_marked marks j ≡ false) same n.3)

    decided : (i : ℕ) → i < length rows → (is_marked marks i ≡ true) ⊎ (is_marked marks i ≡ false) → IsDecidedByFlood b ps ts rows holes (unmarked rows marks) i
    decided i h (inl m) = inr (out i h m, (is i).0 m)
    decided i h (inr n) = inl (contains_of (unmarked rows marks) (row_at rows i) (in_unmarked rows marks i h n), λ r. never_both (is_marked marks i) ((is i).1 r) n)

pub carved : (b : Bool) (ps : List Point) (ts : List FacetTriangle) (rows : List Tet) (holes : List RationalPoint) (closed : List Face) (ways : List Across) (seeds marks : List Bool)
    → Setting ps ts rows closed ways → All (λ h. pos 0 <ℤ h.w) holes → length marks ≡ length ways + 1
    → ((i : ℕ) → (is_marked seeds i ≡ true) ↔ BeginsAt b ps closed rows holes (length holes) i)
    → ((i : ℕ) → (is_marked marks i ≡ true) ↔ IsFlooded ways seeds i)
    → IsKeptPart (carving_of b) ps ts rows holes (unmarked rows marks)
carved b ps ts rows holes closed ways seeds marks s ws long from flooded =
    law_carve b ps ts rows holes (unmarked rows marks) s.filling ws (left_by_flood b ps ts rows holes marks s.filling within is)
  where
    within : length rows ≤ length marks
    within = omega (arith, long, s.are.long)

    begin : (i : ℕ) → (is_marked seeds i ≡ true) ↔ IsSeed b ps ts rows holes i
    begin i = let a = begins_is b ps ts closed rows holes s.closes i in (λ m. a.0 ((from i).0 m), λ m. (from i).1 (a.1 m))

    is : (i : ℕ) → (is_marked marks i ≡ true) ↔ IsReached ts rows (IsSeed b ps ts rows holes) i
    is i = let f = flood_is ps ts rows closed ways s seeds (IsSeed b ps ts rows holes) begin i in (λ m. f.0 ((flooded i).0 m), λ r. (flooded i).1 (f.1 r))

-- what a result is known to be has what is known of that
pub if_ok_is : {T E : Type 0} → (P : T → Type 0) → (x : T) → P x → (r : Result T E) → IfOk r (λ v. v ≡ x) → IfOk r P
if_ok_is P x p (Ok v) e = subst P (sym e) p
if_ok_is P x p (Err f) e = tt

-- the same, where what is read has other names than what was made
pub carved_as : (b : Bool) (ps : List Point) (ts : List FacetTriangle) (rows : List Tet) (holes : List RationalPoint) (closed : List Face) (ways ways' : List Across) (seeds seeds' marks marks' : List Bool)
    → ways' ≡ ways → seeds' ≡ seeds → marks' ≡ marks
    → Setting ps ts rows closed ways → All (λ h. pos 0 <ℤ h.w) holes → length marks ≡ length ways' + 1
    → ((i : ℕ) → (is_marked seeds i ≡ true) ↔ BeginsAt b ps closed rows holes (length holes) i)
    → ((i : ℕ) → (is_marked marks i ≡ true) ↔ IsFlooded ways' seeds' i)
    → IsKeptPart (carving_of b) ps ts rows holes (unmarked rows marks')
carved_as b ps ts rows holes closed ways ways' seeds seeds' marks marks' ew es em s ws long from flooded =
    subst (λ m. IsKeptPart (carving_of b) ps ts rows holes (unmarked rows m)) (sym em)
    (carved b ps ts rows holes closed ways seeds marks s ws (long ∙ ap (λ v. length v + 1) ew) from
    (λ i. let f = flooded i in (λ m. subst (λ w. IsFlooded ways w i) es (subst (λ v. IsFlooded v seeds' i) ew (f.0 m)), λ r. f.1 (subst (λ v. IsFlooded v seeds' i) (sym ew) (subst (λ w. IsFlooded ways w i) (sym es) r)))))

-- ---- region points

-- the flood from a region point comes to a row exactly where a free path joins them
pub reached_joined : (ps : List Point) (ts : List FacetTriangle) (rows : List Tet) (closed : List Face) (ways : List Across) (x : RationalPoint) → Setting ps ts rows closed ways → pos 0 <ℤ x.w
    → (i : ℕ) → i < length rows → IsFloodedFrom ways (IsSeedAt ps closed rows x) i ↔ SomeRational (λ y. StrictlyInside (corners ps (row_at rows i)) y × IsJoined ps ts rows (Unit {0}) y x)
reached_joined ps ts rows closed ways x s w i h =
    let f = flood_from ps ts rows closed ways s (IsSeedAt ps closed rows x) (IsHoleSeed ps ts rows x) (λ j. (of_seed ps ts closed rows s.closes x j, to_seed ps ts closed rows s.closes x j)) i in
    let g = law_region ps ts rows s.filling x w i h in
    (λ r. g.1 (f.0 r), λ r. f.1 (g.0 r))
