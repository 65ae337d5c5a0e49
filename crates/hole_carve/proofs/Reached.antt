-- The flood through ways is the flood over rows that the laws of free paths speak of.
use Rattle.std.proofs.Common.{◌≡◌, ◌≢◌, ◌⊎◌, inl, inr, ℕ, zero, suc, ◌+◌, ◌<◌, Bool, true, false, not, cond, ◌&&◌, ◌||◌, Some, None, List, [], ◌∷◌, length, refl, ap, sym, subst, ◌∙◌, arith}
use Rattle.std.specs.Prelude.{Contains, ◌↔◌, slice_index_or, find, option_map, ◌==◌}
use Rattle.std.specs.List.{enumerate_from}
use Rattle.std.proofs.lemmas.Bool.{eq-eqb, ne_eqb, or_left, or_right, true≢false}
use Rattle.sign_predicates.specs.Point.{Point}
use Rattle.geo_laws.specs.Faces.{row_faces, face_of}
use Rattle.geo_laws.specs.declared.faces.Face.{Face}
use Rattle.geo_laws.specs.declared.tetrahedra.Tet.{Tet}
use Rattle.geo_laws.specs.declared.complex.FacetTriangle.{FacetTriangle}
use Rattle.geo_laws.proofs.Members.{both_true, either_true}
use Rattle.geo_laws.proofs.Corners.{same_or_not}
use Rattle.path_laws.specs.Places.{IsFilling}
use Rattle.path_laws.specs.Flood.{IsFacetFace, HasFaceAt, IsStep, shares, goes_out, comes_in, IsReached, begins, goes_on}
use Rattle.path_laws.proofs.FacetFaces.{law_two_rows}
use Rattle.incidence.specs.declared.pairs.Across.{Across}
use Rattle.incidence.specs.Pairs.{is_face, has_face, is_partner, partner, across_of, across_at}
use Rattle.hole_carve.specs.Flooding.{way, IsWay, IsFlooded, IsFloodedFrom}
use Rattle.hole_carve.specs.Flooding as flood
use Rattle.hole_carve.specs.Ways.{other_side, IsWayThrough, face_opposite, AreWays, ways_of}
use Rattle.hole_carve.proofs.Steps.{are_ways, ways-length}
use Rattle.incidence.proofs.Partners.{face_same, face_itself}
use Rattle.hole_carve.proofs.Flooding.{way_inside}
use Rattle.geo_laws.specs.Delaunay.{row_at}
use Rattle.geo_laws.specs.Marks.{is_marked}

-- ---- faces of a row

pub has_of : (f : Face) (t : Tet) → Contains (row_faces t) f → has_face f t ≡ true
has_of f t c = at c.0 c.1 c.2
  where
    at : (k : ℕ) → k < 4 → slice_index_or (row_faces t) k f ≡ f → has_face f t ≡ true
    at zero h e = or_left _ _ (face_itself _ f e)
    at (suc zero) h e = or_right (is_face (face_of t.b t.c t.d) f) _ (or_left _ _ (face_itself _ f e))
    at (suc (suc zero)) h e = or_right (is_face (face_of t.b t.c t.d) f) _ (or_right (is_face (face_of t.a t.c t.d) f) _ (or_left _ _ (face_itself _ f e)))
    at (suc (suc (suc zero))) h e = or_right (is_face (face_of t.b t.c t.d) f) _ (or_right (is_face (face_of t.a t.c t.d) f) _ (or_right (is_face (face_of t.a t.b t.d) f) _ (face_itself _ f e)))
    at (suc (suc (suc (suc k)))) h e = absurd (omega arith)

pub of_has : (f : Face) (t : Tet) → has_face f t ≡ true → Contains (row_faces t) f
of_has f t h = first (either_true (is_face (face_of t.b t.c t.d) f) _ h)
  where
    last : (is_face (face_of t.a t.b t.d) f ≡ true) ⊎ (is_face (face_of t.a t.b t.c) f ≡ true) → Contains (row_faces t) f
    last (inl e) = (2, omega arith, face_same _ f e)
    last (inr e) = (3, omega arith, face_same _ f e)

    second : (is_face (face_of t.a t.c t.d) f ≡ true) ⊎ ((is_face (face_of t.a t.b t.d) f || is_face (face_of t.a t.b t.c) f) ≡ true) → Contains (row_faces t) f
    second (inl e) = (1, omega arith, face_same _ f e)
    second (inr e) = last (either_true (is_face (face_of t.a t.b t.d) f) _ e)

    first : (is_face (face_of t.b t.c t.d) f ≡ true) ⊎ ((is_face (face_of t.a t.c t.d) f || (is_face (face_of t.a t.b t.d) f || is_face (face_of t.a t.b t.c) f)) ≡ true) → Contains (row_faces t) f
    first (inl e) = (0, omega arith, face_same _ f e)
    first (inr e) = second (either_true (is_face (face_of t.a t.c t.d) f) _ e)

-- ---- partners

-- the row at a place, with it
abbrev numbered : List Tet → ℕ → ℕ → ℕ × Tet
numbered rows from k = (from + k, row_at rows k)

-- the first that passes, or none does
found_or_not : (test : ℕ × Tet → Bool) (from : ℕ) (rows : List Tet)
    → ((k : ℕ) × (k < length rows) × (find test (enumerate_from from rows) ≡ Some (numbered rows from k)) × (test (numbered rows from k) ≡ true))
    ⊎ (find test (enumerate_from from rows) ≡ None) × ((k : ℕ) → k < length rows → test (numbered rows from k) ≡ false)
found_or_not test from [] = inr (refl, λ k h. absurd (omega arith))
found_or_not test from (t ∷ rows) = go (test (from, t)) refl (found_or_not test (from + 1) rows)
  where
    zero_is : (from, t) ≡ numbered (t ∷ rows) from 0
    zero_is = ap (λ n. (n, t)) (let z : from ≡ from + 0 = omega arith in z)

    suc_is : (k : ℕ) → numbered rows (from + 1) k ≡ numbered (t ∷ rows) from (suc k)
    suc_is k = ap (λ n. (n, row_at rows k)) (let z : from + 1 + k ≡ from + suc k = omega arith in z)

    rest : test (from, t) ≡ false
        → ((k : ℕ) × (k < length rows) × (find test (enumerate_from (from + 1) rows) ≡ Some (numbered rows (from + 1) k)) × (test (numbered rows (from + 1) k) ≡ true))
        ⊎ (find test (enumerate_from (from + 1) rows) ≡ None) × ((k : ℕ) → k < length rows → test (numbered rows (from + 1) k) ≡ false)
        → ((k : ℕ) × (k < length (t ∷ rows)) × (find test (enumerate_from (from + 1) rows) ≡ Some (numbered (t ∷ rows) from k)) × (test (numbered (t ∷ rows) from k) ≡ true))
        ⊎ (find test (enumerate_from (from + 1) rows) ≡ None) × ((k : ℕ) → k < length (t ∷ rows) → test (numbered (t ∷ rows) from k) ≡ false)
    rest e (inl (k, h, f, p)) = inl (suc k, omega arith, f ∙ ap Some (suc_is k), ap test (sym (suc_is k)) ∙ p)
    rest e (inr (f, p)) = inr (f, λ k h. each k h)
      where
        each : (k : ℕ) → k < length (t ∷ rows) → test (numbered (t ∷ rows) from k) ≡ false
        each zero h = ap test (sym zero_is) ∙ e
        each (suc k) h = ap test (sym (suc_is k)) ∙ p k (omega arith)

    go : (b : Bool) → test (from, t) ≡ b
        → ((k : ℕ) × (k < length rows) × (find test (enumerate_from (from + 1) rows) ≡ Some (numbered rows (from + 1) k)) × (test (numbered rows (from + 1) k) ≡ true))
        ⊎ (find test (enumerate_from (from + 1) rows) ≡ None) × ((k : ℕ) → k < length rows → test (numbered rows (from + 1) k) ≡ false)
        → ((k : ℕ) × (k < length (t ∷ rows)) × (cond (test (from, t)) (Some (from, t)) (find test (enumerate_from (from + 1) rows)) ≡ Some (numbered (t ∷ rows) from k)) × (test (numbered (t ∷ rows) from k) ≡ true))
        ⊎ (cond (test (from, t)) (Some (from, t)) (find test (enumerate_from (from + 1) rows)) ≡ None) × ((k : ℕ) → k < length (t ∷ rows) → test (numbered (t ∷ rows) from k) ≡ false)
    go true e r = inl (0, omega arith, ap (λ b. cond b (Some (from, t)) (find test (enumerate_from (from + 1) rows))) e ∙ ap Some zero_is, ap test (sym zero_is) ∙ e)
    go false e r = subst (λ b. ((k : ℕ) × (k < length (t ∷ rows)) × (cond b (Some (from, t)) (find test (enumerate_from (from + 1) rows)) ≡ Some (numbered (t ∷ rows) from k)) × (test (numbered (t ∷ rows) from k) ≡ true))
        ⊎ (cond b (Some (from, t)) (find test (enumerate_from (from + 1) rows)) ≡ None) × ((k : ℕ) → k < length (t ∷ rows) → test (numbered (t ∷ rows) from k) ≡ false)) (sym e) (rest e r)

-- another row has the face, or none does
pub partner_or_not : (rows : List Tet) (i : ℕ) (f : Face)
    → ((j : ℕ) × (partner rows i f ≡ Some j) × (j < length rows) × (i ≢ j) × Contains (row_faces (row_at rows j)) f)
    ⊎ (partner rows i f ≡ None) × ((j : ℕ) → j < length rows → i ≢ j → ¬ Contains (row_faces (row_at rows j)) f)
partner_or_not rows i f = go (found_or_not (is_partner i f) 0 rows)
  where
    plain : (k : ℕ) → 0 + k ≡ k
    plain k = omega arith

    go : ((k : ℕ) × (k < length rows) × (find (is_partner i f) (enumerate_from 0 rows) ≡ Some (numbered rows 0 k)) × (is_partner i f (numbered rows 0 k) ≡ true))
        ⊎ (find (is_partner i f) (enumerate_from 0 rows) ≡ None) × ((k : ℕ) → k < length rows → is_partner i f (numbered rows 0 k) ≡ false)
        → ((j : ℕ) × (partner rows i f ≡ Some j) × (j < length rows) × (i ≢ j) × Contains (row_faces (row_at rows j)) f)
        ⊎ (partner rows i f ≡ None) × ((j : ℕ) → j < length rows → i ≢ j → ¬ Contains (row_faces (row_at rows j)) f)
    go (inl (k, h, e, p)) =
        let b = both_true (not (0 + k == i)) (has_face f (row_at rows k)) p in
        inl (k, ap (option_map (λ (r : ℕ × Tet). r.0)) e ∙ ap Some (plain k), h, λ d. not_self (0 + k == i) b.0 (eq-eqb (0 + k) i (plain k ∙ sym d)), of_has f (row_at rows k) b.1)
      where
        not_self : (b : Bool) → not b ≡ true → b ≡ true → ⊥
        not_self true h e = cc
        not_self false h e = cc
    go (inr (e, p)) = inr (ap (option_map (λ (r : ℕ × Tet). r.0)) e, λ j h n c. true≢false (sym (passes j n c) ∙ p j h))
      where
        passes : (j : ℕ) → i ≢ j → Contains (row_faces (row_at rows j)) f → is_partner i f (numbered rows 0 j) ≡ true
        passes j n c = λ q. not (ne_eqb (0 + j) i (λ d. n (sym d ∙ plain j)) q) && has_of f (row_at rows j) c q

-- ---- ways and steps

-- the face of a row at a corner
face_listed : (t : Tet) (k : ℕ) → k < 4 → Contains (row_faces t) (face_opposite t k)
face_listed t zero h = (0, h, refl)
face_listed t (suc zero) h = (1, h, refl)
face_listed t (suc (suc zero)) h = (2, h, refl)
face_listed t (suc (suc (suc zero))) h = (3, h, refl)
face_listed t (suc (suc (suc (suc k)))) h = absurd (omega arith)

-- and the corner of a face
corner_of_face : (t : Tet) (f : Face) → Contains (row_faces t) f → (k : ℕ) × (k < 4) × (face_opposite t k ≡ f)
corner_of_face t f c = at c.0 c.1 c.2
  where
    at : (k : ℕ) → k < 4 → slice_index_or (row_faces t) k f ≡ f → (k : ℕ) × (k < 4) × (face_opposite t k ≡ f)
    at zero h e = (0, h, e)
    at (suc zero) h e = (1, h, e)
    at (suc (suc zero)) h e = (2, h, e)
    at (suc (suc (suc zero))) h e = (3, h, e)
    at (suc (suc (suc (suc k)))) h e = absurd (omega arith)

across_is : (rows : List Tet) (i k : ℕ) (t : Tet) → k < 4 → way (across_of rows i t) k ≡ partner rows i (face_opposite t k)
across_is rows i zero t h = refl
across_is rows i (suc zero) t h = refl
across_is rows i (suc (suc zero)) t h = refl
across_is rows i (suc (suc (suc zero))) t h = refl
across_is rows i (suc (suc (suc (suc k)))) t h = absurd (omega arith)

some_same : (i j : ℕ) → Some i ≡ Some j → i ≡ j
some_same i j e = cc

none_some : (j : ℕ) → None ≡ Some j → ⊥
none_some j e = cc

-- rows that fill the hull, and the ways from them
pub record Setting (ps : List Point) (ts : List FacetTriangle) (rows : List Tet) (closed : List Face) (ways : List Across) : Type 0 where
  pub filling : IsFilling ps ts rows
  pub closes : (f : Face) → Contains closed f ↔ IsFacetFace ts f
  pub are : AreWays closed rows ways

way_at : (ps : List Point) (ts : List FacetTriangle) (rows : List Tet) (closed : List Face) (ways : List Across) → Setting ps ts rows closed ways → (i k : ℕ) → i < length rows → k < 4
    → IsWayThrough closed (face_opposite (row_at rows i) k) (partner rows i (face_opposite (row_at rows i) k)) (length rows) (way (across_at ways i) k)
way_at ps ts rows closed ways s i k h l = subst (λ p. IsWayThrough closed (face_opposite (row_at rows i) k) p (length rows) (way (across_at ways i) k)) (across_is rows i k (row_at rows i) l) (s.are.each i h k l)

-- a way leads through a face that is no facet triangle, to its other side
record Through (ts : List FacetTriangle) (rows : List Tet) (i j : ℕ) : Type 0 where
  face : Face
  has : HasFaceAt rows i face
  open_face : ¬ IsFacetFace ts face
  to : j ≡ other_side (partner rows i face) (length rows)

through : (ps : List Point) (ts : List FacetTriangle) (rows : List Tet) (closed : List Face) (ways : List Across) → Setting ps ts rows closed ways → (i j : ℕ) → IsWay ways i j → Through ts rows i j
through ps ts rows closed ways s i j w =
    let h : i < length rows = (let l = way_inside ways i j w in omega (arith, s.are.long)) in
    let t = way_at ps ts rows closed ways s i w.0 h w.1 in
    let open_face = λ (c : IsFacetFace ts (face_opposite (row_at rows i) w.0)). none_some j (sym (t.closes ((s.closes _).1 c)) ∙ w.2) in
    record {
      face = face_opposite (row_at rows i) w.0;
      has = (h, face_listed (row_at rows i) w.0 w.1);
      open_face = open_face;
      to = some_same j _ (sym w.2 ∙ t.opens (λ c. open_face ((s.closes _).0 c)));
    }

only_one : (rows : List Tet) (i : ℕ) (f : Face) → ((j : ℕ) → j < length rows → i ≢ j → ¬ Contains (row_faces (row_at rows j)) f) → (j : ℕ) → HasFaceAt rows j f → i ≡ j
only_one rows i f none j h = go (same_or_not i j)
  where
    go : (i ≡ j) ⊎ (i ≢ j) → i ≡ j
    go (inl e) = e
    go (inr n) = absurd (none j h.0 n h.1)

step_of_way : (ps : List Point) (ts : List FacetTriangle) (rows : List Tet) (closed : List Face) (ways : List Across) → Setting ps ts rows closed ways → (i j : ℕ) → IsWay ways i j → IsStep ts rows i j
step_of_way ps ts rows closed ways s i j w = go (through ps ts rows closed ways s i j w)
  where
    go : Through ts rows i j → IsStep ts rows i j
    go t = by (partner_or_not rows i t.face)
      where
        by : ((j' : ℕ) × (partner rows i t.face ≡ Some j') × (j' < length rows) × (i ≢ j') × Contains (row_faces (row_at rows j')) t.face)
            ⊎ (partner rows i t.face ≡ None) × ((j' : ℕ) → j' < length rows → i ≢ j' → ¬ Contains (row_faces (row_at rows j')) t.face) → IsStep ts rows i j
        by (inl (j', p, h, n, c)) = subst (IsStep ts rows i) (sym (t.to ∙ ap (λ q. other_side q (length rows)) p)) (shares i j' t.face t.has (h, c) n t.open_face)
        by (inr (p, none)) = subst (IsStep ts rows i) (sym (t.to ∙ ap (λ q. other_side q (length rows)) p)) (goes_out i t.face t.has (only_one rows i t.face none) t.open_face)

-- and back from beyond the hull
back_of_way : (ps : List Point) (ts : List FacetTriangle) (rows : List Tet) (closed : List Face) (ways : List Across) → Setting ps ts rows closed ways → (i : ℕ) → IsWay ways i (length ways) → IsStep ts rows (length rows) i
back_of_way ps ts rows closed ways s i w = go (through ps ts rows closed ways s i (length ways) w)
  where
    go : Through ts rows i (length ways) → IsStep ts rows (length rows) i
    go t = by (partner_or_not rows i t.face)
      where
        by : ((j' : ℕ) × (partner rows i t.face ≡ Some j') × (j' < length rows) × (i ≢ j') × Contains (row_faces (row_at rows j')) t.face)
            ⊎ (partner rows i t.face ≡ None) × ((j' : ℕ) → j' < length rows → i ≢ j' → ¬ Contains (row_faces (row_at rows j')) t.face) → IsStep ts rows (length rows) i
        by (inl (j', p, h, n, c)) = let e = t.to ∙ ap (λ q. other_side q (length rows)) p in absurd (omega (arith, s.are.long, e, h))
        by (inr (p, none)) = comes_in i t.face t.has (only_one rows i t.face none) t.open_face

-- through an open face leads a way
way_of_face : (ps : List Point) (ts : List FacetTriangle) (rows : List Tet) (closed : List Face) (ways : List Across) → Setting ps ts rows closed ways → (i j : ℕ) (f : Face) → HasFaceAt rows i f → ¬ IsFacetFace ts f
    → other_side (partner rows i f) (length rows) ≡ j → IsWay ways i j
way_of_face ps ts rows closed ways s i j f has open_face to =
    let k = corner_of_face (row_at rows i) f has.1 in
    (k.0, k.1, (way_at ps ts rows closed ways s i k.0 has.0 k.1).opens (λ c. open_face (subst (IsFacetFace ts) k.2 ((s.closes _).0 c))) ∙ ap (λ g. Some (other_side (partner rows i g) (length rows))) k.2 ∙ ap Some to)

-- a face of one row only leads beyond the hull
way_out : (ps : List Point) (ts : List FacetTriangle) (rows : List Tet) (closed : List Face) (ways : List Across) → Setting ps ts rows closed ways → (i : ℕ) (f : Face) → HasFaceAt rows i f → ((j : ℕ) → HasFaceAt rows j f → i ≡ j)
    → ¬ IsFacetFace ts f → IsWay ways i (length rows)
way_out ps ts rows closed ways s i f has only open_face = way_of_face ps ts rows closed ways s i (length rows) f has open_face (go (partner_or_not rows i f))
  where
    go : ((j : ℕ) × (partner rows i f ≡ Some j) × (j < length rows) × (i ≢ j) × Contains (row_faces (row_at rows j)) f)
        ⊎ (partner rows i f ≡ None) × ((j : ℕ) → j < length rows → i ≢ j → ¬ Contains (row_faces (row_at rows j)) f) → other_side (partner rows i f) (length rows) ≡ length rows
    go (inl (j, p, h, n, c)) = absurd (n (only j (h, c)))
    go (inr (p, none)) = ap (λ q. other_side q (length rows)) p

way_across : (ps : List Point) (ts : List FacetTriangle) (rows : List Tet) (closed : List Face) (ways : List Across) → Setting ps ts rows closed ways → (i j : ℕ) (f : Face) → HasFaceAt rows i f → HasFaceAt rows j f → i ≢ j
    → ¬ IsFacetFace ts f → IsWay ways i j
way_across ps ts rows closed ways s i j f a b n open_face = way_of_face ps ts rows closed ways s i j f a open_face (go (partner_or_not rows i f))
  where
    go : ((j' : ℕ) × (partner rows i f ≡ Some j') × (j' < length rows) × (i ≢ j') × Contains (row_faces (row_at rows j')) f)
        ⊎ (partner rows i f ≡ None) × ((j' : ℕ) → j' < length rows → i ≢ j' → ¬ Contains (row_faces (row_at rows j')) f) → other_side (partner rows i f) (length rows) ≡ j
    go (inl (j', p, h, m, c)) = ap (λ q. other_side q (length rows)) p ∙ (law_two_rows ps ts rows s.filling).other i j' j f a (h, c) b m n
    go (inr (p, none)) = absurd (none j b.0 n b.1)

-- ---- the two floods

flooded_step : (ps : List Point) (ts : List FacetTriangle) (rows : List Tet) (closed : List Face) (ways : List Across) → Setting ps ts rows closed ways → (seed : ℕ → Type 0) → (i j : ℕ) → IsStep ts rows i j
    → IsFloodedFrom ways seed i → IsFloodedFrom ways seed j
flooded_step ps ts rows closed ways s seed i j (shares i' j' f a b n o) was = flood.goes_on i j was (way_across ps ts rows closed ways s i j f a b n o)
flooded_step ps ts rows closed ways s seed i j (goes_out i' f a only o) was = flood.goes_on i (length rows) was (way_out ps ts rows closed ways s i f a only o)
flooded_step ps ts rows closed ways s seed i j (comes_in i' f a only o) was =
    flood.comes_in j (subst (IsFloodedFrom ways seed) (sym s.are.long) was) (subst (IsWay ways j) (sym s.are.long) (way_out ps ts rows closed ways s j f a only o))

flooded_of : (ps : List Point) (ts : List FacetTriangle) (rows : List Tet) (closed : List Face) (ways : List Across) → Setting ps ts rows closed ways → (from seed : ℕ → Type 0) → ((i : ℕ) → seed i → from i)
    → (i : ℕ) → IsReached ts rows seed i → IsFloodedFrom ways from i
flooded_of ps ts rows closed ways s from seed h i (begins i' d) = flood.begins i (h i d)
flooded_of ps ts rows closed ways s from seed h j (goes_on i j' r step) = flooded_step ps ts rows closed ways s from i j step (flooded_of ps ts rows closed ways s from seed h i r)

reached_of : (ps : List Point) (ts : List FacetTriangle) (rows : List Tet) (closed : List Face) (ways : List Across) → Setting ps ts rows closed ways → (from seed : ℕ → Type 0) → ((i : ℕ) → from i → seed i)
    → (i : ℕ) → IsFloodedFrom ways from i → IsReached ts rows seed i
reached_of ps ts rows closed ways s from seed h i (flood.begins i' e) = begins i (h i e)
reached_of ps ts rows closed ways s from seed h j (flood.goes_on i j' r w) = goes_on i j (reached_of ps ts rows closed ways s from seed h i r) (step_of_way ps ts rows closed ways s i j w)
reached_of ps ts rows closed ways s from seed h j (flood.comes_in j' r w) =
    goes_on (length rows) j (subst (IsReached ts rows seed) s.are.long (reached_of ps ts rows closed ways s from seed h (length ways) r)) (back_of_way ps ts rows closed ways s j w)

-- from the same seeds both come to the same places
pub flood_from : (ps : List Point) (ts : List FacetTriangle) (rows : List Tet) (closed : List Face) (ways : List Across) → Setting ps ts rows closed ways → (from seed : ℕ → Type 0)
    → ((i : ℕ) → from i ↔ seed i) → (i : ℕ) → IsFloodedFrom ways from i ↔ IsReached ts rows seed i
flood_from ps ts rows closed ways s from seed h i = (reached_of ps ts rows closed ways s from seed (λ j. (h j).0) i, flooded_of ps ts rows closed ways s from seed (λ j. (h j).1) i)

pub flood_is : (ps : List Point) (ts : List FacetTriangle) (rows : List Tet) (closed : List Face) (ways : List Across) → Setting ps ts rows closed ways → (seeds : List Bool) (seed : ℕ → Type 0)
    → ((i : ℕ) → (is_marked seeds i ≡ true) ↔ seed i) → (i : ℕ) → IsFlooded ways seeds i ↔ IsReached ts rows seed i
flood_is ps ts rows closed ways s seeds seed h i = flood_from ps ts rows closed ways s (λ j. is_marked seeds j ≡ true) seed h i

-- each way leads to a row or beyond the hull
pub leads_within : (ps : List Point) (ts : List FacetTriangle) (rows : List Tet) (closed : List Face) (ways : List Across) → Setting ps ts rows closed ways → (i j : ℕ) → IsWay ways i j → j < length ways + 1
leads_within ps ts rows closed ways s i j w = go (through ps ts rows closed ways s i j w)
  where
    go : Through ts rows i j → j < length ways + 1
    go t = by (partner_or_not rows i t.face)
      where
        by : ((j' : ℕ) × (partner rows i t.face ≡ Some j') × (j' < length rows) × (i ≢ j') × Contains (row_faces (row_at rows j')) t.face)
            ⊎ (partner rows i t.face ≡ None) × ((j' : ℕ) → j' < length rows → i ≢ j' → ¬ Contains (row_faces (row_at rows j')) t.face) → j < length ways + 1
        by (inl (j', p, h, n, c)) = let e = t.to ∙ ap (λ q. other_side q (length rows)) p in omega (arith, s.are.long, e, h)
        by (inr (p, none)) = let e = t.to ∙ ap (λ q. other_side q (length rows)) p in omega (arith, s.are.long, e)

-- a row with another row across each face does not lead beyond the hull
pub inner_none : (closed : List Face) (rows : List Tet) (i : ℕ) → i < length rows → ((k : ℕ) → k < 4 → ¬ (way (across_of rows i (row_at rows i)) k ≡ None))
    → ¬ IsWay (ways_of closed rows) i (length (ways_of closed rows))
inner_none closed rows i h some (k, l, e) = go (partner_or_not rows i f)
  where
    f : Face
    f = face_opposite (row_at rows i) k

    is : way (across_of rows i (row_at rows i)) k ≡ partner rows i f
    is = across_is rows i k (row_at rows i) l

    t : IsWayThrough closed f (way (across_of rows i (row_at rows i)) k) (length rows) (way (across_at (ways_of closed rows) i) k)
    t = (are_ways closed rows).each i h k l

    to : length (ways_of closed rows) ≡ other_side (way (across_of rows i (row_at rows i)) k) (length rows)
    to = some_same _ _ (sym e ∙ t.opens (λ c. none_some _ (sym (t.closes c) ∙ e)))

    go : ((j : ℕ) × (partner rows i f ≡ Some j) × (j < length rows) × (i ≢ j) × Contains (row_faces (row_at rows j)) f)
        ⊎ (partner rows i f ≡ None) × ((j : ℕ) → j < length rows → i ≢ j → ¬ Contains (row_faces (row_at rows j)) f) → ⊥
    go (inl (j, p, b, n, c)) = let q = to ∙ ap (λ o. other_side o (length rows)) (is ∙ p) in omega (arith, ways-length closed rows, q, b)
    go (inr (p, none)) = some k l (is ∙ p)
