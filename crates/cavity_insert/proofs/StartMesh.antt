-- The mesh of one tetrahedron.
use Rattle.std.proofs.Common.{◌≡◌, ◌≢◌, ◌⊎◌, inl, inr, ℕ, zero, suc, ◌+◌, ◌<◌, ◌≤◌, true, false, not, ◌&&◌, ◌||◌, ◌==◌, List, [], ◌∷◌, get_or, Option, None, Some, IsSome, option_map, refl, sym, ap, subst, ◌∙◌, arith}
use Rattle.std.specs.Prelude.{length, map, is_some, is_none, if◌then◌else◌}
use Rattle.std.proofs.lemmas.Bool.{and_parts, cases_Bool, cases_eq, or_cases, cases_lt, eqb-true, ltb-true, eq-eqb, true≢false, cond-true, cond-false}
use Rattle.sign_predicates.specs.Point.{Point}
use Rattle.sign_predicates.specs.Orientation.{IsPositive}
use Rattle.geo_laws.specs.Delaunay.{corners, numbers, AreNumbersOf, IsArranged, IsDelaunayAmong}
use Rattle.geo_laws.specs.declared.tetrahedra.Tet.{Tet as Row}
use Rattle.sign_predicates.proofs.Places.{Place, A, B, C, D}
use Rattle.geo_laws.proofs.Places.{number}
use Rattle.std.proofs.lemmas.List.{get_or_past}
use Rattle.geo_laws.proofs.Corners.{IsCorner, contains_corner, distinct}
use Rattle.geo_laws.proofs.Corners.{corner_of as corner_of_row}
use Rattle.geo_laws.specs.OrientedFace.{Face, reversed, beside}
use Rattle.insert_laws.specs.Insertion.{IsFirst, IsFaceOf, IsHullFace, HasSameCorners}
use Rattle.insert_laws.proofs.First.{law_first}
use Rattle.mesh_laws.specs.Living.{face_off, IsFaceCorner, HasSameFaceCorners, IsRowSlot, IsGhostSlot, IsDelaunayMesh}
use Rattle.mesh_laws.proofs.Faces.{place_of, off_corner, corner_off, corner_split, row_off}
use Rattle.mesh_laws.proofs.Across.{ghost_shows, infinite_corner}
use Rattle.mesh_laws.proofs.Joined.{place_other}
use Rattle.mesh_arena.specs.Mesh.{SlotValue, corners_at, corner, corner_in, link_behind, at, IsLive, OnFace, SameFace, Links, Takes, Off}
use Rattle.mesh_arena.specs.declared.arena.SlotFace.{SlotFace}
use Rattle.mesh_arena.specs.declared.slot.Corner.{Corner}
use Rattle.mesh_arena.specs.declared.slot.Corner.TheVariants.{Point as Numbered, Ghost}
use Rattle.cavity_insert.specs.declared.start.Shared.{Shared}
use Rattle.cavity_insert.specs.Start.{corner_by_place, start_places, named_corners, behind_face, AreStartSlots, start_links, corner_place_in, has_off, covers, fits_behind}

-- the corner in a place
corner_named : (t : Row) (places : Option (List ℕ)) (m : ℕ) → corner_in (named_corners t places) m ≡ corner_by_place t (corner_place_in places m)
corner_named t None m = refl
corner_named t (Some places) m = at places m
  where
    at : (ps : List ℕ) (k : ℕ) → get_or (map (corner_by_place t) ps) k Ghost ≡ corner_by_place t (get_or ps k 9)
    at [] k = refl
    at (p ∷ ps) zero = refl
    at (p ∷ ps) (suc k) = at ps k

-- a place off j that has the corner
found : (places : Option (List ℕ)) (j x : ℕ) → has_off places j x ≡ true → (q : ℕ) × (q < 4) × (q ≢ j) × (corner_place_in places q ≡ x)
found places j x h = first (or_cases _ _ h)
  where
    here : (q : ℕ) → q < 4 → (not (q == j) && corner_place_in places q == x) ≡ true → (r : ℕ) × (r < 4) × (r ≢ j) × (corner_place_in places r ≡ x)
    here q l e =
        let parts = and_parts (not (q == j)) (corner_place_in places q == x) e in
        (q, l, (λ same. true≢false (sym (parts.0) ∙ ap not (eq-eqb q j same))), eqb-true _ _ parts.1)

    third : ((not (2 == j) && corner_place_in places 2 == x) ≡ true) ⊎ ((not (3 == j) && corner_place_in places 3 == x) ≡ true) → (r : ℕ) × (r < 4) × (r ≢ j) × (corner_place_in places r ≡ x)
    third (inl e) = here 2 (omega arith) e
    third (inr e) = here 3 (omega arith) e

    second : ((not (1 == j) && corner_place_in places 1 == x) ≡ true) ⊎ (((not (2 == j) && corner_place_in places 2 == x) || (not (3 == j) && corner_place_in places 3 == x)) ≡ true) → (r : ℕ) × (r < 4) × (r ≢ j) × (corner_place_in places r ≡ x)
    second (inl e) = here 1 (omega arith) e
    second (inr e) = third (or_cases _ _ e)

    first : ((not (0 == j) && corner_place_in places 0 == x) ≡ true) ⊎ (((not (1 == j) && corner_place_in places 1 == x) || ((not (2 == j) && corner_place_in places 2 == x) || (not (3 == j) && corner_place_in places 3 == x))) ≡ true) → (r : ℕ) × (r < 4) × (r ≢ j) × (corner_place_in places r ≡ x)
    first (inl e) = here 0 (omega arith) e
    first (inr e) = second (or_cases _ _ e)

-- the corners off one place are found off the other
covered : (one two : Option (List ℕ)) (i j m : ℕ) → covers one i two j ≡ true → m < 4 → m ≢ i → (q : ℕ) × (q < 4) × (q ≢ j) × (corner_place_in two q ≡ corner_place_in one m)
covered one two i j m h l off =
    let a = and_parts _ _ h in
    let b = and_parts _ _ a.1 in
    let c = and_parts _ _ b.1 in
    by m l off a.0 b.0 c.0 c.1
  where
    at : (k : ℕ) → k ≢ i → (k == i || has_off two j (corner_place_in one k)) ≡ true → (q : ℕ) × (q < 4) × (q ≢ j) × (corner_place_in two q ≡ corner_place_in one k)
    at k n e = cases (or_cases _ _ e)
      where
        cases : ((k == i) ≡ true) ⊎ (has_off two j (corner_place_in one k) ≡ true) → (q : ℕ) × (q < 4) × (q ≢ j) × (corner_place_in two q ≡ corner_place_in one k)
        cases (inl same) = absurd (n (eqb-true _ _ same))
        cases (inr has) = found two j (corner_place_in one k) has

    by : (k : ℕ) → k < 4 → k ≢ i → (0 == i || has_off two j (corner_place_in one 0)) ≡ true → (1 == i || has_off two j (corner_place_in one 1)) ≡ true → (2 == i || has_off two j (corner_place_in one 2)) ≡ true
        → (3 == i || has_off two j (corner_place_in one 3)) ≡ true → (q : ℕ) × (q < 4) × (q ≢ j) × (corner_place_in two q ≡ corner_place_in one k)
    by zero h4 n a b c d = at 0 n a
    by (suc zero) h4 n a b c d = at 1 n b
    by (suc (suc zero)) h4 n a b c d = at 2 n c
    by (suc (suc (suc zero))) h4 n a b c d = at 3 n d
    by (suc (suc (suc (suc k)))) h4 n a b c d = absurd (omega (arith, h4))

module _ (slots : List (Option SlotValue)) (t : Row) (linked : List Shared) (are : AreStartSlots slots t linked) where
  corner_is : (s m : ℕ) → corner slots s m ≡ corner_by_place t (corner_place_in (start_places s) m)
  corner_is s m = ap (λ o. corner_in o m) (are.corners s) ∙ corner_named t (start_places s) m

  on_other : (s i u j : ℕ) → covers (start_places s) i (start_places u) j ≡ true → (x : Corner) → OnFace slots s i x → OnFace slots u j x
  on_other s i u j h x on =
      let q = covered (start_places s) (start_places u) i j on.place h on.within on.off in
      record { place = q.0; within = q.1; off = q.2; is = corner_is u q.0 ∙ ap (corner_by_place t) q.3 ∙ sym (corner_is s on.place) ∙ on.is }

  pub same_face : (s i u j : ℕ) → covers (start_places s) i (start_places u) j ≡ true → covers (start_places u) j (start_places s) i ≡ true → SameFace slots s i u j
  same_face s i u j h g = record { to = on_other s i u j h; from = on_other u j s i g }

  pub live_at : (s : ℕ) → is_some (start_places s) ≡ true → IsLive slots s
  live_at s h = subst IsSome (sym (are.corners s)) (by (start_places s) h)
    where
      by : (o : Option (List ℕ)) → is_some o ≡ true → IsSome (named_corners t o)
      by None e = absurd (true≢false (sym e))
      by (Some ps) e = refl

none_of : (o : Option SlotFace) → is_none o ≡ true → o ≡ None
none_of None h = refl
none_of (Some b) h = absurd (true≢false (sym h))

-- what `link` asks of a pair of faces that fits
pub record CanLink (slots : List (Option SlotValue)) (p : Shared) : Type 0 where
  pub first : IsLive slots p.slot
  pub second : IsLive slots p.behind
  pub faces : (p.face < 4) × (p.back < 4)
  pub differ : p.slot ≢ p.behind
  pub same : SameFace slots p.slot p.face p.behind p.back
  pub first_free : link_behind slots p.slot p.face ≡ None
  pub second_free : link_behind slots p.behind p.back ≡ None

pub can_link : (slots : List (Option SlotValue)) (t : Row) (linked : List Shared) (p : Shared) → AreStartSlots slots t linked → fits_behind linked p ≡ true → CanLink slots p
can_link slots t linked p are h =
    let a = and_parts _ _ h in
    let live = and_parts _ _ a.0 in
    let b = and_parts _ _ a.1 in
    let c = and_parts _ _ b.0 in
    let below = and_parts _ _ c.1 in
    let d = and_parts _ _ b.1 in
    let same = and_parts _ _ d.0 in
    let free = and_parts _ _ d.1 in
    record {
      first = live_at slots t linked are p.slot live.0;
      second = live_at slots t linked are p.behind live.1;
      faces = (ltb-true _ _ below.0, ltb-true _ _ below.1);
      differ = λ e. true≢false (sym (c.0) ∙ ap not (eq-eqb _ _ e));
      same = same_face slots t linked are p.slot p.face p.behind p.back same.0 same.1;
      first_free = are.sides p.slot p.face ∙ none_of _ free.0;
      second_free = are.sides p.behind p.back ∙ none_of _ free.1;
    }

-- the pair is linked
pub linked_one : (old new : List (Option SlotValue)) (t : Row) (linked : List Shared) (p : Shared) → AreStartSlots old t linked → Links old new p.slot p.face p.behind p.back → AreStartSlots new t (p ∷ linked)
linked_one old new t linked p are links = record {
  corners = λ s. links.corners s ∙ are.corners s;
  sides = λ s k. first s k (cases_Bool (s == p.slot && k == p.face));
}
  where
    off : (s k u j : ℕ) → (s == u && k == j) ≡ false → Off s k u j
    off s k u j h = by (cases_eq s u)
      where
        by : (s ≡ u) ⊎ (s ≢ u) → Off s k u j
        by (inr n) = inl n
        by (inl e) = inr (λ f. true≢false (sym (ap (λ b. b && (k == j)) (eq-eqb s u e) ∙ eq-eqb k j f) ∙ h))

    here : (s k u j : ℕ) → (s == u && k == j) ≡ true → (b : Option SlotFace) → link_behind new u j ≡ b → link_behind new s k ≡ b
    here s k u j h b e =
        let parts = and_parts _ _ h in
        ap (λ z. link_behind new z k) (eqb-true s u parts.0) ∙ ap (λ z. link_behind new u z) (eqb-true k j parts.1) ∙ e

    second : (s k : ℕ) → Off s k p.slot p.face → ((s == p.behind && k == p.back) ≡ true) ⊎ ((s == p.behind && k == p.back) ≡ false)
        → link_behind new s k ≡ (if s == p.behind && k == p.back then Some (at p.slot p.face) else behind_face linked s k)
    second s k o (inl e) = here s k p.behind p.back e _ links.second ∙ sym (cond-true _ _ _ e)
    second s k o (inr e) = links.others s k o (off s k p.behind p.back e) ∙ are.sides s k ∙ sym (cond-false _ _ _ e)

    first : (s k : ℕ) → ((s == p.slot && k == p.face) ≡ true) ⊎ ((s == p.slot && k == p.face) ≡ false) → link_behind new s k ≡ behind_face (p ∷ linked) s k
    first s k (inl e) = here s k p.slot p.face e _ links.first ∙ sym (cond-true _ _ _ e)
    first s k (inr e) = second s k (off s k p.slot p.face e) (cases_Bool _) ∙ sym (cond-false _ _ _ e)

-- ---- the slots

-- the first n slots are there, and none is linked
pub record AreMade (slots : List (Option SlotValue)) (t : Row) (n : ℕ) : Type 0 where
  pub len : length slots ≡ n
  pub corners : (s : ℕ) → s < n → corners_at slots s ≡ named_corners t (start_places s)
  pub bare : (s k : ℕ) → link_behind slots s k ≡ None

pub none_made : (t : Row) → AreMade [] t 0
none_made t = record { len = refl; corners = λ s l. absurd (omega (arith, l)); bare = λ s k. refl }

some_start : (t : Row) (s : ℕ) → s < 5 → IsSome (named_corners t (start_places s))
some_start t zero h = refl
some_start t (suc zero) h = refl
some_start t (suc (suc zero)) h = refl
some_start t (suc (suc (suc zero))) h = refl
some_start t (suc (suc (suc (suc zero)))) h = refl
some_start t (suc (suc (suc (suc (suc s))))) h = absurd (omega (arith, h))

not_none : (o : Option (List Corner)) → IsSome o → o ≡ None → ⊥
not_none None h e = absurd (cc)
not_none (Some x) h e = cc

-- and the next one is made
pub one_made : (old new : List (Option SlotValue)) (t : Row) (n s : ℕ) (cs : List Corner) → n < 5 → AreMade old t n → Takes old new s cs → Some cs ≡ named_corners t (start_places n) → AreMade new t (n + 1)
one_made old new t n s cs few are takes is = record {
  len = past.1 ∙ ap (λ z. z + 1) are.len;
  corners = λ u l. by u l (cases_eq u s);
  bare = λ u k. takes.sides u k ∙ are.bare u k;
}
  where
    end : length old ≤ s
    end = elim (cases_lt s (length old)) [
      | inl l ↦ absurd (not_none (named_corners t (start_places s)) (some_start t s (omega (arith, l, are.len, few))) (sym (are.corners s (omega (arith, l, are.len))) ∙ takes.free))
      | inr g ↦ g
    ]

    past : (s ≡ length old) × (length new ≡ length old + 1)
    past = takes.past end

    by : (u : ℕ) → u < n + 1 → (u ≡ s) ⊎ (u ≢ s) → corners_at new u ≡ named_corners t (start_places u)
    by u l (inl e) =
        let here : u ≡ n = e ∙ past.0 ∙ are.len in
        ap (corners_at new) e ∙ takes.made ∙ is ∙ ap (λ z. named_corners t (start_places z)) (sym here)
    by u l (inr m) = takes.corners u m ∙ are.corners u (omega (arith, l, m, past.0, are.len))

pub all_made : (slots : List (Option SlotValue)) (t : Row) → AreMade slots t 5 → AreStartSlots slots t []
all_made slots t are = record {
  corners = λ s. by s (cases_lt s 5);
  sides = λ s k. are.bare s k;
}
  where
    beyond : (s : ℕ) → 5 ≤ s → None ≡ named_corners t (start_places s)
    beyond zero h = absurd (omega (arith, h))
    beyond (suc zero) h = absurd (omega (arith, h))
    beyond (suc (suc zero)) h = absurd (omega (arith, h))
    beyond (suc (suc (suc zero))) h = absurd (omega (arith, h))
    beyond (suc (suc (suc (suc zero)))) h = absurd (omega (arith, h))
    beyond (suc (suc (suc (suc (suc s))))) h = refl

    by : (s : ℕ) → (s < 5) ⊎ (5 ≤ s) → corners_at slots s ≡ named_corners t (start_places s)
    by s (inl l) = are.corners s l
    by s (inr g) = ap (option_map (λ t. t.corners)) (get_or_past slots s None (omega (arith, are.len, g))) ∙ beyond s g

-- ---- the mesh

-- the corners of the ghost over a face, and any number
abbrev ghost_four : Row → ℕ → Row
ghost_four t zero = record { a = t.b; b = t.c; c = t.d; d = 0 }
ghost_four t (suc zero) = record { a = t.a; b = t.d; c = t.c; d = 0 }
ghost_four t (suc (suc zero)) = record { a = t.a; b = t.b; c = t.d; d = 0 }
ghost_four t k = record { a = t.a; b = t.c; c = t.b; d = 0 }

module _ (slots : List (Option SlotValue)) (ps : List Point) (t : Row) (are : AreStartSlots slots t start_links) (on : AreNumbersOf ps (numbers t)) (positive : IsPositive (corners ps t)) (arranged : IsArranged t) where
  first : IsFirst ps t
  first = law_first ps t positive arranged

  row_slot : IsRowSlot slots ps (numbers t) 0 t
  row_slot = record { is = are.corners 0; row = t; is_row = (first.only t).1 refl; same_corners = λ i. (λ c. c, λ c. c); is_positive = positive }

  hull_off : (k : ℕ) → k < 4 → IsHullFace ps (numbers t) (reversed (face_off t k))
  hull_off k h = first.hull (reversed (face_off t k)) (row_off ps t t k h positive (λ i. (λ c. c, λ c. c)))

  ghost_slot : (k : ℕ) → k < 4 → IsGhostSlot slots ps (numbers t) (suc k) (ghost_four t k) 3
  ghost_slot zero h = record { within = omega arith; is = are.corners 1; is_hull = hull_off 0 h }
  ghost_slot (suc zero) h = record { within = omega arith; is = are.corners 2; is_hull = hull_off 1 h }
  ghost_slot (suc (suc zero)) h = record { within = omega arith; is = are.corners 3; is_hull = hull_off 2 h }
  ghost_slot (suc (suc (suc zero))) h = record { within = omega arith; is = are.corners 4; is_hull = hull_off 3 h }
  ghost_slot (suc (suc (suc (suc k)))) h = absurd (omega (arith, h))

  few : (s : ℕ) → IsLive slots s → s < 5
  few zero l = omega arith
  few (suc zero) l = omega arith
  few (suc (suc zero)) l = omega arith
  few (suc (suc (suc zero))) l = omega arith
  few (suc (suc (suc (suc zero)))) l = omega arith
  few (suc (suc (suc (suc (suc s))))) l = absurd (not_none _ l (are.corners (suc (suc (suc (suc (suc s)))))))

  each : (s : ℕ) → IsLive slots s → ((x : Row) × IsRowSlot slots ps (numbers t) s x) ⊎ ((x : Row) × (k : ℕ) × IsGhostSlot slots ps (numbers t) s x k)
  each zero l = inl (t, row_slot)
  each (suc k) l = inr (ghost_four t k, 3, ghost_slot k (omega (arith, few (suc k) l)))

  ghost_last : (k : ℕ) → corner_in (named_corners t (start_places (suc k))) 3 ≡ Ghost
  ghost_last zero = refl
  ghost_last (suc zero) = refl
  ghost_last (suc (suc zero)) = refl
  ghost_last (suc (suc (suc zero))) = refl
  ghost_last (suc (suc (suc (suc k)))) = refl

  finite : (i : ℕ) → Numbered i ≡ Ghost → ⊥
  finite i e = cc

  row_first : (s : ℕ) (x : Row) → IsRowSlot slots ps (numbers t) s x → s ≡ 0
  row_first zero x slot = refl
  row_first (suc k) x slot = absurd (finite x.d (ap (λ o. corner_in o 3) (sym slot.is ∙ are.corners (suc k)) ∙ ghost_last k))

  rows : (r : Row) → IsDelaunayAmong ps (numbers t) r → (s : ℕ) × (x : Row) × (slot : IsRowSlot slots ps (numbers t) s x) × (slot.row ≡ r)
  unfolding row_slot
  rows r d = (0, t, row_slot, sym ((first.only r).0 d))

  -- the face opposite a corner of the tetrahedron has its other corners
  same_off : (k : ℕ) (f : Face) (o : ℕ) → k < 4 → number t (place_of k) ≡ o → HasSameCorners (beside f o) t → IsPositive (corners ps (beside f o)) → HasSameFaceCorners (reversed (face_off t k)) (reversed f)
  same_off k f o h e same over i = (λ c. to (turned (face_off t k) c), λ c. from (turned f c))
    where
      turned : (g : Face) → IsFaceCorner (reversed g) i → IsFaceCorner g i
      turned g (inl e) = inl e
      turned g (inr (inl e)) = inr (inr e)
      turned g (inr (inr e)) = inr (inl e)

      turn : (g : Face) → IsFaceCorner g i → IsFaceCorner (reversed g) i
      turn g (inl e) = inl e
      turn g (inr (inl e)) = inr (inr e)
      turn g (inr (inr e)) = inr (inl e)

      to : IsFaceCorner (face_off t k) i → IsFaceCorner (reversed f) i
      to c =
          let m = corner_off t k i h c in
          by (corner_of_row (beside f o) i ((same i).1 (contains_corner t i (place_of m.0, sym m.3)))) (λ q. distinct ps t positive (place_of m.0) (place_of k) (place_other m.0 k m.1 h m.2) (m.3 ∙ q ∙ sym e))
        where
          by : IsCorner (beside f o) i → (i ≡ o → ⊥) → IsFaceCorner (reversed f) i
          by (A, q) n = turn f (inl q)
          by (B, q) n = turn f (inr (inl q))
          by (C, q) n = turn f (inr (inr q))
          by (D, q) n = absurd (n q)

      from : IsFaceCorner f i → IsFaceCorner (reversed (face_off t k)) i
      from c = by (corner_split t k i h (corner_of_row t i ((same i).0 (contains_corner (beside f o) i (at c).0)))) (λ q. (at c).1 (q ∙ e))
        where
          at : IsFaceCorner f i → IsCorner (beside f o) i × (i ≢ o)
          at (inl q) = ((A, q), λ z. distinct ps (beside f o) over A D tt (sym q ∙ z))
          at (inr (inl q)) = ((B, q), λ z. distinct ps (beside f o) over B D tt (sym q ∙ z))
          at (inr (inr q)) = ((C, q), λ z. distinct ps (beside f o) over C D tt (sym q ∙ z))

          by : (i ≡ number t (place_of k)) ⊎ IsFaceCorner (face_off t k) i → (i ≡ number t (place_of k) → ⊥) → IsFaceCorner (reversed (face_off t k)) i
          by (inl q) n = absurd (n q)
          by (inr q) n = turn (face_off t k) q

  four_reversed : (k : ℕ) → k < 4 → face_off (ghost_four t k) 3 ≡ reversed (face_off t k)
  four_reversed zero h = refl
  four_reversed (suc zero) h = refl
  four_reversed (suc (suc zero)) h = refl
  four_reversed (suc (suc (suc zero))) h = refl
  four_reversed (suc (suc (suc (suc k)))) h = absurd (omega (arith, h))

  ghosts : (f : Face) → IsHullFace ps (numbers t) f → (s : ℕ) × (x : Row) × (k : ℕ) × IsGhostSlot slots ps (numbers t) s x k × HasSameFaceCorners (face_off x k) f
  ghosts f hull = at (index place.0)
    where
      face : IsFaceOf ps (reversed f) t
      face = subst (IsFaceOf ps (reversed f)) ((first.only hull.behind).0 hull.is_row) hull.is_face

      place : IsCorner t face.opposite
      place = corner_of_row t face.opposite ((face.same_corners face.opposite).0 (contains_corner (beside (reversed f) face.opposite) face.opposite (D, refl)))

      index : (p : Place) → (k : ℕ) × (k < 4) × (place_of k ≡ p)
      index A = (0, omega arith, refl)
      index B = (1, omega arith, refl)
      index C = (2, omega arith, refl)
      index D = (3, omega arith, refl)

      at : ((k : ℕ) × (k < 4) × (place_of k ≡ place.0)) → (s : ℕ) × (x : Row) × (k : ℕ) × IsGhostSlot slots ps (numbers t) s x k × HasSameFaceCorners (face_off x k) f
      at k =
          let same : HasSameFaceCorners (reversed (face_off t k.0)) f = same_off k.0 (reversed f) face.opposite k.1 (ap (number t) k.2 ∙ sym place.1) face.same_corners face.over in
          (suc k.0, ghost_four t k.0, 3, ghost_slot k.0 k.1, subst (λ g. HasSameFaceCorners g f) (sym (four_reversed k.0 k.1)) same)

  -- a ghost is over a face of the tetrahedron, with the point at infinity last
  ghost_at : (s : ℕ) (x : Row) (k : ℕ) → IsGhostSlot slots ps (numbers t) s x k → (m : ℕ) × (m < 4) × (s ≡ suc m) × (k ≡ 3)
  ghost_at zero x k slot = absurd (by k slot.within (sym (ap (λ o. corner_in o k) (are.corners 0)) ∙ infinite_corner slots ps (numbers t) 0 k x slot))
    where
      by : (j : ℕ) → j < 4 → corner_in (named_corners t (start_places 0)) j ≡ Ghost → ⊥
      by zero h e = finite t.a e
      by (suc zero) h e = finite t.b e
      by (suc (suc zero)) h e = finite t.c e
      by (suc (suc (suc zero))) h e = finite t.d e
      by (suc (suc (suc (suc j)))) h e = omega (arith, h)
  ghost_at (suc m) x k slot = (m, m4, refl, by m k m4 slot.within (sym (ap (λ o. corner_in o k) (are.corners (suc m))) ∙ infinite_corner slots ps (numbers t) (suc m) k x slot))
    where
      m4 : m < 4
      m4 = omega (arith, few (suc m) (subst IsSome (sym slot.is) refl))

      by : (m j : ℕ) → m < 4 → j < 4 → corner_in (named_corners t (start_places (suc m))) j ≡ Ghost → j ≡ 3
      by m (suc (suc (suc zero))) l h e = refl
      by m (suc (suc (suc (suc j)))) l h e = absurd (omega (arith, h))
      by zero zero l h e = absurd (finite _ e)
      by zero (suc zero) l h e = absurd (finite _ e)
      by zero (suc (suc zero)) l h e = absurd (finite _ e)
      by (suc zero) zero l h e = absurd (finite _ e)
      by (suc zero) (suc zero) l h e = absurd (finite _ e)
      by (suc zero) (suc (suc zero)) l h e = absurd (finite _ e)
      by (suc (suc zero)) zero l h e = absurd (finite _ e)
      by (suc (suc zero)) (suc zero) l h e = absurd (finite _ e)
      by (suc (suc zero)) (suc (suc zero)) l h e = absurd (finite _ e)
      by (suc (suc (suc zero))) zero l h e = absurd (finite _ e)
      by (suc (suc (suc zero))) (suc zero) l h e = absurd (finite _ e)
      by (suc (suc (suc zero))) (suc (suc zero)) l h e = absurd (finite _ e)
      by (suc (suc (suc (suc m)))) j l h e = absurd (omega (arith, l))

  -- the numbers on a ghost's hull face are the corners of the face that it is over
  shows_face : (m : ℕ) → m < 4 → (x : Row) → IsGhostSlot slots ps (numbers t) (suc m) x 3 → HasSameFaceCorners (face_off x 3) (face_off t m)
  shows_face m h x slot i =
      let one = ghost_shows slots ps (numbers t) (suc m) 3 x slot in
      let two = ghost_shows slots ps (numbers t) (suc m) 3 (ghost_four t m) (ghost_slot m h) in
      (λ c. turned (subst (λ g. IsFaceCorner g i) (four_reversed m h) (two.to i (one.from i c))), λ c. one.to i (two.from i (subst (λ g. IsFaceCorner g i) (sym (four_reversed m h)) (turn c))))
    where
      turned : IsFaceCorner (reversed (face_off t m)) i → IsFaceCorner (face_off t m) i
      turned (inl e) = inl e
      turned (inr (inl e)) = inr (inr e)
      turned (inr (inr e)) = inr (inl e)

      turn : IsFaceCorner (face_off t m) i → IsFaceCorner (reversed (face_off t m)) i
      turn (inl e) = inl e
      turn (inr (inl e)) = inr (inr e)
      turn (inr (inr e)) = inr (inl e)

  -- faces with the same corners are opposite the same corner
  same_face_off : (m n : ℕ) → m < 4 → n < 4 → HasSameFaceCorners (face_off t m) (face_off t n) → m ≡ n
  same_face_off m n h g same = by (cases_eq m n)
    where
      by : (m ≡ n) ⊎ (m ≢ n) → m ≡ n
      by (inl e) = e
      by (inr d) =
          let c = corner_off t m (number t (place_of m)) h ((same (number t (place_of m))).1 (off_corner t n m g h d)) in
          absurd (distinct ps t positive (place_of c.0) (place_of m) (place_other c.0 m c.1 h c.2) c.3)

  one_ghost : (s u : ℕ) (x y : Row) (k j : ℕ) → IsGhostSlot slots ps (numbers t) s x k → IsGhostSlot slots ps (numbers t) u y j → HasSameFaceCorners (face_off x k) (face_off y j) → s ≡ u
  one_ghost s u x y k j a b same = at (ghost_at s x k a) (ghost_at u y j b) a b same
    where
      at : ((m : ℕ) × (m < 4) × (s ≡ suc m) × (k ≡ 3)) → ((n : ℕ) × (n < 4) × (u ≡ suc n) × (j ≡ 3)) → IsGhostSlot slots ps (numbers t) s x k → IsGhostSlot slots ps (numbers t) u y j → HasSameFaceCorners (face_off x k) (face_off y j) → s ≡ u
      at m n a b same =
          let a3 = subst (λ z. IsGhostSlot slots ps (numbers t) z x 3) m.2 (subst (IsGhostSlot slots ps (numbers t) s x) m.3 a) in
          let b3 = subst (λ z. IsGhostSlot slots ps (numbers t) z y 3) n.2 (subst (IsGhostSlot slots ps (numbers t) u y) n.3 b) in
          let faces = subst (λ z. HasSameFaceCorners (face_off x 3) (face_off y z)) n.3 (subst (λ z. HasSameFaceCorners (face_off x z) (face_off y j)) m.3 same) in
          let one = shows_face m.0 m.1 x a3 in
          let two = shows_face n.0 n.1 y b3 in
          m.2 ∙ ap suc (same_face_off m.0 n.0 m.1 n.1 (λ i. (λ c. (two i).0 ((faces i).0 ((one i).1 c)), λ c. (one i).0 ((faces i).1 ((two i).1 c))))) ∙ sym n.2

  some_behind : (s k : ℕ) → s < 5 → k < 4 → IsSome (behind_face start_links s k)
  some_behind zero zero h l = refl
  some_behind zero (suc zero) h l = refl
  some_behind zero (suc (suc zero)) h l = refl
  some_behind zero (suc (suc (suc zero))) h l = refl
  some_behind zero (suc (suc (suc (suc k)))) h l = absurd (omega (arith, l))
  some_behind (suc zero) zero h l = refl
  some_behind (suc zero) (suc zero) h l = refl
  some_behind (suc zero) (suc (suc zero)) h l = refl
  some_behind (suc zero) (suc (suc (suc zero))) h l = refl
  some_behind (suc zero) (suc (suc (suc (suc k)))) h l = absurd (omega (arith, l))
  some_behind (suc (suc zero)) zero h l = refl
  some_behind (suc (suc zero)) (suc zero) h l = refl
  some_behind (suc (suc zero)) (suc (suc zero)) h l = refl
  some_behind (suc (suc zero)) (suc (suc (suc zero))) h l = refl
  some_behind (suc (suc zero)) (suc (suc (suc (suc k)))) h l = absurd (omega (arith, l))
  some_behind (suc (suc (suc zero))) zero h l = refl
  some_behind (suc (suc (suc zero))) (suc zero) h l = refl
  some_behind (suc (suc (suc zero))) (suc (suc zero)) h l = refl
  some_behind (suc (suc (suc zero))) (suc (suc (suc zero))) h l = refl
  some_behind (suc (suc (suc zero))) (suc (suc (suc (suc k)))) h l = absurd (omega (arith, l))
  some_behind (suc (suc (suc (suc zero)))) zero h l = refl
  some_behind (suc (suc (suc (suc zero)))) (suc zero) h l = refl
  some_behind (suc (suc (suc (suc zero)))) (suc (suc zero)) h l = refl
  some_behind (suc (suc (suc (suc zero)))) (suc (suc (suc zero))) h l = refl
  some_behind (suc (suc (suc (suc zero)))) (suc (suc (suc (suc k)))) h l = absurd (omega (arith, l))
  some_behind (suc (suc (suc (suc (suc s))))) k h l = absurd (omega (arith, h))

  pub start_mesh : IsDelaunayMesh slots ps (numbers t)
  start_mesh = record {
    within = on;
    each = each;
    rows = rows;
    one_row = λ s u x r a b same. row_first s x a ∙ sym (row_first u r b);
    ghosts = ghosts;
    one_ghost = one_ghost;
    linked = λ s k l h. subst IsSome (sym (are.sides s k)) (some_behind s k (few s l) h);
  }
