-- The faces under the ghosts of a mesh are those of one row of its list alone.
use Rattle.std.proofs.Common.{◌≡◌, ◌≢◌, ◌↔◌, ◌⊎◌, inl, inr, ℕ, zero, suc, ◌+◌, ◌<◌, ◌≤◌, List, [], ◌∷◌, ◌++◌, length, get_or, set, Option, None, Some, refl, sym, ap, subst, ◌∙◌, arith}
use Rattle.std.specs.Prelude.{Contains, AllPairs, MatchOption}
use Rattle.std.proofs.lemmas.Bool.{cases_eq, cases_lt}
use Rattle.std.proofs.lemmas.List.{get_or-set_same, get_or-set_other}
use Rattle.std.proofs.lemmas.List.Elements.{Contains-append_left, Contains-push, Contains-push_cases}
use Rattle.sign_predicates.specs.Point.{Point}
use Rattle.geo_laws.specs.Delaunay.{all_numbers, IsDelaunayAmong, IsDelaunayList}
use Rattle.geo_laws.specs.Faces.{face_numbers, row_faces, FaceBefore, IsOfOneRow, AreHullFacesOf}
use Rattle.geo_laws.specs.OrientedFace.{Face as Oriented, reversed}
use Rattle.geo_laws.specs.declared.faces.Face.{Face}
use Rattle.geo_laws.specs.declared.tetrahedra.Tet.{Tet as Row}
use Rattle.geo_laws.proofs.Members.{IsMember}
use Rattle.sign_predicates.proofs.Places.{Place, A, B, C, D}
use Rattle.geo_laws.proofs.Places.{number}
use Rattle.geo_laws.proofs.RowFaces.{of_three, in_three, in_face_of, of_face_of, swap_second, ascends, same_face, face_at, face_place, has_face}
use Rattle.insert_laws.specs.Insertion.{HasSameCorners, IsFaceOf, IsHullFace}
use Rattle.insert_laws.proofs.Insert.{law_one_row}
use Rattle.insert_laws.proofs.Lists.{law_hull_face}
use Rattle.mesh_arena.specs.Mesh.{SlotValue, IsLive, corners_at, corner_list, link_behind, IsArenaMesh}
use Rattle.mesh_arena.specs.declared.arena.SlotFace.{SlotFace}
use Rattle.mesh_arena.specs.declared.slot.Corner.TheVariants.{Point as Numbered, Ghost}
use Rattle.mesh_arena.specs.declared.slot.SlotCorners.{SlotCorners}
use Rattle.point_locate.specs.Place.{row_corners}
use Rattle.mesh_laws.specs.Living.{face_off, IsFaceCorner, HasSameFaceCorners, IsRowSlot, IsGhostSlot, IsDelaunayMesh}
use Rattle.mesh_laws.proofs.Faces.{AreApart, hull_apart, place_of, apart_off, row_beside, row_off}
use Rattle.mesh_laws.proofs.Taken.{no_ghost, same_corners}
use Rattle.mesh_laws.proofs.Across.{row_corner, ghost_corner, infinite_corner, ghost_shows, some_side, behind_row}
use Rattle.mesh_laws.proofs.Joined.{place_of_face}
use Rattle.cavity_insert.specs.Hull.{ascending, IsOverFace, AreFacesBelow}
use Rattle.cavity_insert.proofs.SlotRows.{slot_within}

-- ---- faces by their ascending corners

listed : (f : Oriented) (i : ℕ) → IsFaceCorner f i → IsMember i (face_numbers (ascending f))
listed f i c = in_face_of f.a f.b f.c i (in_three i f.a f.b f.c c)

unlisted : (f : Oriented) (i : ℕ) → IsMember i (face_numbers (ascending f)) → IsFaceCorner f i
unlisted f i m = of_three i f.a f.b f.c (of_face_of f.a f.b f.c i m)

-- faces with the same corners
same_ascending : (f g : Oriented) → AreApart f → AreApart g → HasSameFaceCorners f g → ascending f ≡ ascending g
same_ascending f g p q same = same_face (ascending f) (ascending g) (ascends f.a f.b f.c p.ab p.ac p.bc) (ascends g.a g.b g.c q.ab q.ac q.bc)
    (λ i m. listed g i ((same i).0 (unlisted f i m)))

-- and back
same_corners_of : (f g : Oriented) → ascending f ≡ ascending g → HasSameFaceCorners f g
same_corners_of f g e i = (
  λ c. unlisted g i (subst (λ h. IsMember i (face_numbers h)) e (listed f i c)),
  λ c. unlisted f i (subst (λ h. IsMember i (face_numbers h)) (sym e) (listed g i c)),
)

turned_apart : (f : Oriented) → AreApart f → AreApart (reversed f)
turned_apart f p = record { ab = p.ac; ac = p.ab; bc = λ e. p.bc (sym e) }

turned_ascending : (f : Oriented) → ascending (reversed f) ≡ ascending f
turned_ascending f = swap_second f.a f.c f.b

-- the face off a corner is the one opposite it
off_is : (t : Row) (k : ℕ) → k < 4 → ascending (face_off t k) ≡ face_at t (place_of k)
off_is t zero h = swap_second t.b t.d t.c
off_is t (suc zero) h = refl
off_is t (suc (suc zero)) h = swap_second t.a t.d t.b
off_is t (suc (suc (suc zero))) h = refl
off_is t (suc (suc (suc (suc k)))) h = absurd (omega arith)

in_row_faces : (t : Row) (k : ℕ) → k < 4 → Contains (row_faces t) (ascending (face_off t k))
in_row_faces t k h = subst (Contains (row_faces t)) (sym (off_is t k h)) (has_face t (place_of k))

of_row_faces : (t : Row) (f : Face) → Contains (row_faces t) f → (k : ℕ) × (k < 4) × (f ≡ ascending (face_off t k))
of_row_faces t f c = by (face_place t f c)
  where
    by : (u : Place) × (f ≡ face_at t u) → (k : ℕ) × (k < 4) × (f ≡ ascending (face_off t k))
    by (A, e) = (0, omega arith, e ∙ sym (off_is t 0 (omega arith)))
    by (B, e) = (1, omega arith, e ∙ sym (off_is t 1 (omega arith)))
    by (C, e) = (2, omega arith, e ∙ sym (off_is t 2 (omega arith)))
    by (D, e) = (3, omega arith, e ∙ sym (off_is t 3 (omega arith)))

itself : (t : Row) → HasSameCorners t t
itself t i = (λ c. c, λ c. c)

-- ---- the corners of a ghost

-- the point at infinity is in one place of a ghost's corners
pub one_infinite : (t : SlotCorners) (r : Row) (k p : ℕ) → k < 4 → p < 4 → corner_list t ≡ set (row_corners r) k Ghost → get_or (corner_list t) p Ghost ≡ Ghost → k ≡ p
one_infinite t r k p k4 p4 e infinite = by (cases_eq p k)
  where
    by : (p ≡ k) ⊎ (p ≢ k) → k ≡ p
    by (inl same) = sym same
    by (inr other) = absurd (no_ghost r p p4 (sym (get_or-set_other (row_corners r) k p Ghost Ghost other) ∙ sym (ap (λ cs. get_or cs p Ghost) e) ∙ infinite))

-- the others are points
pub finite_corner : (t : SlotCorners) (r : Row) (k p m : ℕ) → k ≡ p → m < 4 → m ≢ p → corner_list t ≡ set (row_corners r) k Ghost → get_or (corner_list t) m Ghost ≡ Numbered (number r (place_of m))
finite_corner t r k p m same m4 other e =
    ap (λ cs. get_or cs m Ghost) e ∙ get_or-set_other (row_corners r) k m Ghost Ghost (λ z. other (z ∙ same)) ∙ row_corner r m m4

-- a row has none at infinity
pub none_infinite : (t : SlotCorners) (four r : Row) (k : ℕ) → k < 4 → corner_list t ≡ row_corners four → corner_list t ≡ set (row_corners r) k Ghost → ⊥
none_infinite t four r k k4 is e = no_ghost four k k4 (ap (λ cs. get_or cs k Ghost) (sym is ∙ e) ∙ get_or-set_same (row_corners r) k Ghost Ghost (omega (arith, k4)))

-- ---- the faces under ghosts

module _ (slots : List (Option SlotValue)) (ps : List Point) where
  never : (i : ℕ) → Ghost ≡ Numbered i → ⊥
  never i e = cc

  -- a slot is over one face
  pub one_face : (s : ℕ) (f g : Face) → IsOverFace slots ps s f → IsOverFace slots ps s g → f ≡ g
  one_face s f g o p = by (cases_eq o.place p.place)
    where
      by : (o.place ≡ p.place) ⊎ (o.place ≢ p.place) → f ≡ g
      by (inl e) =
          let ghost : IsGhostSlot slots ps (all_numbers ps) s o.four p.place = subst (IsGhostSlot slots ps (all_numbers ps) s o.four) e o.ghost in
          let one = ghost_shows slots ps (all_numbers ps) s p.place o.four ghost in
          let two = ghost_shows slots ps (all_numbers ps) s p.place p.four p.ghost in
          o.is ∙ ap (λ k. ascending (face_off o.four k)) e
          ∙ same_ascending (face_off o.four p.place) (face_off p.four p.place) (hull_apart ps (all_numbers ps) _ ghost.is_hull) (hull_apart ps (all_numbers ps) _ p.ghost.is_hull)
          (λ i. (λ c. two.to i (one.from i c), λ c. one.to i (two.from i c))) ∙ sym p.is
      by (inr n) = absurd (never _ (sym (infinite_corner slots ps (all_numbers ps) s o.place o.four o.ghost) ∙ ghost_corner slots ps (all_numbers ps) s p.place p.four p.ghost o.place o.ghost.within n))

  -- what is told of the corners of a slot
  pub at_slot : (now : IsDelaunayMesh slots ps (all_numbers ps)) (s : ℕ) (t : SlotCorners) (found : Option Face) → corners_at slots s ≡ Some (corner_list t)
      → ((r : Row) → corner_list t ≡ row_corners r → found ≡ None)
      → ((r : Row) (k : ℕ) → k < 4 → corner_list t ≡ set (row_corners r) k Ghost → found ≡ Some (ascending (face_off r k)))
      → MatchOption found ((f : Face) → ¬ IsOverFace slots ps s f) (IsOverFace slots ps s)
  at_slot now s t found is row ghost = by (now.each s (rw is refl))
    where
      by : ((r : Row) × IsRowSlot slots ps (all_numbers ps) s r) ⊎ ((r : Row) × (k : ℕ) × IsGhostSlot slots ps (all_numbers ps) s r k) → MatchOption found ((f : Face) → ¬ IsOverFace slots ps s f) (IsOverFace slots ps s)
      by (inl (r, slot)) =
          let corners : corner_list t ≡ row_corners r = same_corners slots s (corner_list t) (row_corners r) is slot.is in
          subst (λ o. MatchOption o ((f : Face) → ¬ IsOverFace slots ps s f) (IsOverFace slots ps s)) (sym (row r corners))
          (λ f o. none_infinite t r o.four o.place o.ghost.within corners (same_corners slots s (corner_list t) _ is o.ghost.is))
      by (inr (r, k, slot)) =
          subst (λ o. MatchOption o ((f : Face) → ¬ IsOverFace slots ps s f) (IsOverFace slots ps s)) (sym (ghost r k slot.within (same_corners slots s (corner_list t) _ is slot.is)))
          (record { four = r; place = k; ghost = slot; is = refl })

  -- ---- the faces under the ghosts of the first slots

  pub faces_none : AreFacesBelow slots ps [] 0
  faces_none = record { from = λ f c. absurd (omega (arith, c.1)); to = λ s f h. absurd (omega (arith, h)) }

  -- the next slot is over no face
  pub faces_pass : (faces : List Face) (n : ℕ) → ((f : Face) → ¬ IsOverFace slots ps n f) → AreFacesBelow slots ps faces n → AreFacesBelow slots ps faces (n + 1)
  faces_pass faces n none before = record { from = before.from; to = λ s f h o. by s f o (cases_lt s n) h }
    where
      by : (s : ℕ) (f : Face) → IsOverFace slots ps s f → (s < n) ⊎ (n ≤ s) → s < n + 1 → Contains faces f
      by s f o (inl l) h = before.to s f l o
      by s f o (inr l) h = let here : s ≡ n = omega (arith, h, l) in absurd (none f (subst (λ u. IsOverFace slots ps u f) here o))

  -- it is over one
  pub faces_more : (faces : List Face) (n : ℕ) (face : Face) → IsOverFace slots ps n face → AreFacesBelow slots ps faces n → AreFacesBelow slots ps (faces ++ face ∷ []) (n + 1)
  faces_more faces n face at before = record { from = λ f h. from f (Contains-push_cases faces face f h); to = λ s f h o. by s f o (cases_lt s n) h }
    where
      from : (f : Face) → Contains faces f ⊎ (face ≡ f) → (s : ℕ) × IsOverFace slots ps s f
      from f (inl c) = before.from f c
      from f (inr e) = (n, subst (IsOverFace slots ps n) e at)

      by : (s : ℕ) (f : Face) → IsOverFace slots ps s f → (s < n) ⊎ (n ≤ s) → s < n + 1 → Contains (faces ++ face ∷ []) f
      by s f o (inl l) h = Contains-append_left faces (face ∷ []) f (before.to s f l o)
      by s f o (inr l) h =
          let here : s ≡ n = omega (arith, h, l) in
          subst (Contains (faces ++ face ∷ [])) (one_face n face f at (subst (λ u. IsOverFace slots ps u f) here o)) (Contains-push faces face)

  -- ---- the hull of the list

  module _ (mesh : IsArenaMesh slots) (now : IsDelaunayMesh slots ps (all_numbers ps)) (rows : List Row) (list : IsDelaunayList ps rows) where
    abbrev ms : List ℕ
    ms = all_numbers ps

    -- a row on the positive side of a face has it
    has_of : (f : Oriented) (t : Row) → AreApart f → IsDelaunayAmong ps ms t → IsFaceOf ps f t → Contains (row_faces t) (ascending f)
    has_of f t apart d face =
        let p = place_of_face ps t t f d.is_positive (itself t) face in
        subst (Contains (row_faces t)) (sym (same_ascending f (face_off t p.0) apart (apart_off ps t p.0 p.1 d.is_positive) p.2)) (in_row_faces t p.0 p.1)

    has_reversed : (f : Oriented) (t : Row) → AreApart f → IsDelaunayAmong ps ms t → IsFaceOf ps (reversed f) t → Contains (row_faces t) (ascending f)
    has_reversed f t apart d face = subst (Contains (row_faces t)) (turned_ascending f) (has_of (reversed f) t (turned_apart f apart) d face)

    -- the row behind a ghost alone has its face
    of_ghost : (s : ℕ) (f : Face) → IsOverFace slots ps s f → IsOfOneRow rows f
    of_ghost s f o = record {
      row = hull.behind;
      is_row = (list.exactly hull.behind).1 hull.is_row;
      has = subst (Contains (row_faces hull.behind)) (sym o.is) (has_reversed g hull.behind apart hull.is_row hull.is_face);
      only = only;
    }
      where
        g : Oriented
        g = face_off o.four o.place

        hull : IsHullFace ps ms g
        hull = o.ghost.is_hull

        apart : AreApart g
        apart = hull_apart ps ms g hull

        only : (t : Row) → Contains rows t → Contains (row_faces t) f → t ≡ hull.behind
        only t c h =
            let d = (list.exactly t).0 c in
            let q = of_row_faces t f h in
            elim (row_beside ps t t q.0 g q.1 apart d.is_positive (itself t) (same_corners_of g (face_off t q.0) (sym o.is ∙ q.2))) [
              | inl before ↦ absurd ((law_hull_face ps ms now.within g hull.behind hull.is_row hull.is_face).0 hull t d before)
              | inr after ↦ law_one_row ps ms now.within (reversed g) t hull.behind d after hull.is_row hull.is_face
            ]

    -- a face of one row alone has a ghost over it
    to_ghost : (f : Face) → IsOfOneRow rows f → (s : ℕ) × IsOverFace slots ps s f
    to_ghost f o = by (behind_row slots ps ms mesh now slot.0 j slot.1 over.0 slot.2 over.1)
      where
        r : Row
        r = o.row

        d : IsDelaunayAmong ps ms r
        d = (list.exactly r).0 o.is_row

        slot : (s : ℕ) × (t : Row) × (slot : IsRowSlot slots ps ms s t) × (slot.row ≡ r)
        slot = now.rows r d

        t : Row
        t = slot.1

        same : HasSameCorners t r
        same = subst (HasSameCorners t) slot.3 slot.2.same_corners

        q : (k : ℕ) × (k < 4) × (f ≡ ascending (face_off r k))
        q = of_row_faces r f o.has

        p : (k : ℕ) × (k < 4) × HasSameFaceCorners (face_off r q.0) (face_off t k)
        p = place_of_face ps t r (face_off r q.0) slot.2.is_positive same (row_off ps r r q.0 q.1 d.is_positive (itself r))

        j : ℕ
        j = p.0

        g : Oriented
        g = face_off t j

        apart : AreApart g
        apart = apart_off ps t j p.1 slot.2.is_positive

        is : f ≡ ascending g
        is = q.2 ∙ same_ascending (face_off r q.0) g (apart_off ps r q.0 q.1 d.is_positive) apart p.2

        live : IsLive slots slot.0
        live = rw slot.2.is refl

        over : (b : SlotFace) × (link_behind slots slot.0 j ≡ Some b)
        over = some_side (link_behind slots slot.0 j) (now.linked slot.0 j live p.1)

        by : ((u : Row) × (other : IsRowSlot slots ps ms over.0.slot u) × IsFaceOf ps (reversed g) other.row) ⊎ ((u : Row) × IsGhostSlot slots ps ms over.0.slot u over.0.face × HasSameFaceCorners g (face_off u over.0.face)) → (s : ℕ) × IsOverFace slots ps s f
        by (inr (u, ghost, corners)) = (over.0.slot, record { four = u; place = over.0.face; ghost = ghost; is = is ∙ same_ascending g (face_off u over.0.face) apart (hull_apart ps ms _ ghost.is_hull) corners })
        by (inl (u, other, face)) =
            let has = subst (Contains (row_faces other.row)) (sym is) (has_reversed g other.row apart other.is_row face) in
            let one : other.row ≡ r = o.only other.row ((list.exactly other.row).1 other.is_row) has in
            let both : HasSameCorners u r = subst (HasSameCorners u) one other.same_corners in
            absurd (mesh.apart slot.0 j over.0 over.1 (sym (now.one_row slot.0 over.0.slot t u slot.2 other (λ i. (λ c. (both i).1 ((same i).0 c), λ c. (same i).1 ((both i).0 c))))))

    pub hull_faces : (faces hull : List Face) → AreFacesBelow slots ps faces (length slots) → ((f : Face) → Contains hull f ↔ Contains faces f) → AllPairs FaceBefore hull → AreHullFacesOf rows hull
    hull_faces faces hull are kept up = record { exactly = λ f. (λ c. to f (are.from f ((kept f).0 c)), λ o. (kept f).1 (from f (to_ghost f o))); ascending = up }
      where
        to : (f : Face) → (s : ℕ) × IsOverFace slots ps s f → IsOfOneRow rows f
        to f (s, o) = of_ghost s f o

        from : (f : Face) → (s : ℕ) × IsOverFace slots ps s f → Contains faces f
        from f (s, o) = are.to s f (slot_within slots s _ o.ghost.is) o
