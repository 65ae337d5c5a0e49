-- After surgery each live slot is one that stays or one of the star: together they are the lowest mesh with the new point.
use Rattle.std.proofs.Common.{◌≡◌, ◌≢◌, ◌⊎◌, inl, inr, ℕ, ◌<◌, pos, ◌<ℤ◌, List, ◌∷◌, get_or, length, set, Option, Some, IsSome, refl, sym, ap, subst, ◌∙◌, arith, ℤ}
use Rattle.std.proofs.lemmas.Bool.{cases_eq}
use Rattle.std.proofs.lemmas.List.{get_or-set_same, get_or-set_other}
use Rattle.std.specs.Prelude.{Contains}
use Rattle.sign_predicates.specs.Point.{Point}
use Rattle.geo_laws.specs.Delaunay.{numbers, AreNumbersOf}
use Rattle.geo_laws.specs.Height.{IsLowestAmong}
use Rattle.geo_laws.specs.declared.tetrahedra.Tet.{Tet as Row}
use Rattle.sign_predicates.proofs.Places.{A, B, C, D}
use Rattle.geo_laws.proofs.Places.{with_number}
use Rattle.geo_laws.proofs.Corners.{IsCorner, corner_of, contains_corner, distinct}
use Rattle.geo_laws.specs.OrientedFace.{Face, reversed, beside}
use Rattle.insert_laws.specs.LowestInsertion.{HasSameCorners, HasAbove, LowestSees, IsNew, IsLowestHullFace, IsLowestStarRow, edge_and}
use Rattle.insert_laws.proofs.FacePencil.{side_of}
use Rattle.insert_laws.proofs.Beyond.{turn}
use Rattle.insert_laws.proofs.LowestBridge.{of_cons, of_new}
use Rattle.insert_laws.proofs.LowestInsert.{law_insertion}
use Rattle.insert_laws.proofs.Sides.{above_or_not}
use Rattle.insert_laws.proofs.HullLaws.{law_new_hull, law_old_hull}
use Rattle.insert_laws.proofs.LowestStart.{law_hull_turn}
use Rattle.mesh_arena.specs.Mesh.{SlotValue, corners_at, corner_in, IsLive, link_behind, at, IsArenaMesh, Off}
use Rattle.mesh_arena.specs.Star.{rim_at, behind_rim}
use Rattle.mesh_arena.specs.Cavity.{IsInCavitySlots}
use Rattle.mesh_arena.specs.Replace.{Replaces}
use Rattle.mesh_arena.specs.declared.arena.SlotFace.{SlotFace}
use Rattle.mesh_arena.specs.declared.slot.Corner.TheVariants.{Point as Numbered, Ghost}
use Rattle.mesh_arena.specs.declared.slot.Slot.{Slot}
use Rattle.mesh_arena.specs.declared.slot.RimFace.{RimFace}
use Rattle.mesh_arena.proofs.Mesh.{same_or_off}
use Rattle.mesh_arena.proofs.AddStar.{live_by_side}
use Rattle.mesh_arena.proofs.Replace.{in_or_not}
use Rattle.point_locate.specs.Place.{row_corners}
use Rattle.mesh_laws.specs.LowestRule.{IsLowestTaken}
use Rattle.mesh_laws.specs.Reach.{Grown}
use Rattle.mesh_laws.specs.LowestLiving.{face_off, IsFaceCorner, HasSameFaceCorners, IsLowestRowSlot, IsLowestGhostSlot, IsLowestMesh}
use Rattle.mesh_laws.specs.LowestReplaced.{LowestReplacedLaw}
use Rattle.mesh_laws.proofs.LowestTaken.{no_ghost, same_corners, one_ghost}
use Rattle.mesh_laws.proofs.LowestRows.{same_row, taken_row}
use Rattle.mesh_laws.proofs.Seen.{taken_sees}
use Rattle.mesh_laws.proofs.LowestAcross.{Shows, shows, row_corner, some_side}
use Rattle.mesh_laws.proofs.LowestFaces.{place_of, same_trans}
use Rattle.mesh_laws.proofs.LowestJoined.{beside_face, same_back, same_then}
use Rattle.mesh_laws.proofs.NextHull.{turned_corners, turned_twice}
use Rattle.mesh_laws.proofs.LowestCutOut.{hull_corner}
use Rattle.mesh_laws.proofs.Reached.{sees_same}
use Rattle.mesh_laws.proofs.OverFace.{reversed_same}
use Rattle.mesh_laws.proofs.RimNames.{IsTriangle, triangle_shows, shows_edge, triangle_at}
use Rattle.mesh_laws.proofs.StarRows.{beside_with}
use Rattle.mesh_laws.proofs.StarRows as rows
use Rattle.mesh_laws.proofs.StarGhosts as edges

-- two faces that make the same four with p over them have the same corners
same_under : (ps : List Point) (f g : Face) (p : ℕ) → pos 0 <ℤ side_of ps f p → pos 0 <ℤ side_of ps g p → HasSameCorners (beside f p) (beside g p) → HasSameFaceCorners f g
same_under ps f g p over_f over_g same i = (go f g over_f (same i).0, go g f over_g (same i).1)
  where
    put : (e : Face) → IsFaceCorner e i → Contains (numbers (beside e p)) i
    put e (inl z) = contains_corner (beside e p) i (A, z)
    put e (inr (inl z)) = contains_corner (beside e p) i (B, z)
    put e (inr (inr z)) = contains_corner (beside e p) i (C, z)

    not_p : (e : Face) → pos 0 <ℤ side_of ps e p → IsFaceCorner e i → i ≡ p → ⊥
    not_p e over (inl z) w = distinct ps (beside e p) over D A tt (sym w ∙ z)
    not_p e over (inr (inl z)) w = distinct ps (beside e p) over D B tt (sym w ∙ z)
    not_p e over (inr (inr z)) w = distinct ps (beside e p) over D C tt (sym w ∙ z)

    split : (e : Face) → IsCorner (beside e p) i → (i ≡ p) ⊎ IsFaceCorner e i
    split e (A, z) = inr (inl z)
    split e (B, z) = inr (inr (inl z))
    split e (C, z) = inr (inr (inr z))
    split e (D, z) = inl z

    go : (e d : Face) → pos 0 <ℤ side_of ps e p → (Contains (numbers (beside e p)) i → Contains (numbers (beside d p)) i) → IsFaceCorner e i → IsFaceCorner d i
    go e d over to on = elim (split d (corner_of (beside d p) i (to (put e on)))) [ inl w ↦ absurd (not_p e over on w) | inr z ↦ z ]

-- a slot with the corners of two ghosts has the same hull face
same_hull : (slots : List (Option SlotValue)) (u k l : ℕ) (t r : Row) → IsArenaMesh slots → k < 4 → l < 4 → corners_at slots u ≡ Some (set (row_corners t) k Ghost) → corners_at slots u ≡ Some (set (row_corners r) l Ghost) → HasSameFaceCorners (face_off t k) (face_off r l)
same_hull slots u k l t r mesh k4 l4 is_t is_r i = (λ c. two.to i (one.from i c), λ c. one.to i (two.from i c))
  where
    infinite : (v : Row) (m : ℕ) → m < 4 → get_or (set (row_corners v) m Ghost) m Ghost ≡ Ghost
    infinite v m m4 = get_or-set_same (row_corners v) m Ghost Ghost (omega arith)

    one_place : k ≡ l
    one_place = one_ghost slots u (set (row_corners t) k Ghost) k l mesh is_t k4 l4 (infinite t k k4) (ap (λ cs. get_or cs l Ghost) (same_corners slots u _ _ is_t is_r) ∙ infinite r l l4)

    shown : (v : Row) (m : ℕ) → m < 4 → corners_at slots u ≡ Some (set (row_corners v) m Ghost) → Shows slots u m (face_off v m)
    shown v m m4 is = shows slots u m v m4 (λ n n4 off. ap (λ o. corner_in o n) is ∙ get_or-set_other (row_corners v) m n Ghost Ghost off ∙ row_corner v n n4)

    one : Shows slots u l (face_off t k)
    one = subst (λ m. Shows slots u m (face_off t k)) one_place (shown t k k4 is_t)

    two : Shows slots u l (face_off r l)
    two = shown r l l4 is_r

-- a slot is no row and ghost at once
row_or_ghost : (slots : List (Option SlotValue)) (u k : ℕ) (t r : Row) → k < 4 → corners_at slots u ≡ Some (row_corners t) → corners_at slots u ≡ Some (set (row_corners r) k Ghost) → ⊥
row_or_ghost slots u k t r k4 is_t is_r = no_ghost t k k4 (ap (λ cs. get_or cs k Ghost) (same_corners slots u _ _ is_t is_r) ∙ get_or-set_same (row_corners r) k Ghost Ghost (omega arith))

module _ (lifts : ℕ → ℤ) (old new : List (Option SlotValue)) (ps : List Point) (ms : List ℕ) (p start : ℕ) (cavity : List Slot) (rim : List RimFace) (s : ℕ) (mesh : IsArenaMesh old) (mesh_new : IsArenaMesh new) (now : IsLowestMesh lifts old ps ms) (fresh : IsNew ps ms p) (some : Row) (some_is : IsLowestAmong ps ms lifts some) (grown : Grown old (IsLowestTaken lifts old ps p) start cavity rim) (whole : (u : ℕ) → IsLowestTaken lifts old ps p u → IsInCavitySlots cavity u) (star : Replaces old new cavity rim (Numbered p) s) where
  within : AreNumbersOf ps (p ∷ ms)
  within = (of_new ps ms p fresh).within

  abbrev made : ℕ → ℕ
  made r = (behind_rim new rim r).slot

  abbrev RowOver : ℕ → Type 0
  RowOver r = rows.IsRowOver lifts old new ps ms p start cavity rim s mesh now fresh grown whole star r

  abbrev EdgeOver : ℕ → Type 0
  EdgeOver r = edges.IsEdgeOver lifts old new ps ms p start cavity rim s mesh now fresh grown whole star within some some_is r

  in_taken : (u : ℕ) → IsInCavitySlots cavity u → IsLowestTaken lifts old ps p u
  in_taken = rows.in_taken lifts old new ps ms p start cavity rim s mesh now fresh grown whole star

  out_free : (u : ℕ) → (IsInCavitySlots cavity u → ⊥) → IsLowestTaken lifts old ps p u → ⊥
  out_free = rows.out_free lifts old new ps ms p start cavity rim s mesh now fresh grown whole star

  -- ---- the slots of the star

  -- over a face of the rim stands a row or a ghost
  over_rim : (r : ℕ) → r < length rim → RowOver r ⊎ EdgeOver r
  over_rim r h = by (now.each b.slot (live_by_side old b.slot b.face (at (rim_at rim r).slot.index (rim_at rim r).face) behind.back))
    where
      b : SlotFace
      b = (rows.rim_behind lifts old new ps ms p start cavity rim s mesh now fresh grown whole star r h).0

      behind : rows.IsBehind lifts old new ps ms p start cavity rim s mesh now fresh grown whole star r b
      behind = (rows.rim_behind lifts old new ps ms p start cavity rim s mesh now fresh grown whole star r h).1

      by : ((t : Row) × IsLowestRowSlot lifts old ps ms b.slot t) ⊎ ((t : Row) × (k : ℕ) × IsLowestGhostSlot lifts old ps ms b.slot t k) → RowOver r ⊎ EdgeOver r
      by (inl row) = inl (record { inner = b; is_behind = behind; row = row.0; slot = inl row.1 })
      by (inr ghost) = elim (cases_eq b.face ghost.1) [
        | inl same ↦ inl (record { inner = b; is_behind = behind; row = ghost.0; slot = inr (subst (IsLowestGhostSlot lifts old ps ms b.slot ghost.0) (sym same) ghost.2) })
        | inr off ↦ inr (record { inner = b; is_behind = behind; row = ghost.0; place = ghost.1; slot = ghost.2; off = off })
      ]

  -- the corners of the slot over a face of the rim
  abbrev star_row : (r : ℕ) → RowOver r → Row
  star_row r x = with_number x.row (place_of x.inner.face) p

  abbrev star_ghost : (r : ℕ) → EdgeOver r → Row
  star_ghost r x = with_number x.row (place_of x.inner.face) p

  row_corners_of : (r : ℕ) (x : RowOver r) → corners_at new (made r) ≡ Some (row_corners (star_row r x))
  row_corners_of r x = rows.star_corners lifts old new ps ms p start cavity rim s mesh now fresh grown whole star r x

  ghost_slot : (r : ℕ) (x : EdgeOver r) → IsLowestGhostSlot lifts new ps (p ∷ ms) (made r) (star_ghost r x) x.place
  ghost_slot r x = edges.ghost_slot lifts old new ps ms p start cavity rim s mesh now fresh grown whole star within some some_is r x

  -- p is a corner of each row of the star
  row_has : (r : ℕ) (x : RowOver r) → Contains (numbers (star_row r x)) p
  row_has r x = let f = rows.rim_face lifts old new ps ms p start cavity rim s mesh now fresh grown whole star r x in (beside_with x.row x.inner.face p x.is_behind.within p).0 (contains_corner (beside f p) p (D, refl))

  -- and of the hull face of each ghost
  ghost_has : (r : ℕ) (x : EdgeOver r) → IsFaceCorner (face_off (star_ghost r x) x.place) p
  ghost_has r x = (edges.new_same lifts old new ps ms p start cavity rim s mesh now fresh grown whole star within some some_is r x p).1 (inr (inr refl))

  -- ---- the slots that stay

  stay : (u : ℕ) → IsLive old u → (IsInCavitySlots cavity u → ⊥) → corners_at new u ≡ corners_at old u
  stay = star.kept

  -- the slot of an old row that has p above stays
  abbrev kept_row : (u : ℕ) (t : Row) (slot : IsLowestRowSlot lifts old ps ms u t) → IsLowestAmong ps (p ∷ ms) lifts slot.row → (IsInCavitySlots cavity u → ⊥) → IsLowestRowSlot lifts new ps (p ∷ ms) u t
  kept_row u t slot is_row out = record { is = stay u (rw slot.is refl) out ∙ slot.is; row = slot.row; is_row = is_row; same_corners = slot.same_corners; is_positive = slot.is_positive }

  -- a row that isn't taken has p above
  free_row : (u : ℕ) (t : Row) (slot : IsLowestRowSlot lifts old ps ms u t) → (IsLowestTaken lifts old ps p u → ⊥) → HasAbove lifts ps slot.row p
  free_row u t slot free = elim (above_or_not lifts ps slot.row p) [
    | inl above ↦ above
    | inr not ↦ absurd (free ((taken_row lifts old ps ms p fresh u t slot).1 not))
  ]

  still_row : (u : ℕ) (t : Row) (slot : IsLowestRowSlot lifts old ps ms u t) → (IsInCavitySlots cavity u → ⊥) → IsLowestAmong ps (p ∷ ms) lifts slot.row
  still_row u t slot out = (law_insertion lifts ps ms p fresh some some_is slot.row).1 (inl (slot.is_row, free_row u t slot (out_free u out)))

  -- and that of an old hull face that p doesn't see
  kept_ghost : (u k : ℕ) (t : Row) → IsLowestGhostSlot lifts old ps ms u t k → (IsInCavitySlots cavity u → ⊥) → IsLowestGhostSlot lifts new ps (p ∷ ms) u t k
  kept_ghost u k t slot out =
      let f = face_off t k in
      record {
        within = slot.within;
        is = stay u (rw slot.is refl) out ∙ slot.is;
        is_hull = (law_old_hull lifts ps ms p fresh some some_is f (hull_corner lifts ps ms f f.a slot.is_hull (inl refl)) (hull_corner lifts ps ms f f.b slot.is_hull (inr (inl refl))) (hull_corner lifts ps ms f f.c slot.is_hull (inr (inr refl)))).1
            (slot.is_hull, λ sees. out_free u out ((taken_sees lifts old ps ms p fresh mesh now u k t slot).1 sees));
      }

  -- a row in a slot that stays was there before
  was_row : (u : ℕ) (t : Row) → IsLive old u → (IsInCavitySlots cavity u → ⊥) → IsLowestRowSlot lifts new ps (p ∷ ms) u t → IsLowestRowSlot lifts old ps ms u t
  was_row u t live out slot = by (now.each u live)
    where
      is : corners_at old u ≡ Some (row_corners t)
      is = sym (stay u live out) ∙ slot.is

      by : ((r : Row) × IsLowestRowSlot lifts old ps ms u r) ⊎ ((r : Row) × (k : ℕ) × IsLowestGhostSlot lifts old ps ms u r k) → IsLowestRowSlot lifts old ps ms u t
      by (inl row) = subst (IsLowestRowSlot lifts old ps ms u) (same_row row.0 t (same_corners old u _ _ row.1.is is)) row.1
      by (inr ghost) = absurd (row_or_ghost old u ghost.1 t ghost.0 ghost.2.within is ghost.2.is)

  -- and so was a ghost, up to the order of its corners
  was_ghost : (u k : ℕ) (t : Row) → IsLive old u → (IsInCavitySlots cavity u → ⊥) → IsLowestGhostSlot lifts new ps (p ∷ ms) u t k → (r : Row) × (l : ℕ) × IsLowestGhostSlot lifts old ps ms u r l × HasSameFaceCorners (face_off t k) (face_off r l)
  was_ghost u k t live out slot = by (now.each u live)
    where
      is : corners_at old u ≡ Some (set (row_corners t) k Ghost)
      is = sym (stay u live out) ∙ slot.is

      by : ((r : Row) × IsLowestRowSlot lifts old ps ms u r) ⊎ ((r : Row) × (l : ℕ) × IsLowestGhostSlot lifts old ps ms u r l) → (r : Row) × (l : ℕ) × IsLowestGhostSlot lifts old ps ms u r l × HasSameFaceCorners (face_off t k) (face_off r l)
      by (inl row) = absurd (row_or_ghost old u k row.0 t slot.within row.1.is is)
      by (inr ghost) = (ghost.0, ghost.1, ghost.2, same_hull old u k ghost.1 t ghost.0 mesh slot.within ghost.2.within is ghost.2.is)

  -- p is a corner of no old row or hull face
  no_row : (u : ℕ) (t : Row) → IsLowestRowSlot lifts old ps ms u t → Contains (numbers t) p → ⊥
  no_row u t slot c = fresh.is_new (slot.is_row.is_on p ((slot.same_corners p).0 c))

  no_ghost_face : (u k : ℕ) (t : Row) → IsLowestGhostSlot lifts old ps ms u t k → IsFaceCorner (face_off t k) p → ⊥
  no_ghost_face u k t slot c = fresh.is_new (hull_corner lifts ps ms (face_off t k) p slot.is_hull c)

  -- ---- each slot is that of a row or a hull face

  each : (u : ℕ) → IsLive new u → ((t : Row) × IsLowestRowSlot lifts new ps (p ∷ ms) u t) ⊎ ((t : Row) × (k : ℕ) × IsLowestGhostSlot lifts new ps (p ∷ ms) u t k)
  each u live = by (star.live u live)
    where
      by : (IsLive old u × (IsInCavitySlots cavity u → ⊥)) ⊎ ((r : ℕ) × (r < length rim) × (made r ≡ u)) → ((t : Row) × IsLowestRowSlot lifts new ps (p ∷ ms) u t) ⊎ ((t : Row) × (k : ℕ) × IsLowestGhostSlot lifts new ps (p ∷ ms) u t k)
      by (inl kept) = elim (now.each u kept.0) [
        | inl row ↦ inl (row.0, kept_row u row.0 row.1 (still_row u row.0 row.1 kept.1) kept.1)
        | inr ghost ↦ inr (ghost.0, ghost.1, kept_ghost u ghost.1 ghost.0 ghost.2 kept.1)
      ]
      by (inr made_at) = elim (over_rim made_at.0 made_at.1) [
        | inl x ↦ inl (star_row made_at.0 x, subst (λ v. IsLowestRowSlot lifts new ps (p ∷ ms) v (star_row made_at.0 x)) made_at.2 (rows.some_row lifts old new ps ms p start cavity rim s mesh now fresh grown whole star made_at.0 x some some_is))
        | inr x ↦ inr (star_ghost made_at.0 x, x.place, subst (λ v. IsLowestGhostSlot lifts new ps (p ∷ ms) v (star_ghost made_at.0 x) x.place) made_at.2 (ghost_slot made_at.0 x))
      ]

  -- ---- each row has a slot

  old_row : (r : Row) → IsLowestAmong ps (p ∷ ms) lifts r → IsLowestAmong ps ms lifts r → HasAbove lifts ps r p → (u : ℕ) × (t : Row) × (slot : IsLowestRowSlot lifts new ps (p ∷ ms) u t) × (slot.row ≡ r)
  old_row r is was outside = (v.0, v.1, kept_row v.0 v.1 v.2 (subst (IsLowestAmong ps (p ∷ ms) lifts) (sym v.3) is) out, v.3)
    where
      v : (u : ℕ) × (t : Row) × (slot : IsLowestRowSlot lifts old ps ms u t) × (slot.row ≡ r)
      v = now.rows r was

      out : IsInCavitySlots cavity v.0 → ⊥
      out found = (taken_row lifts old ps ms p fresh v.0 v.1 v.2).0 (in_taken v.0 found) (subst (λ (x : Row). HasAbove lifts ps x p) (sym v.3) outside)

  new_row : (r : Row) → IsLowestAmong ps (p ∷ ms) lifts r → IsLowestStarRow lifts ps ms p r → (u : ℕ) × (t : Row) × (slot : IsLowestRowSlot lifts new ps (p ∷ ms) u t) × (slot.row ≡ r)
  new_row r is made_of = by (over_rim q.0 q.1)
    where
      f : Face
      f = made_of.face

      q : (m : ℕ) × (m < length rim) × IsTriangle lifts old ps ms rim m made_of.face
      q = triangle_at lifts old ps ms mesh now rim p start cavity fresh grown (rows.whole_from lifts old new ps ms p start cavity rim s mesh now fresh grown whole star) made_of.face (record { cavity = made_of.cavity; clear = made_of.clear })

      shown : Shows old (rim_at rim q.0).slot.index (rim_at rim q.0).face (reversed made_of.face)
      shown = triangle_shows lifts old ps ms mesh now rim q.0 made_of.face q.2

      by : RowOver q.0 ⊎ EdgeOver q.0 → (u : ℕ) × (t : Row) × (slot : IsLowestRowSlot lifts new ps (p ∷ ms) u t) × (slot.row ≡ r)
      by (inl x) =
          let g = rows.rim_face lifts old new ps ms p start cavity rim s mesh now fresh grown whole star q.0 x in
          let own = triangle_shows lifts old ps ms mesh now rim q.0 g (rows.is_triangle lifts old new ps ms p start cavity rim s mesh now fresh grown whole star q.0 x) in
          let turned : HasSameFaceCorners (reversed g) (reversed f) = λ i. (λ c. shown.to i (own.from i c), λ c. own.to i (shown.from i c)) in
          let corners_of : HasSameCorners (beside g p) r = same_trans (beside g p) (beside f p) r (beside_face g f p (reversed_same (reversed g) (reversed f) turned)) made_of.same_corners in
          (made q.0, star_row q.0 x, rows.row_slot lifts old new ps ms p start cavity rim s mesh now fresh grown whole star q.0 x r is corners_of, refl)
      by (inr x) =
          let e = edges.edge lifts old new ps ms p start cavity rim s mesh now fresh grown whole star within some some_is q.0 x in
          absurd (shown.finite (shows_edge lifts old ps ms mesh now rim q.0 e.j e.i (edges.is_edge lifts old new ps ms p start cavity rim s mesh now fresh grown whole star within some some_is q.0 x)).infinite)

  all_rows : (r : Row) → IsLowestAmong ps (p ∷ ms) lifts r → (u : ℕ) × (t : Row) × (slot : IsLowestRowSlot lifts new ps (p ∷ ms) u t) × (slot.row ≡ r)
  all_rows r is = elim ((law_insertion lifts ps ms p fresh some some_is r).0 is) [ inl was ↦ old_row r is was.0 was.1 | inr made_of ↦ new_row r is made_of ]

  -- ---- each hull face has a slot

  abbrev HasGhost : Face → Type 0
  HasGhost f = (u : ℕ) × (t : Row) × (k : ℕ) × IsLowestGhostSlot lifts new ps (p ∷ ms) u t k × HasSameFaceCorners (face_off t k) f

  new_ghost : (f : Face) (i j : ℕ) → HasSameFaceCorners f (edge_and i j p) → IsLowestHullFace lifts ps (p ∷ ms) (edge_and i j p) → HasGhost f
  new_ghost f i j same hull =
      let x = edges.edge_over lifts old new ps ms p start cavity rim s mesh now fresh grown whole star within some some_is i j ((law_new_hull lifts ps ms p fresh some some_is i j).0 hull) in
      (made x.face, star_ghost x.face x.over, x.over.place, ghost_slot x.face x.over, same_then (face_off (star_ghost x.face x.over) x.over.place) (edge_and i j p) f x.same (same_back f (edge_and i j p) same))

  old_ghost : (f : Face) → IsLowestHullFace lifts ps (p ∷ ms) f → f.a ≢ p → f.b ≢ p → f.c ≢ p → HasGhost f
  old_ghost f hull na nb nc = (v.0, v.1, v.2, kept_ghost v.0 v.2 v.1 v.3 out, v.4)
    where
      in_old : (i : ℕ) → IsFaceCorner f i → i ≢ p → Contains ms i
      in_old i c n = elim (of_cons p ms i (hull_corner lifts ps (p ∷ ms) f i hull c)) [ inl e ↦ absurd (n e) | inr was ↦ was ]

      was : (h : IsLowestHullFace lifts ps ms f) × ¬ LowestSees lifts ps p f h.behind
      was = (law_old_hull lifts ps ms p fresh some some_is f (in_old f.a (inl refl) na) (in_old f.b (inr (inl refl)) nb) (in_old f.c (inr (inr refl)) nc)).0 hull

      v : (u : ℕ) × (t : Row) × (k : ℕ) × IsLowestGhostSlot lifts old ps ms u t k × HasSameFaceCorners (face_off t k) f
      v = now.ghosts f was.0

      out : IsInCavitySlots cavity v.0 → ⊥
      out found =
          let g = face_off v.1 v.2 in
          let sees = (taken_sees lifts old ps ms p fresh mesh now v.0 v.2 v.1 v.3).0 (in_taken v.0 found) in
          was.1 (sees_same lifts old ps ms mesh now p fresh g f v.4 v.3.is_hull was.0 sees)

  all_ghosts : (f : Face) → IsLowestHullFace lifts ps (p ∷ ms) f → HasGhost f
  all_ghosts f hull = elim (cases_eq f.a p) [
    | inl a ↦ new_ghost f f.b f.c (subst (λ m. HasSameFaceCorners f (edge_and f.b f.c m)) a (turned_corners f)) (subst (λ m. IsLowestHullFace lifts ps (p ∷ ms) (edge_and f.b f.c m)) a (turned f hull))
    | inr na ↦ elim (cases_eq f.b p) [
      | inl b ↦ new_ghost f f.c f.a (subst (λ m. HasSameFaceCorners f (edge_and f.c f.a m)) b (turned_twice f)) (subst (λ m. IsLowestHullFace lifts ps (p ∷ ms) (edge_and f.c f.a m)) b (turned (turn f) (turned f hull)))
      | inr nb ↦ elim (cases_eq f.c p) [
        | inl c ↦ new_ghost f f.a f.b (subst (λ m. HasSameFaceCorners f (edge_and f.a f.b m)) c (λ i. (λ z. z, λ z. z))) (subst (λ m. IsLowestHullFace lifts ps (p ∷ ms) (edge_and f.a f.b m)) c hull)
        | inr nc ↦ old_ghost f hull na nb nc
      ]
    ]
  ]
    where
      turned : (g : Face) → IsLowestHullFace lifts ps (p ∷ ms) g → IsLowestHullFace lifts ps (p ∷ ms) (turn g)
      turned g h = law_hull_turn lifts ps (p ∷ ms) within g.a g.b g.c h

  -- ---- and no other

  abbrev Kind : ℕ → Type 0
  Kind u = (IsLive old u × (IsInCavitySlots cavity u → ⊥)) ⊎ ((r : ℕ) × (r < length rim) × (made r ≡ u))

  -- a row of the star has p
  made_row : (r u : ℕ) (t : Row) → r < length rim → made r ≡ u → IsLowestRowSlot lifts new ps (p ∷ ms) u t → (x : RowOver r) × (t ≡ star_row r x)
  made_row r u t h e slot = by (over_rim r h)
    where
      is : corners_at new (made r) ≡ Some (row_corners t)
      is = ap (corners_at new) e ∙ slot.is

      by : RowOver r ⊎ EdgeOver r → (x : RowOver r) × (t ≡ star_row r x)
      by (inl x) = (x, same_row t (star_row r x) (same_corners new (made r) _ _ is (row_corners_of r x)))
      by (inr x) = absurd (row_or_ghost new (made r) x.place t (star_ghost r x) x.slot.within is (ghost_slot r x).is)

  made_ghost : (r u k : ℕ) (t : Row) → r < length rim → made r ≡ u → IsLowestGhostSlot lifts new ps (p ∷ ms) u t k → (x : EdgeOver r) × HasSameFaceCorners (face_off t k) (face_off (star_ghost r x) x.place)
  made_ghost r u k t h e slot = by (over_rim r h)
    where
      is : corners_at new (made r) ≡ Some (set (row_corners t) k Ghost)
      is = ap (corners_at new) e ∙ slot.is

      by : RowOver r ⊎ EdgeOver r → (x : EdgeOver r) × HasSameFaceCorners (face_off t k) (face_off (star_ghost r x) x.place)
      by (inl x) = absurd (row_or_ghost new (made r) k (star_row r x) t slot.within (row_corners_of r x) is)
      by (inr x) = (x, same_hull new (made r) k x.place t (star_ghost r x) mesh_new slot.within x.slot.within is (ghost_slot r x).is)

  made_has : (r u : ℕ) (t : Row) → r < length rim → made r ≡ u → IsLowestRowSlot lifts new ps (p ∷ ms) u t → Contains (numbers t) p
  made_has r u t h e slot = let x = made_row r u t h e slot in subst (λ (z : Row). Contains (numbers z) p) (sym x.1) (row_has r x.0)

  one_row : (u v : ℕ) (t r : Row) → IsLowestRowSlot lifts new ps (p ∷ ms) u t → IsLowestRowSlot lifts new ps (p ∷ ms) v r → HasSameCorners t r → u ≡ v
  one_row u v t r a b same = by (star.live u (rw a.is refl)) (star.live v (rw b.is refl))
    where
      by : Kind u → Kind v → u ≡ v
      by (inl x) (inl y) = now.one_row u v t r (was_row u t x.0 x.1 a) (was_row v r y.0 y.1 b) same
      by (inl x) (inr y) = absurd (no_row u t (was_row u t x.0 x.1 a) ((same p).1 (made_has y.0 v r y.1 y.2 b)))
      by (inr x) (inl y) = absurd (no_row v r (was_row v r y.0 y.1 b) ((same p).0 (made_has x.0 u t x.1 x.2 a)))
      by (inr x) (inr y) =
          let m = made_row x.0 u t x.1 x.2 a in
          let n = made_row y.0 v r y.1 y.2 b in
          let f = rows.rim_face lifts old new ps ms p start cavity rim s mesh now fresh grown whole star x.0 m.0 in
          let g = rows.rim_face lifts old new ps ms p start cavity rim s mesh now fresh grown whole star y.0 n.0 in
          let first : HasSameCorners (beside f p) t = subst (HasSameCorners (beside f p)) (sym m.1) (beside_with m.0.row m.0.inner.face p m.0.is_behind.within) in
          let last : HasSameCorners (beside g p) r = subst (HasSameCorners (beside g p)) (sym n.1) (beside_with n.0.row n.0.inner.face p n.0.is_behind.within) in
          let level : HasSameCorners (beside f p) (beside g p) = λ i. (λ c. (last i).1 ((same i).0 ((first i).0 c)), λ c. (first i).1 ((same i).1 ((last i).0 c))) in
          sym x.2 ∙ ap made (rows.row_once lifts old new ps ms p start cavity rim s mesh now fresh grown whole star x.0 y.0 m.0 n.0 (same_under ps f g p (rows.rim_positive lifts old new ps ms p start cavity rim s mesh now fresh grown whole star x.0 m.0) (rows.rim_positive lifts old new ps ms p start cavity rim s mesh now fresh grown whole star y.0 n.0) level)) ∙ y.2

  one_hull : (u v : ℕ) (t r : Row) (k l : ℕ) → IsLowestGhostSlot lifts new ps (p ∷ ms) u t k → IsLowestGhostSlot lifts new ps (p ∷ ms) v r l → HasSameFaceCorners (face_off t k) (face_off r l) → u ≡ v
  one_hull u v t r k l a b same = by (star.live u (rw a.is refl)) (star.live v (rw b.is refl))
    where
      by : Kind u → Kind v → u ≡ v
      by (inl x) (inl y) =
          let m = was_ghost u k t x.0 x.1 a in
          let n = was_ghost v l r y.0 y.1 b in
          now.one_ghost u v m.0 n.0 m.1 n.1 m.2 n.2 (same_then (face_off m.0 m.1) (face_off t k) (face_off n.0 n.1) (same_back (face_off t k) (face_off m.0 m.1) m.3) (same_then (face_off t k) (face_off r l) (face_off n.0 n.1) same n.3))
      by (inl x) (inr y) =
          let m = was_ghost u k t x.0 x.1 a in
          let n = made_ghost y.0 v l r y.1 y.2 b in
          absurd (no_ghost_face u m.1 m.0 m.2 ((m.3 p).0 ((same p).1 ((n.1 p).1 (ghost_has y.0 n.0)))))
      by (inr x) (inl y) =
          let m = made_ghost x.0 u k t x.1 x.2 a in
          let n = was_ghost v l r y.0 y.1 b in
          absurd (no_ghost_face v n.1 n.0 n.2 ((n.3 p).0 ((same p).0 ((m.1 p).1 (ghost_has x.0 m.0)))))
      by (inr x) (inr y) =
          let m = made_ghost x.0 u k t x.1 x.2 a in
          let n = made_ghost y.0 v l r y.1 y.2 b in
          let f = face_off (star_ghost x.0 m.0) m.0.place in
          let g = face_off (star_ghost y.0 n.0) n.0.place in
          sym x.2 ∙ ap made (edges.edge_over_once lifts old new ps ms p start cavity rim s mesh now fresh grown whole star within some some_is x.0 y.0 m.0 n.0 (same_then f (face_off t k) g (same_back (face_off t k) f m.1) (same_then (face_off t k) (face_off r l) g same n.1))) ∙ y.2

  -- ---- neighbors

  linked : (u k : ℕ) → IsLive new u → k < 4 → IsSome (link_behind new u k)
  linked u k live k4 = by (star.live u live)
    where
      kept : IsLive old u → (IsInCavitySlots cavity u → ⊥) → (b : SlotFace) → link_behind old u k ≡ Some b → IsInCavitySlots cavity b.slot ⊎ (IsInCavitySlots cavity b.slot → ⊥) → IsSome (link_behind new u k)
      kept was out b is (inl found) =
          let r = grown.rim_all u k b is out found in
          let there : link_behind new u k ≡ Some (at (made r.0) (behind_rim old rim r.0).face) = ap (λ n. link_behind new n k) (sym r.2) ∙ ap (link_behind new (rim_at rim r.0).slot.index) (sym r.3) ∙ (star.star r.0 r.1).is in
          rw there refl
      kept was out b is (inr clear) =
          let stays : link_behind new u k ≡ link_behind old u k = star.sides u k was out (λ r h. off r h) in
          rw (stays ∙ is) refl
        where
          off : (r : ℕ) → r < length rim → Off u k (rim_at rim r).slot.index (rim_at rim r).face
          off r h = elim (same_or_off u k (rim_at rim r).slot.index (rim_at rim r).face) [
            | inl same ↦
                let inner = grown.inner r h in
                absurd (clear (subst (IsInCavitySlots cavity) (same_slot inner.0 b (sym inner.1 ∙ ap (λ n. link_behind old n (rim_at rim r).face) (sym same.0) ∙ ap (link_behind old u) (sym same.1) ∙ is)) inner.2))
            | inr other ↦ other
          ]
            where
              same_slot : (d e : SlotFace) → Some d ≡ Some e → d.slot ≡ e.slot
              same_slot d e z = let one : d ≡ e = cc in ap (λ (x : SlotFace). x.slot) one

      by : Kind u → IsSome (link_behind new u k)
      by (inl x) =
          let b = some_side (link_behind old u k) (now.linked u k x.0 k4) in
          kept x.0 x.1 b.0 b.1 (in_or_not cavity b.0.slot)
      by (inr x) = subst (λ v. IsSome (link_behind new v k)) x.2 ((star.star x.0 x.1).linked k k4)

  pub replaced : IsLowestMesh lifts new ps (p ∷ ms)
  replaced = record { within = within; each = each; rows = all_rows; one_row = one_row; ghosts = all_ghosts; one_ghost = one_hull; linked = linked }

pub law_replaced : LowestReplacedLaw
law_replaced lifts old new ps ms p start cavity rim s mesh mesh_new now fresh some some_is grown whole star = replaced lifts old new ps ms p start cavity rim s mesh mesh_new now fresh some some_is grown whole star
