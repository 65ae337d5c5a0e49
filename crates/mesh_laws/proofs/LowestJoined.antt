-- A chain of places of the cavity is a chain of neighbors in the arena.
use Rattle.std.proofs.Common.{◌≡◌, ◌≢◌, ◌↔◌, ◌⊎◌, inl, inr, ℕ, zero, suc, ◌<◌, pos, neg_ℤ, ◌<ℤ◌, List, Option, Some, refl, sym, ap, subst, ◌∙◌, arith, ℤ}
use Rattle.std.specs.Prelude.{Contains}
use Rattle.sign_predicates.specs.Point.{Point}
use Rattle.sign_predicates.specs.Orientation.{IsPositive}
use Rattle.geo_laws.specs.Delaunay.{corners, numbers}
use Rattle.geo_laws.specs.Height.{IsLowestAmong}
use Rattle.geo_laws.specs.declared.tetrahedra.Tet.{Tet as Row}
use Rattle.sign_predicates.proofs.Places.{A, B, C, D, IsOther}
use Rattle.geo_laws.proofs.Places.{number}
use Rattle.geo_laws.proofs.Corners.{IsCorner, corner_of, contains_corner, distinct}
use Rattle.geo_laws.specs.OrientedFace.{Face, reversed, beside}
use Rattle.insert_laws.specs.LowestInsertion.{HasSameCorners, IsFaceOf, IsLowestHullFace}
use Rattle.insert_laws.proofs.FacePencil.{side_of, side_of-reversed}
use Rattle.insert_laws.proofs.LowestInsert.{law_one_row}
use Rattle.insert_laws.proofs.LowestLists.{law_hull_face}
use Rattle.mesh_arena.specs.Mesh.{SlotValue, link_behind, at, IsArenaMesh}
use Rattle.mesh_arena.specs.declared.arena.SlotFace.{SlotFace}
use Rattle.mesh_arena.proofs.Mesh.{side_live}
use Rattle.mesh_laws.specs.LowestLiving.{face_off, IsFaceCorner, HasSameFaceCorners, IsLowestRowSlot, IsLowestGhostSlot, IsLowestMesh}
use Rattle.mesh_laws.proofs.LowestFaces.{AreApart, faces_agree, hull_apart, place_of, corner_off, corner_split, row_beside, same_trans}
use Rattle.mesh_laws.proofs.LowestAcross.{Shows, row_shows, behind, behind_ghost, some_side}

pub place_other : (m k : ℕ) → m < 4 → k < 4 → m ≢ k → IsOther (place_of m) (place_of k)
place_other zero zero h g n = absurd (n refl)
place_other zero (suc zero) h g n = tt
place_other zero (suc (suc zero)) h g n = tt
place_other zero (suc (suc (suc zero))) h g n = tt
place_other zero (suc (suc (suc (suc k)))) h g n = absurd (omega arith)
place_other (suc zero) zero h g n = tt
place_other (suc zero) (suc zero) h g n = absurd (n refl)
place_other (suc zero) (suc (suc zero)) h g n = tt
place_other (suc zero) (suc (suc (suc zero))) h g n = tt
place_other (suc zero) (suc (suc (suc (suc k)))) h g n = absurd (omega arith)
place_other (suc (suc zero)) zero h g n = tt
place_other (suc (suc zero)) (suc zero) h g n = tt
place_other (suc (suc zero)) (suc (suc zero)) h g n = absurd (n refl)
place_other (suc (suc zero)) (suc (suc (suc zero))) h g n = tt
place_other (suc (suc zero)) (suc (suc (suc (suc k)))) h g n = absurd (omega arith)
place_other (suc (suc (suc zero))) zero h g n = tt
place_other (suc (suc (suc zero))) (suc zero) h g n = tt
place_other (suc (suc (suc zero))) (suc (suc zero)) h g n = tt
place_other (suc (suc (suc zero))) (suc (suc (suc zero))) h g n = absurd (n refl)
place_other (suc (suc (suc zero))) (suc (suc (suc (suc k)))) h g n = absurd (omega arith)
place_other (suc (suc (suc (suc m)))) k h g n = absurd (omega arith)

place_at : (t : Row) (i : ℕ) → IsCorner t i → (k : ℕ) × (k < 4) × (i ≡ number t (place_of k))
place_at t i (A, e) = (0, omega arith, e)
place_at t i (B, e) = (1, omega arith, e)
place_at t i (C, e) = (2, omega arith, e)
place_at t i (D, e) = (3, omega arith, e)

-- a face of a row is off one place of each four with its corners
pub place_of_face : (ps : List Point) (t r : Row) (f : Face) → IsPositive (corners ps t) → HasSameCorners t r → IsFaceOf ps f r → (k : ℕ) × (k < 4) × HasSameFaceCorners f (face_off t k)
place_of_face ps t r f p same face = (k, k4, λ i. (to i, from i))
  where
    o : ℕ
    o = face.opposite

    all : (i : ℕ) → Contains (numbers (beside f o)) i ↔ Contains (numbers t) i
    all i = (λ c. (same i).1 ((face.same_corners i).0 c), λ c. (face.same_corners i).1 ((same i).0 c))

    spot : (k : ℕ) × (k < 4) × (o ≡ number t (place_of k))
    spot = place_at t o (corner_of t o ((all o).0 (contains_corner (beside f o) o (D, refl))))

    k : ℕ
    k = spot.0

    k4 : k < 4
    k4 = spot.1

    not_o : (i : ℕ) → IsFaceCorner f i → i ≡ o → ⊥
    not_o i (inl e) z = distinct ps (beside f o) face.over D A tt (sym z ∙ e)
    not_o i (inr (inl e)) z = distinct ps (beside f o) face.over D B tt (sym z ∙ e)
    not_o i (inr (inr e)) z = distinct ps (beside f o) face.over D C tt (sym z ∙ e)

    of_f : (i : ℕ) → IsFaceCorner f i → Contains (numbers (beside f o)) i
    of_f i (inl e) = contains_corner (beside f o) i (A, e)
    of_f i (inr (inl e)) = contains_corner (beside f o) i (B, e)
    of_f i (inr (inr e)) = contains_corner (beside f o) i (C, e)

    to : (i : ℕ) → IsFaceCorner f i → IsFaceCorner (face_off t k) i
    to i c = elim (corner_split t k i k4 (corner_of t i ((all i).0 (of_f i c)))) [ inl e ↦ absurd (not_o i c (e ∙ sym spot.2)) | inr at ↦ at ]

    in_f : (i : ℕ) → IsCorner (beside f o) i → (i ≡ o → ⊥) → IsFaceCorner f i
    in_f i (A, e) n = inl e
    in_f i (B, e) n = inr (inl e)
    in_f i (C, e) n = inr (inr e)
    in_f i (D, e) n = absurd (n e)

    from : (i : ℕ) → IsFaceCorner (face_off t k) i → IsFaceCorner f i
    from i c =
        let m = corner_off t k i k4 c in
        in_f i (corner_of (beside f o) i ((all i).1 (contains_corner t i (place_of m.0, sym m.3)))) (λ z. distinct ps t p (place_of m.0) (place_of k) (place_other m.0 k m.1 k4 m.2) (m.3 ∙ z ∙ spot.2))

pub same_back : (f g : Face) → HasSameFaceCorners f g → HasSameFaceCorners g f
same_back f g h i = ((h i).1, (h i).0)

pub same_then : (f g h : Face) → HasSameFaceCorners f g → HasSameFaceCorners g h → HasSameFaceCorners f h
same_then f g h x y i = (λ c. (y i).0 ((x i).0 c), λ c. (x i).1 ((y i).1 c))

pub same_reversed : (f : Face) → HasSameFaceCorners (reversed f) f
same_reversed f i = (λ c. go c, λ c. back c)
  where
    go : IsFaceCorner (reversed f) i → IsFaceCorner f i
    go (inl e) = inl e
    go (inr (inl e)) = inr (inr e)
    go (inr (inr e)) = inr (inl e)

    back : IsFaceCorner f i → IsFaceCorner (reversed f) i
    back (inl e) = inl e
    back (inr (inl e)) = inr (inr e)
    back (inr (inr e)) = inr (inl e)

pub shows_with : (slots : List (Option SlotValue)) (s k : ℕ) (f g : Face) → HasSameFaceCorners f g → Shows slots s k g → Shows slots s k f
shows_with slots s k f g same was = record { to = λ i on. (same i).1 (was.to i on); from = λ i c. was.from i ((same i).0 c); finite = was.finite }

-- faces with the same corners make, with one point, fours with the same corners
pub beside_face : (f g : Face) (o : ℕ) → HasSameFaceCorners f g → HasSameCorners (beside f o) (beside g o)
beside_face f g o h i = (λ c. go (corner_of (beside f o) i c), λ c. back (corner_of (beside g o) i c))
  where
    put : (e : Face) → IsFaceCorner e i → Contains (numbers (beside e o)) i
    put e (inl z) = contains_corner (beside e o) i (A, z)
    put e (inr (inl z)) = contains_corner (beside e o) i (B, z)
    put e (inr (inr z)) = contains_corner (beside e o) i (C, z)

    go : IsCorner (beside f o) i → Contains (numbers (beside g o)) i
    go (A, z) = put g ((h i).0 (inl z))
    go (B, z) = put g ((h i).0 (inr (inl z)))
    go (C, z) = put g ((h i).0 (inr (inr z)))
    go (D, z) = contains_corner (beside g o) i (D, z)

    back : IsCorner (beside g o) i → Contains (numbers (beside f o)) i
    back (A, z) = put f ((h i).1 (inl z))
    back (B, z) = put f ((h i).1 (inr (inl z)))
    back (C, z) = put f ((h i).1 (inr (inr z)))
    back (D, z) = contains_corner (beside f o) i (D, z)

module _ (lifts : ℕ → ℤ) (ps : List Point) (ms : List ℕ) where
  -- the corner of a row off its face is one of the numbers
  pub opposite_in : (f : Face) (r : Row) → IsLowestAmong ps ms lifts r → (face : IsFaceOf ps f r) → Contains ms face.opposite
  opposite_in f r row face = row.is_on face.opposite ((face.same_corners face.opposite).0 (contains_corner (beside f face.opposite) face.opposite (D, refl)))

  -- a face between two rows is none of the hull
  pub no_hull : (f g : Face) (r q : Row) → HasSameFaceCorners f g → IsLowestHullFace lifts ps ms g → IsLowestAmong ps ms lifts r → IsFaceOf ps f r → IsLowestAmong ps ms lifts q → IsFaceOf ps (reversed f) q → ⊥
  no_hull f g r q same hull row before other after =
      elim (faces_agree ps g f (hull_apart lifts ps ms g hull) (same_back f g same)) [
        | inl agree ↦ hull.none_beyond before.opposite (opposite_in f r row before) (subst (λ z. pos 0 <ℤ z) (sym (agree before.opposite)) before.over)
        | inr agree ↦ hull.none_beyond after.opposite (opposite_in (reversed f) q other after) (subst (λ z. pos 0 <ℤ z) (side_of-reversed ps f after.opposite ∙ sym (agree after.opposite)) after.over)
      ]

  -- two hull faces with the same corners have the same sides, so a row is behind both or none
  pub hull_behind : (f g : Face) (r : Row) → HasSameFaceCorners f g → IsLowestHullFace lifts ps ms f → IsLowestHullFace lifts ps ms g → IsLowestAmong ps ms lifts r → IsFaceOf ps (reversed f) r → IsFaceOf ps (reversed g) r
  hull_behind f g r same hf hg row face =
      let o = face.opposite in
      let corners_of : HasSameFaceCorners (reversed g) (reversed f) = same_then (reversed g) g (reversed f) (same_reversed g) (same_then g f (reversed f) (same_back f g same) (same_back (reversed f) f (same_reversed f))) in
      elim (faces_agree ps g f (hull_apart lifts ps ms g hg) (same_back f g same)) [
        | inl agree ↦
            let over : side_of ps (reversed g) o ≡ side_of ps (reversed f) o = side_of-reversed ps g o ∙ ap neg_ℤ (agree o) ∙ sym (side_of-reversed ps f o) in
            record { opposite = o; same_corners = same_trans _ _ r (beside_face (reversed g) (reversed f) o corners_of) face.same_corners; over = subst (λ z. pos 0 <ℤ z) (sym over) face.over }
        | inr agree ↦ absurd (hg.none_beyond o (opposite_in (reversed f) r row face) (subst (λ z. pos 0 <ℤ z) (side_of-reversed ps f o ∙ sym (agree o)) face.over))
      ]

-- the slot v has the slot u as a neighbor
pub record IsNextTo (lifts : ℕ → ℤ) (slots : List (Option SlotValue)) (v u : ℕ) : Type 0 where
  pub face : ℕ
  pub over : SlotFace
  pub is : link_behind slots v face ≡ Some over
  pub there : over.slot ≡ u

module _ (lifts : ℕ → ℤ) (slots : List (Option SlotValue)) (ps : List Point) (ms : List ℕ) (mesh : IsArenaMesh slots) (now : IsLowestMesh lifts slots ps ms) where
  same_rows : (t r x y : Row) → HasSameCorners t x → HasSameCorners r y → x ≡ y → HasSameCorners t r
  same_rows t r x y h g e i = (λ c. (g i).1 (subst (λ (z : Row). Contains (numbers z) i) e ((h i).0 c)), λ c. (h i).1 (subst (λ (z : Row). Contains (numbers z) i) (sym e) ((g i).0 c)))

  -- one slot for each row
  pub one_slot : (s u : ℕ) (t r : Row) (x : IsLowestRowSlot lifts slots ps ms s t) (y : IsLowestRowSlot lifts slots ps ms u r) → x.row ≡ y.row → s ≡ u
  one_slot s u t r x y e = now.one_row s u t r x y (same_rows t r x.row y.row x.same_corners y.same_corners e)

  module _ (v : ℕ) (t : Row) (slot : IsLowestRowSlot lifts slots ps ms v t) (f : Face) (face : IsFaceOf ps f slot.row) where
    spot : (k : ℕ) × (k < 4) × HasSameFaceCorners f (face_off t k)
    spot = place_of_face ps t slot.row f slot.is_positive slot.same_corners face

    over : (b : SlotFace) × (link_behind slots v spot.0 ≡ Some b)
    over = some_side (link_behind slots v spot.0) (now.linked v spot.0 (rw slot.is refl) spot.1)

    apart_face : AreApart f
    apart_face = let d = distinct ps (beside f face.opposite) face.over in record { ab = d A B tt; ac = d A C tt; bc = d B C tt }

    b4 : over.0.face < 4
    b4 = (side_live slots over.0.slot over.0.face (at v spot.0) mesh.shaped (mesh.back v spot.0 over.0 over.1)).1

    found : ((q : Row) × IsLowestRowSlot lifts slots ps ms over.0.slot q × HasSameFaceCorners f (face_off q over.0.face)) ⊎ ((q : Row) × IsLowestGhostSlot lifts slots ps ms over.0.slot q over.0.face × HasSameFaceCorners f (face_off q over.0.face))
    found = behind lifts slots ps ms mesh now v spot.0 f over.0 (shows_with slots v spot.0 f (face_off t spot.0) spot.2 (row_shows lifts slots ps ms v spot.0 t spot.1 slot)) over.1

    -- the slot of a row has the row on the other side of a face as a neighbor
    pub next_row : (u : ℕ) (r : Row) (other : IsLowestRowSlot lifts slots ps ms u r) → IsFaceOf ps (reversed f) other.row → IsNextTo lifts slots v u
    next_row u r other after = record { face = spot.0; over = over.0; is = over.1; there = by found }
      where
        by : ((q : Row) × IsLowestRowSlot lifts slots ps ms over.0.slot q × HasSameFaceCorners f (face_off q over.0.face)) ⊎ ((q : Row) × IsLowestGhostSlot lifts slots ps ms over.0.slot q over.0.face × HasSameFaceCorners f (face_off q over.0.face)) → over.0.slot ≡ u
        by (inl row) = elim (row_beside ps row.0 row.1.row over.0.face f b4 apart_face row.1.is_positive row.1.same_corners row.2) [
          | inl before ↦ absurd (mesh.apart v spot.0 over.0 over.1 (one_slot over.0.slot v row.0 t row.1 slot (law_one_row lifts ps ms now.within f row.1.row slot.row row.1.is_row before slot.is_row face)))
          | inr behind_it ↦ one_slot over.0.slot u row.0 r row.1 other (law_one_row lifts ps ms now.within (reversed f) row.1.row other.row row.1.is_row behind_it other.is_row after)
        ]
        by (inr ghost) = absurd (no_hull lifts ps ms f (face_off ghost.0 over.0.face) slot.row other.row ghost.2 ghost.1.is_hull slot.is_row face other.is_row after)

    -- and the ghost of a hull face that it is behind
    pub next_ghost : (u : ℕ) (r : Row) (j : ℕ) (g : Face) → IsLowestGhostSlot lifts slots ps ms u r j → IsLowestHullFace lifts ps ms g → HasSameFaceCorners (face_off r j) g → f ≡ reversed g → IsNextTo lifts slots v u
    next_ghost u r j g ghost hull same e = record { face = spot.0; over = over.0; is = over.1; there = by found }
      where
        by : ((q : Row) × IsLowestRowSlot lifts slots ps ms over.0.slot q × HasSameFaceCorners f (face_off q over.0.face)) ⊎ ((q : Row) × IsLowestGhostSlot lifts slots ps ms over.0.slot q over.0.face × HasSameFaceCorners f (face_off q over.0.face)) → over.0.slot ≡ u
        by (inl row) = elim (row_beside ps row.0 row.1.row over.0.face f b4 apart_face row.1.is_positive row.1.same_corners row.2) [
          | inl before ↦ absurd (mesh.apart v spot.0 over.0 over.1 (one_slot over.0.slot v row.0 t row.1 slot (law_one_row lifts ps ms now.within f row.1.row slot.row row.1.is_row before slot.is_row face)))
          | inr behind_it ↦ absurd ((law_hull_face lifts ps ms now.within g hull.behind hull.is_row hull.is_face).0 hull row.1.row row.1.is_row (subst (λ (x : Face). IsFaceOf ps (reversed x) row.1.row) e behind_it))
        ]
        by (inr at_hull) =
            let to_g : HasSameFaceCorners f g = subst (λ (x : Face). HasSameFaceCorners x g) (sym e) (same_reversed g) in
            now.one_ghost over.0.slot u at_hull.0 r over.0.face j at_hull.1 ghost (same_then (face_off at_hull.0 over.0.face) f (face_off r j) (same_back f (face_off at_hull.0 over.0.face) at_hull.2) (same_then f g (face_off r j) to_g (same_back (face_off r j) g same)))

  -- the ghost of a hull face has the row behind it as a neighbor
  pub next_inner : (v k : ℕ) (t : Row) (slot : IsLowestGhostSlot lifts slots ps ms v t k) (g : Face) → HasSameFaceCorners (face_off t k) g → IsLowestHullFace lifts ps ms g → (u : ℕ) (r : Row) (other : IsLowestRowSlot lifts slots ps ms u r) → IsFaceOf ps (reversed g) other.row → IsNextTo lifts slots v u
  next_inner v k t slot g same hull u r other after =
      let over = some_side (link_behind slots v k) (now.linked v k (rw slot.is refl) slot.within) in
      let there = behind_ghost lifts slots ps ms mesh now v k t over.0 slot over.1 in
      let face = hull_behind lifts ps ms g (face_off t k) other.row (same_back (face_off t k) g same) hull slot.is_hull other.is_row after in
      let one : other.row ≡ slot.is_hull.behind = law_one_row lifts ps ms now.within (reversed (face_off t k)) other.row slot.is_hull.behind other.is_row face slot.is_hull.is_row slot.is_hull.is_face in
      record { face = k; over = over.0; is = over.1; there = one_slot over.0.slot u there.0 r there.1 other (there.2 ∙ sym one) }
