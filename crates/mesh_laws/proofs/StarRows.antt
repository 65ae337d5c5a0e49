-- The faces of the rim with three points, and the slots that surgery puts over them: the rows of the star.
use Rattle.std.proofs.Common.{◌≡◌, ◌⊎◌, inl, inr, ℕ, zero, suc, ◌<◌, ℤ, pos, neg_ℤ, ◌<ℤ◌, List, ◌∷◌, length, set, Option, Some, option_map, refl, sym, ap, subst, ◌∙◌, arith}
use Rattle.std.proofs.lemmas.Int.{ints}
use Rattle.std.proofs.lemmas.List.{set-set}
use Rattle.sign_predicates.specs.Point.{Point}
use Rattle.sign_predicates.specs.Orientation.{IsPositive, volume, side as side_at}
use Rattle.geo_laws.specs.Delaunay.{point, corners}
use Rattle.geo_laws.specs.Height.{IsLowestAmong}
use Rattle.geo_laws.specs.declared.tetrahedra.Tet.{Tet as Row}
use Rattle.sign_predicates.proofs.Places.{A, B, C}
use Rattle.geo_laws.proofs.Places.{with_number, number-with, corners-with_number}
use Rattle.geo_laws.proofs.Corners.{AreDistinct, distinct}
use Rattle.geo_laws.proofs.Determinants.{volume-replaced}
use Rattle.geo_laws.proofs.Arrangement.{arranged, even_positive}
use Rattle.geo_laws.specs.OrientedFace.{Face, reversed, beside}
use Rattle.insert_laws.specs.LowestInsertion.{HasSameCorners, IsNew, IsLowestRimFace}
use Rattle.insert_laws.proofs.FacePencil.{side_of}
use Rattle.insert_laws.proofs.LowestInsert.{law_rim, law_insertion}
use Rattle.insert_laws.proofs.LowestBridge.{same_of_even}
use Rattle.mesh_arena.specs.Mesh.{SlotValue, corners_at, link_behind, at, IsArenaMesh}
use Rattle.mesh_arena.specs.Star.{behind, rim_at, behind_rim}
use Rattle.mesh_arena.specs.Cavity.{IsInCavitySlots}
use Rattle.mesh_arena.specs.Replace.{Replaces}
use Rattle.mesh_arena.specs.declared.arena.SlotFace.{SlotFace}
use Rattle.mesh_arena.specs.declared.slot.Corner.TheVariants.{Point as Numbered, Ghost}
use Rattle.mesh_arena.specs.declared.slot.Slot.{Slot}
use Rattle.mesh_arena.specs.declared.slot.RimFace.{RimFace}
use Rattle.mesh_arena.proofs.Mesh.{side_live}
use Rattle.point_locate.specs.Place.{row_corners}
use Rattle.mesh_laws.specs.LowestRule.{IsLowestTaken}
use Rattle.mesh_laws.specs.Reach.{Reach, first, Grown}
use Rattle.mesh_laws.specs.LowestLiving.{face_off, IsFaceCorner, HasSameFaceCorners, IsLowestRowSlot, IsLowestGhostSlot, IsLowestMesh}
use Rattle.mesh_laws.specs.LowestLaws.{IsLowestWholeFrom}
use Rattle.mesh_laws.proofs.LowestFaces.{Agree, faces_agree, place_of, beside_same, triangle_off, row_off, same_trans}
use Rattle.mesh_laws.proofs.OverFace.{IsOver, row_over, ghost_over, reversed_sides, reversed_same, over_named, over_across}
use Rattle.mesh_laws.proofs.RimNames.{IsTriangle, triangle_rim, one_triangle}

-- ---- a four with p in place of a corner

pub set_corner : (t : Row) (k p : ℕ) → k < 4 → set (row_corners t) k (Numbered p) ≡ row_corners (with_number t (place_of k) p)
set_corner t zero p h = refl
set_corner t (suc zero) p h = refl
set_corner t (suc (suc zero)) p h = refl
set_corner t (suc (suc (suc zero))) p h = refl
set_corner t (suc (suc (suc (suc k)))) p h = absurd (omega arith)

-- its face opposite that corner stays
pub face_with : (t : Row) (k p : ℕ) → k < 4 → face_off (with_number t (place_of k) p) k ≡ face_off t k
face_with t zero p h = refl
face_with t (suc zero) p h = refl
face_with t (suc (suc zero)) p h = refl
face_with t (suc (suc (suc zero))) p h = refl
face_with t (suc (suc (suc (suc k)))) p h = absurd (omega arith)

-- its corners are those of the face and p
pub beside_with : (t : Row) (k p : ℕ) → k < 4 → HasSameCorners (beside (face_off t k) p) (with_number t (place_of k) p)
beside_with t k p h =
    let u = with_number t (place_of k) p in
    let same : HasSameFaceCorners (face_off t k) (face_off u k) = λ i. (λ c. subst (λ (f : Face). IsFaceCorner f i) (sym (face_with t k p h)) c, λ c. subst (λ (f : Face). IsFaceCorner f i) (face_with t k p h) c) in
    subst (λ o. HasSameCorners (beside (face_off t k) o) u) (number-with t (place_of k) p) (beside_same u k (face_off t k) h same)

-- and its volume is the side of p at the face
pub volume_with : (ps : List Point) (t : Row) (k p : ℕ) → k < 4 → volume (corners ps (with_number t (place_of k) p)) ≡ side_of ps (face_off t k) p
volume_with ps t k p h =
    ap volume (corners-with_number ps t (place_of k) p)
    ∙ volume-replaced (corners ps t) (place_of k) (point ps p)
    ∙ ap (λ f. side_at f (point ps p)) (sym (triangle_off ps t k h))

no_both : (m n : ℤ) → m ≡ neg_ℤ n → pos 0 <ℤ m → pos 0 <ℤ n → ⊥
no_both m n e h k = omega (arith, ints)

-- ---- the faces of the rim

module _ (lifts : ℕ → ℤ) (old new : List (Option SlotValue)) (ps : List Point) (ms : List ℕ) (p start : ℕ) (cavity : List Slot) (rim : List RimFace) (s : ℕ) (mesh : IsArenaMesh old) (now : IsLowestMesh lifts old ps ms) (fresh : IsNew ps ms p) (grown : Grown old (IsLowestTaken lifts old ps p) start cavity rim) (whole : (u : ℕ) → IsLowestTaken lifts old ps p u → IsInCavitySlots cavity u) (star : Replaces old new cavity rim (Numbered p) s) where
  pub in_taken : (u : ℕ) → IsInCavitySlots cavity u → IsLowestTaken lifts old ps p u
  in_taken u found = subst (IsLowestTaken lifts old ps p) found.is (grown.taken found.place found.inside)

  pub out_free : (u : ℕ) → (IsInCavitySlots cavity u → ⊥) → IsLowestTaken lifts old ps p u → ⊥
  out_free u out taken = out (whole u taken)

  pub whole_from : IsLowestWholeFrom lifts old ps p start
  whole_from = record { takes_start = in_taken start (grown.all start first); all = λ u taken. let found = whole u taken in subst (Reach old (IsLowestTaken lifts old ps p) start) found.is (grown.reached found.place found.inside) }

  -- the slot that surgery puts over the face r of the rim
  abbrev pub made : ℕ → ℕ
  made r = (behind_rim new rim r).slot

  -- the slot and face behind the face r, in the cavity
  pub record IsBehind (r : ℕ) (b : SlotFace) : Type 0 where
    pub inside : r < length rim
    pub is : link_behind old (rim_at rim r).slot.index (rim_at rim r).face ≡ Some b
    pub back : link_behind old b.slot b.face ≡ Some (at (rim_at rim r).slot.index (rim_at rim r).face)
    pub within : b.face < 4
    pub corners : corners_at new (made r) ≡ option_map (λ cs. set cs b.face (Numbered p)) (corners_at old b.slot)

  pub rim_behind : (r : ℕ) → r < length rim → (b : SlotFace) × IsBehind r b
  rim_behind r h =
      let u = (rim_at rim r).slot.index in
      let k = (rim_at rim r).face in
      let inner = grown.inner r h in
      let b = inner.0 in
      let back = mesh.back u k b inner.1 in (
        b,
        record {
          inside = h;
          is = inner.1;
          back = back;
          within = (side_live old b.slot b.face (at u k) mesh.shaped back).1;
          corners = (star.star r h).corners ∙ ap (λ (o : Option SlotFace). option_map (λ cs. set cs (behind o).face (Numbered p)) (corners_at old (behind o).slot)) inner.1;
        },
      )

  -- the face r has three points: behind it is a row, or a ghost whose hull face it is
  pub record IsRowOver (r : ℕ) : Type 0 where
    pub inner : SlotFace
    pub is_behind : IsBehind r inner
    pub row : Row
    pub slot : IsLowestRowSlot lifts old ps ms inner.slot row ⊎ IsLowestGhostSlot lifts old ps ms inner.slot row inner.face

  module _ (r : ℕ) (x : IsRowOver r) where
    -- the face, turned to the cavity
    abbrev pub rim_face : Face
    rim_face = face_off x.row x.inner.face

    -- the corners of the slot over it
    abbrev pub star_row : Row
    star_row = with_number x.row (place_of x.inner.face) p

    is_over : IsOver lifts old ps ms rim_face x.inner.slot x.inner.face
    is_over = by x.slot
      where
        by : IsLowestRowSlot lifts old ps ms x.inner.slot x.row ⊎ IsLowestGhostSlot lifts old ps ms x.inner.slot x.row x.inner.face → IsOver lifts old ps ms (face_off x.row x.inner.face) x.inner.slot x.inner.face
        by (inl row) = row_over x.row row x.is_behind.within (λ i. (λ c. c, λ c. c)) (row_off ps x.row row.row x.inner.face x.is_behind.within row.is_positive row.same_corners)
        by (inr ghost) = ghost_over x.row ghost (λ i. (λ c. c, λ c. c)) ghost.is_hull

    pub is_triangle : IsTriangle lifts old ps ms rim r rim_face
    is_triangle = over_across lifts old ps ms mesh now rim_face x.inner.slot x.inner.face (at (rim_at rim r).slot.index (rim_at rim r).face) is_over x.is_behind.back

    is_rim : IsLowestRimFace lifts ps ms p rim_face
    is_rim = triangle_rim lifts old ps ms mesh now rim p start cavity fresh grown whole_from r rim_face x.is_behind.inside is_triangle

    pub rim_positive : pos 0 <ℤ side_of ps rim_face p
    rim_positive = law_rim lifts ps ms p fresh rim_face is_rim.cavity is_rim.clear

    pub star_positive : IsPositive (corners ps star_row)
    star_positive = subst (λ z. pos 0 <ℤ z) (sym (volume_with ps x.row x.inner.face p x.is_behind.within)) rim_positive

    pub star_corners : corners_at new (made r) ≡ Some (row_corners star_row)
    star_corners = by x.slot
      where
        by : IsLowestRowSlot lifts old ps ms x.inner.slot x.row ⊎ IsLowestGhostSlot lifts old ps ms x.inner.slot x.row x.inner.face → corners_at new (made r) ≡ Some (row_corners star_row)
        by (inl row) = x.is_behind.corners ∙ ap (option_map (λ cs. set cs x.inner.face (Numbered p))) row.is ∙ ap Some (set_corner x.row x.inner.face p x.is_behind.within)
        by (inr ghost) =
            x.is_behind.corners
            ∙ ap (option_map (λ cs. set cs x.inner.face (Numbered p))) ghost.is
            ∙ ap Some (set-set (row_corners x.row) x.inner.face Ghost (Numbered p) ∙ set_corner x.row x.inner.face p x.is_behind.within)

    -- the slot is that of each lowest row with those corners
    pub row_corner : (row : Row) → HasSameCorners (beside rim_face p) row → HasSameCorners star_row row
    row_corner row same i = (λ c. (same i).0 ((corner i).1 c), λ c. (corner i).0 ((same i).1 c))
      where
        corner : HasSameCorners (beside rim_face p) star_row
        corner = beside_with x.row x.inner.face p x.is_behind.within

    abbrev pub row_slot : (row : Row) → IsLowestAmong ps (p ∷ ms) lifts row → HasSameCorners (beside rim_face p) row → IsLowestRowSlot lifts new ps (p ∷ ms) (made r) star_row
    row_slot row is_row same = record { is = star_corners; row = row; is_row = is_row; same_corners = row_corner row same; is_positive = star_positive }

    -- and there is one
    pub some_row : (some : Row) → IsLowestAmong ps ms lifts some → IsLowestRowSlot lifts new ps (p ∷ ms) (made r) star_row
    some_row some is =
        let t = arranged ps star_row star_positive in
        let same = same_trans (beside rim_face p) star_row t.0 (beside_with x.row x.inner.face p x.is_behind.within) (same_of_even ps star_row t.0 t.1) in
        row_slot t.0 ((law_insertion lifts ps ms p fresh some is t.0).1 (inr (record { face = rim_face; same_corners = same; is_positive = even_positive ps star_row t.0 t.1 star_positive; is_arranged = t.2; cavity = is_rim.cavity; clear = is_rim.clear }))) same

  -- faces of the rim with the same three corners are one
  pub row_once : (r q : ℕ) (x : IsRowOver r) (y : IsRowOver q) → HasSameFaceCorners (rim_face r x) (rim_face q y) → r ≡ q
  row_once r q x y same = by (faces_agree ps f g (record { ab = d A B tt; ac = d A C tt; bc = d B C tt }) same)
    where
      f : Face
      f = rim_face r x

      g : Face
      g = rim_face q y

      d : AreDistinct (beside (face_off x.row x.inner.face) p)
      d = distinct ps (beside f p) (rim_positive r x)

      by : Agree ps f g → r ≡ q
      by (inl agree) =
          let v = (rim_at rim q).slot.index in
          let other = over_named lifts old ps ms (reversed g) (reversed f) v (rim_at rim q).face (reversed_same f g same) (reversed_sides ps f g agree) (is_triangle q y) in
          one_triangle lifts old ps ms mesh now rim p start cavity fresh grown whole_from r q f x.is_behind.inside y.is_behind.inside (is_triangle r x) other
      by (inr opposed) = absurd (no_both (side_of ps f p) (side_of ps g p) (opposed p) (rim_positive r x) (rim_positive q y))
