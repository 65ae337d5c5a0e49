-- What stands behind a face of a slot that is a row, or behind the hull face of a ghost.
use Rattle.std.proofs.Common.{◌≡◌, ◌≢◌, ◌⊎◌, inl, inr, ℕ, zero, suc, ◌<◌, List, get_or, Option, None, Some, IsSome, refl, sym, ap, subst, ◌∙◌, arith, ℤ}
use Rattle.std.proofs.lemmas.Bool.{cases_eq}
use Rattle.std.proofs.lemmas.List.{get_or-set_same, get_or-set_other}
use Rattle.sign_predicates.specs.Point.{Point}
use Rattle.std.specs.Prelude.{Contains, slice_set}
use Rattle.geo_laws.specs.Delaunay.{numbers}
use Rattle.geo_laws.specs.declared.tetrahedra.Tet.{Tet as Row}
use Rattle.geo_laws.proofs.Places.{number}
use Rattle.geo_laws.specs.OrientedFace.{Face, reversed}
use Rattle.insert_laws.specs.LowestInsertion.{HasSameCorners, IsFaceOf}
use Rattle.insert_laws.proofs.LowestInsert.{law_one_row}
use Rattle.insert_laws.proofs.LowestLists.{law_hull_face}
use Rattle.mesh_arena.specs.Mesh.{SlotValue, corners_at, corner, corner_in, link_behind, at, OnFace, IsArenaMesh}
use Rattle.mesh_arena.specs.declared.arena.SlotFace.{SlotFace}
use Rattle.mesh_arena.specs.declared.slot.Corner.TheVariants.{Point as Numbered, Ghost}
use Rattle.mesh_arena.proofs.Mesh.{side_live}
use Rattle.mesh_arena.proofs.AddStar.{live_by_side}
use Rattle.point_locate.specs.Place.{row_corners}
use Rattle.mesh_laws.specs.LowestLiving.{face_off, IsFaceCorner, HasSameFaceCorners, IsLowestRowSlot, IsLowestGhostSlot, IsLowestMesh}
use Rattle.mesh_laws.proofs.LowestFaces.{AreApart, hull_apart, place_of, off_corner, corner_off, apart_off, row_beside, row_off}

pub row_corner : (t : Row) (m : ℕ) → m < 4 → get_or (row_corners t) m Ghost ≡ Numbered (number t (place_of m))
row_corner t zero h = refl
row_corner t (suc zero) h = refl
row_corner t (suc (suc zero)) h = refl
row_corner t (suc (suc (suc zero))) h = refl
row_corner t (suc (suc (suc (suc m)))) h = absurd (omega arith)

pub some_side : (o : Option SlotFace) → IsSome o → (b : SlotFace) × (o ≡ Some b)
some_side None h = absurd (cc)
some_side (Some b) h = (b, refl)

pub same_number : (i j : ℕ) → Numbered i ≡ Numbered j → i ≡ j
same_number i j e = cc

-- the numbers on the face of the slot are the corners of f, and the point at infinity isn't on it
pub record Shows (slots : List (Option SlotValue)) (s k : ℕ) (f : Face) : Type 0 where
  pub to : (i : ℕ) → OnFace slots s k (Numbered i) → IsFaceCorner f i
  pub from : (i : ℕ) → IsFaceCorner f i → OnFace slots s k (Numbered i)
  pub finite : OnFace slots s k Ghost → ⊥

-- the corners off the place k are those of the four t
module _ (slots : List (Option SlotValue)) (s k : ℕ) (t : Row) (k4 : k < 4) (is : (m : ℕ) → m < 4 → m ≢ k → corner slots s m ≡ Numbered (number t (place_of m))) where
  pub shows : Shows slots s k (face_off t k)
  shows = record {
    to = λ i on. subst (IsFaceCorner (face_off t k)) (same_number _ i (sym (is on.place on.within on.off) ∙ on.is)) (off_corner t k on.place k4 on.within on.off);
    from = λ i c. let m = corner_off t k i k4 c in record { place = m.0; within = m.1; off = m.2; is = is m.0 m.1 m.2 ∙ ap Numbered m.3 };
    finite = λ on. never _ (sym (is on.place on.within on.off) ∙ on.is);
  }
    where
      never : (i : ℕ) → Numbered i ≡ Ghost → ⊥
      never i e = cc

-- the slot has the point at infinity in the place k of the four t
module _ (slots : List (Option SlotValue)) (s k : ℕ) (t : Row) (k4 : k < 4) (is : corners_at slots s ≡ Some (slice_set (row_corners t) k Ghost)) where
  pub finite_at : (m : ℕ) → m < 4 → m ≢ k → corner slots s m ≡ Numbered (number t (place_of m))
  finite_at m m4 off = ap (λ o. corner_in o m) is ∙ get_or-set_other (row_corners t) k m Ghost Ghost off ∙ row_corner t m m4

  pub infinite_at : corner slots s k ≡ Ghost
  infinite_at = ap (λ o. corner_in o k) is ∙ get_or-set_same (row_corners t) k Ghost Ghost (omega (arith, k4))

  pub shows_hull : Shows slots s k (face_off t k)
  shows_hull = shows slots s k t k4 finite_at

module _ (lifts : ℕ → ℤ) (slots : List (Option SlotValue)) (ps : List Point) (ms : List ℕ) where
  pub row_shows : (s k : ℕ) (t : Row) → k < 4 → IsLowestRowSlot lifts slots ps ms s t → Shows slots s k (face_off t k)
  row_shows s k t k4 slot = shows slots s k t k4 (λ m m4 off. ap (λ o. corner_in o m) slot.is ∙ row_corner t m m4)

  pub ghost_corner : (s k : ℕ) (t : Row) → IsLowestGhostSlot lifts slots ps ms s t k → (m : ℕ) → m < 4 → m ≢ k → corner slots s m ≡ Numbered (number t (place_of m))
  ghost_corner s k t slot = finite_at slots s k t slot.within slot.is

  pub infinite_corner : (s k : ℕ) (t : Row) → IsLowestGhostSlot lifts slots ps ms s t k → corner slots s k ≡ Ghost
  infinite_corner s k t slot = infinite_at slots s k t slot.within slot.is

  pub ghost_shows : (s k : ℕ) (t : Row) → IsLowestGhostSlot lifts slots ps ms s t k → Shows slots s k (face_off t k)
  ghost_shows s k t slot = shows_hull slots s k t slot.within slot.is

  module _ (mesh : IsArenaMesh slots) (now : IsLowestMesh lifts slots ps ms) (s k : ℕ) (f : Face) (b : SlotFace) (shown : Shows slots s k f) (is : link_behind slots s k ≡ Some b) where
    -- the neighbor shows the same face
    pub behind_shows : Shows slots b.slot b.face f
    behind_shows =
        let same = mesh.shared s k b is in
        record { to = λ i on. shown.to i (same.from (Numbered i) on); from = λ i c. same.to (Numbered i) (shown.from i c); finite = λ on. shown.finite (same.from Ghost on) }

    behind_face : b.face < 4
    behind_face = (side_live slots b.slot b.face (at s k) mesh.shaped (mesh.back s k b is)).1

    agree : (t : Row) → Shows slots b.slot b.face (face_off t b.face) → HasSameFaceCorners f (face_off t b.face)
    agree t other i = (λ c. other.to i (behind_shows.from i c), λ c. behind_shows.to i (other.from i c))

    -- it is a row with the face, or the ghost of a hull face with the same corners
    pub behind : ((t : Row) × IsLowestRowSlot lifts slots ps ms b.slot t × HasSameFaceCorners f (face_off t b.face)) ⊎ ((t : Row) × IsLowestGhostSlot lifts slots ps ms b.slot t b.face × HasSameFaceCorners f (face_off t b.face))
    behind = by (now.each b.slot (live_by_side slots b.slot b.face (at s k) (mesh.back s k b is)))
      where
        by : ((t : Row) × IsLowestRowSlot lifts slots ps ms b.slot t) ⊎ ((t : Row) × (j : ℕ) × IsLowestGhostSlot lifts slots ps ms b.slot t j)
            → ((t : Row) × IsLowestRowSlot lifts slots ps ms b.slot t × HasSameFaceCorners f (face_off t b.face)) ⊎ ((t : Row) × IsLowestGhostSlot lifts slots ps ms b.slot t b.face × HasSameFaceCorners f (face_off t b.face))
        by (inl row) = inl (row.0, row.1, agree row.0 (row_shows b.slot b.face row.0 behind_face row.1))
        by (inr ghost) = elim (cases_eq ghost.1 b.face) [
          | inl same ↦
              let slot = subst (IsLowestGhostSlot lifts slots ps ms b.slot ghost.0) same ghost.2 in
              inr (ghost.0, slot, agree ghost.0 (ghost_shows b.slot b.face ghost.0 slot))
          | inr other ↦ absurd (behind_shows.finite (record { place = ghost.1; within = ghost.2.within; off = other; is = infinite_corner b.slot ghost.1 ghost.0 ghost.2 }))
        ]

  -- behind the hull face of a ghost stands the row behind that face
  pub behind_ghost : (mesh : IsArenaMesh slots) (now : IsLowestMesh lifts slots ps ms) (s k : ℕ) (t : Row) (b : SlotFace) (slot : IsLowestGhostSlot lifts slots ps ms s t k) → link_behind slots s k ≡ Some b → (r : Row) × (inner : IsLowestRowSlot lifts slots ps ms b.slot r) × (inner.row ≡ slot.is_hull.behind)
  behind_ghost mesh now s k t b slot is = by (behind mesh now s k f b (ghost_shows s k t slot) is)
    where
      f : Face
      f = face_off t k

      d : AreApart f
      d = hull_apart lifts ps ms f slot.is_hull

      by : ((r : Row) × IsLowestRowSlot lifts slots ps ms b.slot r × HasSameFaceCorners f (face_off r b.face)) ⊎ ((r : Row) × IsLowestGhostSlot lifts slots ps ms b.slot r b.face × HasSameFaceCorners f (face_off r b.face))
          → (r : Row) × (inner : IsLowestRowSlot lifts slots ps ms b.slot r) × (inner.row ≡ slot.is_hull.behind)
      by (inl row) =
          let b4 : b.face < 4 = (side_live slots b.slot b.face (at s k) mesh.shaped (mesh.back s k b is)).1 in
          elim (row_beside ps row.0 row.1.row b.face f b4 d row.1.is_positive row.1.same_corners row.2) [
            | inl before ↦ absurd ((law_hull_face lifts ps ms now.within f slot.is_hull.behind slot.is_hull.is_row slot.is_hull.is_face).0 slot.is_hull row.1.row row.1.is_row before)
            | inr after ↦ (row.0, row.1, law_one_row lifts ps ms now.within (reversed f) row.1.row slot.is_hull.behind row.1.is_row after slot.is_hull.is_row slot.is_hull.is_face)
          ]
      by (inr ghost) = absurd (mesh.apart s k b is (sym (now.one_ghost s b.slot t ghost.0 k b.face slot ghost.1 ghost.2)))

  -- behind a face of a row stands the row on its other side, or the ghost of a hull face with those corners
  pub behind_row : (mesh : IsArenaMesh slots) (now : IsLowestMesh lifts slots ps ms) (s k : ℕ) (t : Row) (b : SlotFace) (slot : IsLowestRowSlot lifts slots ps ms s t) → link_behind slots s k ≡ Some b
      → ((r : Row) × (other : IsLowestRowSlot lifts slots ps ms b.slot r) × IsFaceOf ps (reversed (face_off t k)) other.row) ⊎ ((r : Row) × IsLowestGhostSlot lifts slots ps ms b.slot r b.face × HasSameFaceCorners (face_off t k) (face_off r b.face))
  behind_row mesh now s k t b slot is = by (behind mesh now s k f b (row_shows s k t k4 slot) is)
    where
      f : Face
      f = face_off t k

      k4 : k < 4
      k4 = (side_live slots s k b mesh.shaped is).1

      same_of : (r : Row) → slot.row ≡ r → (u : Row) → HasSameCorners u r → HasSameCorners t u
      same_of r e u h i = (λ c. (h i).1 (subst (λ (x : Row). Contains (numbers x) i) e ((slot.same_corners i).0 c)), λ c. (slot.same_corners i).1 (subst (λ (x : Row). Contains (numbers x) i) (sym e) ((h i).0 c)))

      by : ((r : Row) × IsLowestRowSlot lifts slots ps ms b.slot r × HasSameFaceCorners f (face_off r b.face)) ⊎ ((r : Row) × IsLowestGhostSlot lifts slots ps ms b.slot r b.face × HasSameFaceCorners f (face_off r b.face))
          → ((r : Row) × (other : IsLowestRowSlot lifts slots ps ms b.slot r) × IsFaceOf ps (reversed f) other.row) ⊎ ((r : Row) × IsLowestGhostSlot lifts slots ps ms b.slot r b.face × HasSameFaceCorners f (face_off r b.face))
      by (inr ghost) = inr ghost
      by (inl row) =
          let b4 : b.face < 4 = (side_live slots b.slot b.face (at s k) mesh.shaped (mesh.back s k b is)).1 in
          elim (row_beside ps row.0 row.1.row b.face f b4 (apart_off ps t k k4 slot.is_positive) row.1.is_positive row.1.same_corners row.2) [
            | inl before ↦
                let one : slot.row ≡ row.1.row = law_one_row lifts ps ms now.within f slot.row row.1.row slot.is_row (row_off ps t slot.row k k4 slot.is_positive slot.same_corners) row.1.is_row before in
                absurd (mesh.apart s k b is (sym (now.one_row s b.slot t row.0 slot row.1 (same_of row.1.row one row.0 row.1.same_corners))))
            | inr after ↦ inl (row.0, row.1, after)
          ]
