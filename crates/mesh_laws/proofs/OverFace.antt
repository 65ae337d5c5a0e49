-- What stands over a face: the slot of a row on its positive side, or of the ghost of a hull face.
use Rattle.std.proofs.Common.{◌≡◌, ◌⊎◌, inl, inr, ℕ, ◌<◌, pos, neg_ℤ, ◌<ℤ◌, List, Option, Some, refl, sym, ap, subst, ◌∙◌, ℤ}
use Rattle.std.proofs.Math.IntN.{neg_ℤ-neg_ℤ}
use Rattle.std.proofs.lemmas.Bool.{cases_eq}
use Rattle.sign_predicates.specs.Point.{Point}
use Rattle.geo_laws.specs.Height.{IsLowestAmong}
use Rattle.geo_laws.specs.declared.tetrahedra.Tet.{Tet as Row}
use Rattle.sign_predicates.proofs.Places.{A, B, C}
use Rattle.geo_laws.proofs.Corners.{distinct}
use Rattle.geo_laws.specs.OrientedFace.{Face, reversed, beside}
use Rattle.insert_laws.specs.LowestInsertion.{IsNew, IsFaceOf, IsLowestHullFace, IsLowestCavityPlace, cavity_row, cavity_ghost, IsLowestClearPlace, clear_row, clear_ghost, IsLowestRimFace, row_place, ghost_place, row_in, ghost_in}
use Rattle.insert_laws.proofs.FacePencil.{side_of, side_of-reversed}
use Rattle.insert_laws.proofs.Beyond.{turn, side-turn}
use Rattle.insert_laws.proofs.LowestInsert.{law_one_row}
use Rattle.insert_laws.proofs.Sides.{law_place}
use Rattle.mesh_arena.specs.Mesh.{SlotValue, IsLive, corner, link_behind, at, OnFace, IsArenaMesh}
use Rattle.mesh_arena.specs.declared.arena.SlotFace.{SlotFace}
use Rattle.mesh_arena.proofs.Mesh.{side_live}
use Rattle.mesh_laws.specs.LowestRule.{IsLowestTaken}
use Rattle.mesh_laws.specs.LowestLiving.{face_off, HasSameFaceCorners, IsLowestRowSlot, IsLowestGhostSlot, IsLowestMesh}
use Rattle.mesh_laws.proofs.LowestFaces.{faces_agree, hull_apart, same_trans, row_beside}
use Rattle.mesh_laws.proofs.LowestAcross.{Shows, row_shows, ghost_shows, behind}
use Rattle.mesh_laws.proofs.LowestRows.{taken_row}
use Rattle.mesh_laws.proofs.Seen.{taken_sees}
use Rattle.mesh_laws.proofs.LowestJoined.{place_of_face, same_back, same_then, same_reversed, shows_with, beside_face, opposite_in, one_slot}
use Rattle.mesh_laws.proofs.NextHull.{turned_corners}
use Rattle.mesh_laws.proofs.Reached.{sees_same, taken_at}

-- The slot u has the face f off its place k and stands on the positive side of f: a row there, or the ghost of a hull face
pub data IsOver (lifts : ℕ → ℤ) (slots : List (Option SlotValue)) (ps : List Point) (ms : List ℕ) (f : Face) (u k : ℕ) : Type 0 where
  row_over : (t : Row) (slot : IsLowestRowSlot lifts slots ps ms u t) → k < 4 → HasSameFaceCorners f (face_off t k) → IsFaceOf ps f slot.row → IsOver lifts slots ps ms f u k
  ghost_over : (t : Row) → IsLowestGhostSlot lifts slots ps ms u t k → HasSameFaceCorners f (face_off t k) → IsLowestHullFace lifts ps ms f → IsOver lifts slots ps ms f u k

-- a row's face with the same corners and sides
face_named : (ps : List Point) (f g : Face) (t : Row) → HasSameFaceCorners f g → ((o : ℕ) → side_of ps f o ≡ side_of ps g o) → IsFaceOf ps g t → IsFaceOf ps f t
face_named ps f g t same sides face = record {
  opposite = face.opposite;
  same_corners = same_trans _ _ t (beside_face f g face.opposite same) face.same_corners;
  over = subst (λ z. pos 0 <ℤ z) (sym (sides face.opposite)) face.over;
}

pub reversed_sides : (ps : List Point) (f g : Face) → ((o : ℕ) → side_of ps f o ≡ side_of ps g o) → (o : ℕ) → side_of ps (reversed f) o ≡ side_of ps (reversed g) o
reversed_sides ps f g sides o = side_of-reversed ps f o ∙ ap neg_ℤ (sides o) ∙ sym (side_of-reversed ps g o)

pub reversed_same : (f g : Face) → HasSameFaceCorners f g → HasSameFaceCorners (reversed f) (reversed g)
reversed_same f g same = same_then (reversed f) f (reversed g) (same_reversed f) (same_then f g (reversed g) same (same_back (reversed g) g (same_reversed g)))

-- a hull face with the same corners and sides
hull_named : (lifts : ℕ → ℤ) (ps : List Point) (ms : List ℕ) (f g : Face) → HasSameFaceCorners f g → ((o : ℕ) → side_of ps f o ≡ side_of ps g o) → IsLowestHullFace lifts ps ms g → IsLowestHullFace lifts ps ms f
hull_named lifts ps ms f g same sides hull = record {
  behind = hull.behind;
  is_row = hull.is_row;
  is_face = face_named ps (reversed f) (reversed g) hull.behind (reversed_same f g same) (reversed_sides ps f g sides) hull.is_face;
  none_beyond = λ i c over. hull.none_beyond i c (subst (λ z. pos 0 <ℤ z) (sides i) over);
}

-- no row is before a hull face
not_before : (lifts : ℕ → ℤ) (ps : List Point) (ms : List ℕ) (f : Face) (t : Row) → IsLowestHullFace lifts ps ms f → IsLowestAmong ps ms lifts t → IsFaceOf ps f t → ⊥
not_before lifts ps ms f t hull row face = hull.none_beyond face.opposite (opposite_in lifts ps ms f t row face) face.over

module _ (lifts : ℕ → ℤ) (slots : List (Option SlotValue)) (ps : List Point) (ms : List ℕ) where
  pub over_shows : (f : Face) (u k : ℕ) → IsOver lifts slots ps ms f u k → Shows slots u k f
  over_shows f u k (row_over t slot k4 same face) = shows_with slots u k f (face_off t k) same (row_shows lifts slots ps ms u k t k4 slot)
  over_shows f u k (ghost_over t slot same hull) = shows_with slots u k f (face_off t k) same (ghost_shows lifts slots ps ms u k t slot)

  -- the face may have another name
  pub over_named : (f g : Face) (u k : ℕ) → HasSameFaceCorners g f → ((o : ℕ) → side_of ps g o ≡ side_of ps f o) → IsOver lifts slots ps ms f u k → IsOver lifts slots ps ms g u k
  over_named f g u k named sides (row_over t slot k4 same face) = row_over t slot k4 (same_then g f (face_off t k) named same) (face_named ps g f slot.row named sides face)
  over_named f g u k named sides (ghost_over t slot same hull) = ghost_over t slot (same_then g f (face_off t k) named same) (hull_named lifts ps ms g f named sides hull)

  -- as from another corner
  pub over_turn : (f : Face) (u k : ℕ) → IsOver lifts slots ps ms f u k → IsOver lifts slots ps ms (turn f) u k
  over_turn f u k over = over_named f (turn f) u k (same_back f (turn f) (turned_corners f)) (side-turn ps f) over

  module _ (mesh : IsArenaMesh slots) (now : IsLowestMesh lifts slots ps ms) where
    -- a face of a slot with all corners of another face is that face
    pub one_place : (u k l : ℕ) → IsLive slots u → k < 4 → ((x : _) → OnFace slots u l x → OnFace slots u k x) → k ≡ l
    one_place u k l live k4 on = elim (cases_eq k l) [
      | inl same ↦ same
      | inr other ↦ let m = on (corner slots u k) (record { place = k; within = k4; off = other; is = refl }) in absurd (m.off (mesh.differ u m.place k live m.within k4 m.is))
    ]

    -- one slot is over a face
    pub over_once : (f : Face) (u k v l : ℕ) → IsOver lifts slots ps ms f u k → IsOver lifts slots ps ms f v l → u ≡ v
    over_once f u k v l (row_over t slot k4 same face) (row_over r other l4 same' face') = one_slot lifts slots ps ms mesh now u v t r slot other (law_one_row lifts ps ms now.within f slot.row other.row slot.is_row face other.is_row face')
    over_once f u k v l (row_over t slot k4 same face) (ghost_over r other same' hull) = absurd (not_before lifts ps ms f slot.row hull slot.is_row face)
    over_once f u k v l (ghost_over t slot same hull) (row_over r other l4 same' face) = absurd (not_before lifts ps ms f other.row hull other.is_row face)
    over_once f u k v l (ghost_over t slot same hull) (ghost_over r other same' hull') = now.one_ghost u v t r k l slot other (same_then (face_off t k) f (face_off r l) (same_back f (face_off t k) same) same')

    -- behind the face stands what is on its other side
    pub over_across : (f : Face) (u k : ℕ) (b : SlotFace) → IsOver lifts slots ps ms f u k → link_behind slots u k ≡ Some b → IsOver lifts slots ps ms (reversed f) b.slot b.face
    over_across f u k b over is = by over (behind lifts slots ps ms mesh now u k f b (over_shows f u k over) is)
      where
        b4 : b.face < 4
        b4 = (side_live slots b.slot b.face (at u k) mesh.shaped (mesh.back u k b is)).1

        same_behind : (t : Row) → HasSameFaceCorners f (face_off t b.face) → HasSameFaceCorners (reversed f) (face_off t b.face)
        same_behind t same = same_then (reversed f) f (face_off t b.face) (same_reversed f) same

        by : IsOver lifts slots ps ms f u k → ((t : Row) × IsLowestRowSlot lifts slots ps ms b.slot t × HasSameFaceCorners f (face_off t b.face)) ⊎ ((t : Row) × IsLowestGhostSlot lifts slots ps ms b.slot t b.face × HasSameFaceCorners f (face_off t b.face)) → IsOver lifts slots ps ms (reversed f) b.slot b.face
        by (row_over t slot k4 same face) (inl row) =
            let d = distinct ps (beside f face.opposite) face.over in
            elim (row_beside ps row.0 row.1.row b.face f b4 (record { ab = d A B tt; ac = d A C tt; bc = d B C tt }) row.1.is_positive row.1.same_corners row.2) [
              | inl before ↦ absurd (mesh.apart u k b is (one_slot lifts slots ps ms mesh now b.slot u row.0 t row.1 slot (law_one_row lifts ps ms now.within f row.1.row slot.row row.1.is_row before slot.is_row face)))
              | inr after ↦ row_over row.0 row.1 b4 (same_behind row.0 row.2) after
            ]
        by (row_over t slot k4 same face) (inr ghost) =
            let d = distinct ps (beside f face.opposite) face.over in
            let g = face_off ghost.0 b.face in
            elim (faces_agree ps f g (record { ab = d A B tt; ac = d A C tt; bc = d B C tt }) ghost.2) [
              | inl agree ↦ absurd (ghost.1.is_hull.none_beyond face.opposite (opposite_in lifts ps ms f slot.row slot.is_row face) (subst (λ z. pos 0 <ℤ z) (agree face.opposite) face.over))
              | inr agree ↦ ghost_over ghost.0 ghost.1 (same_behind ghost.0 ghost.2) (hull_named lifts ps ms (reversed f) g (same_behind ghost.0 ghost.2) (λ o. side_of-reversed ps f o ∙ ap neg_ℤ (agree o) ∙ neg_ℤ-neg_ℤ (side_of ps g o)) ghost.1.is_hull)
            ]
        by (ghost_over t slot same hull) (inl row) = elim (row_beside ps row.0 row.1.row b.face f b4 (hull_apart lifts ps ms f hull) row.1.is_positive row.1.same_corners row.2) [
          | inl before ↦ absurd (not_before lifts ps ms f row.1.row hull row.1.is_row before)
          | inr after ↦ row_over row.0 row.1 b4 (same_behind row.0 row.2) after
        ]
        by (ghost_over t slot same hull) (inr ghost) = absurd (mesh.apart u k b is (now.one_ghost b.slot u ghost.0 t b.face k ghost.1 slot (same_then (face_off ghost.0 b.face) f (face_off t k) (same_back f (face_off ghost.0 b.face) ghost.2) same)))

    module _ (p : ℕ) (new : IsNew ps ms p) where
      -- the slot over a face is taken where a place of the cavity is there
      pub cavity_taken : (f : Face) (u k : ℕ) → IsOver lifts slots ps ms f u k → IsLowestCavityPlace lifts ps ms p f → IsLowestTaken lifts slots ps p u
      cavity_taken f u k (row_over t slot k4 same face) (cavity_row r row before not) =
          let one = law_one_row lifts ps ms now.within f r slot.row row before slot.is_row face in
          taken_at lifts slots ps ms mesh now p new (row_place r) (row_in r row not) u (t, slot, sym one)
      cavity_taken f u k (row_over t slot k4 same face) (cavity_ghost hull sees) = absurd (not_before lifts ps ms f slot.row hull slot.is_row face)
      cavity_taken f u k (ghost_over t slot same hull) (cavity_row r row before not) = absurd (not_before lifts ps ms f r hull row before)
      cavity_taken f u k (ghost_over t slot same hull) (cavity_ghost seen sees) = taken_at lifts slots ps ms mesh now p new (ghost_place f) (ghost_in f seen sees) u (t, k, slot, same_back f (face_off t k) same, seen)

      pub taken_cavity : (f : Face) (u k : ℕ) → IsOver lifts slots ps ms f u k → IsLowestTaken lifts slots ps p u → IsLowestCavityPlace lifts ps ms p f
      taken_cavity f u k (row_over t slot k4 same face) taken = cavity_row slot.row slot.is_row face ((taken_row lifts slots ps ms p new u t slot).0 taken)
      taken_cavity f u k (ghost_over t slot same hull) taken = cavity_ghost hull (sees_same lifts slots ps ms mesh now p new (face_off t k) f (same_back f (face_off t k) same) slot.is_hull hull ((taken_sees lifts slots ps ms p new mesh now u k t slot).0 taken))

      -- and not where a clear one is
      pub clear_not_taken : (f : Face) (u k : ℕ) → IsOver lifts slots ps ms f u k → IsLowestClearPlace lifts ps ms p f → IsLowestTaken lifts slots ps p u → ⊥
      clear_not_taken f u k over clear taken = (law_place lifts ps ms p new).exclusive f (taken_cavity f u k over taken) clear

      pub clear_of_not : (f : Face) (u k : ℕ) → IsOver lifts slots ps ms f u k → (IsLowestTaken lifts slots ps p u → ⊥) → IsLowestClearPlace lifts ps ms p f
      clear_of_not f u k over not = elim (decided over) [ inl cavity ↦ absurd (not (cavity_taken f u k over cavity)) | inr clear ↦ clear ]
        where
          decided : IsOver lifts slots ps ms f u k → IsLowestCavityPlace lifts ps ms p f ⊎ IsLowestClearPlace lifts ps ms p f
          decided (row_over t slot k4 same face) = (law_place lifts ps ms p new).decided f slot.row slot.is_row (inl face)
          decided (ghost_over t slot same hull) = (law_place lifts ps ms p new).decided f hull.behind hull.is_row (inr hull.is_face)

      -- a clear place has a slot
      pub clear_slot : (f : Face) → IsLowestClearPlace lifts ps ms p f → (u : ℕ) × (k : ℕ) × IsOver lifts slots ps ms f u k
      clear_slot f (clear_row r row face outside) =
          let s = now.rows r row in
          let face_of : IsFaceOf ps f s.2.row = subst (λ (q : Row). IsFaceOf ps f q) (sym s.3) face in
          let at_place = place_of_face ps s.1 s.2.row f s.2.is_positive s.2.same_corners face_of in
          (s.0, at_place.0, row_over s.1 s.2 at_place.1 at_place.2 face_of)
      clear_slot f (clear_ghost hull not) = let s = now.ghosts f hull in (s.0, s.2, ghost_over s.1 s.3 (same_back (face_off s.1 s.2) f s.4) hull)

      -- a rim face is one between a slot that is taken and one that isn't
      pub rim_face : (f : Face) (u k : ℕ) (b : SlotFace) → IsOver lifts slots ps ms (reversed f) u k → link_behind slots u k ≡ Some b → (IsLowestTaken lifts slots ps p u → ⊥) → IsLowestTaken lifts slots ps p b.slot → IsLowestRimFace lifts ps ms p f
      rim_face f u k b over is not taken = record {
        cavity = taken_cavity f b.slot b.face (over_across (reversed f) u k b over is) taken;
        clear = clear_of_not (reversed f) u k over not;
      }
