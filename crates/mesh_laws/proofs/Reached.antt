-- From a slot where the new point lies the search reaches each slot that the point takes.
use Rattle.std.proofs.Common.{◌≡◌, ◌⊎◌, inl, inr, ℕ, pos, ◌<ℤ◌, List, Option, refl, sym, subst, ◌∙◌, ℤ}
use Rattle.sign_predicates.specs.Point.{Point, as_rational}
use Rattle.sign_predicates.specs.Orientation.{InClosed, side as side_at}
use Rattle.geo_laws.specs.Delaunay.{point, corners}
use Rattle.geo_laws.specs.declared.tetrahedra.Tet.{Tet as Row}
use Rattle.geo_laws.specs.OrientedFace.{Face, triangle, reversed}
use Rattle.insert_laws.specs.LowestInsertion.{IsNew, HasAbove, LowestSees, IsFaceOf, IsLowestHullFace, edge_and, RowOrGhost, row_place, ghost_place, IsInLowestCavity, row_in, ghost_in, Touches, row_row, row_ghost, ghost_row, ghost_ghost, ghost_turned, AreLowestPlacesJoined, joined_self, joined_by}
use Rattle.insert_laws.proofs.FacePencil.{side_of, side_of-reversed}
use Rattle.insert_laws.proofs.LowestInsert.{law_one_row}
use Rattle.insert_laws.proofs.InsideLaw.{law_inside_cavity}
use Rattle.insert_laws.proofs.BeyondLaw.{law_beyond_cavity}
use Rattle.mesh_arena.specs.Mesh.{SlotValue, IsArenaMesh}
use Rattle.mesh_laws.specs.LowestRule.{IsLowestTaken}
use Rattle.mesh_laws.specs.Reach.{Reach, first, next}
use Rattle.mesh_laws.specs.LowestLiving.{face_off, HasSameFaceCorners, IsLowestRowSlot, IsLowestGhostSlot, IsLowestMesh}
use Rattle.mesh_laws.proofs.LowestFaces.{hull_apart, faces_agree}
use Rattle.mesh_laws.proofs.LowestTaken.{taken_live}
use Rattle.mesh_laws.proofs.LowestRows.{taken_row}
use Rattle.mesh_laws.proofs.Seen.{taken_sees}
use Rattle.mesh_laws.proofs.LowestJoined.{IsNextTo, same_then, same_back, hull_behind, opposite_in, one_slot, next_row, next_ghost, next_inner}
use Rattle.mesh_laws.proofs.NextHull.{next_hull, turned_corners}

-- two hull faces with the same corners have the same sides
pub hull_sides : (lifts : ℕ → ℤ) (ps : List Point) (ms : List ℕ) (f g : Face) → HasSameFaceCorners f g → IsLowestHullFace lifts ps ms f → IsLowestHullFace lifts ps ms g → (o : ℕ) → side_of ps f o ≡ side_of ps g o
hull_sides lifts ps ms f g same hf hg =
    elim (faces_agree ps f g (hull_apart lifts ps ms f hf) same) [
      | inl agree ↦ agree
      | inr agree ↦
          let o = hg.is_face.opposite in
          absurd (hf.none_beyond o (opposite_in lifts ps ms (reversed g) hg.behind hg.is_row hg.is_face) (subst (λ z. pos 0 <ℤ z) (side_of-reversed ps g o ∙ sym (agree o)) hg.is_face.over))
    ]

module _ (lifts : ℕ → ℤ) (slots : List (Option SlotValue)) (ps : List Point) (ms : List ℕ) where
  -- the slot is that of the place
  abbrev pub Stands : RowOrGhost → ℕ → Type 0
  Stands (row_place r) u = (t : Row) × (slot : IsLowestRowSlot lifts slots ps ms u t) × (slot.row ≡ r)
  Stands (ghost_place f) u = (t : Row) × (k : ℕ) × IsLowestGhostSlot lifts slots ps ms u t k × HasSameFaceCorners (face_off t k) f × IsLowestHullFace lifts ps ms f

  module _ (mesh : IsArenaMesh slots) (now : IsLowestMesh lifts slots ps ms) where
    stands_once : (a : RowOrGhost) (u v : ℕ) → Stands a u → Stands a v → u ≡ v
    stands_once (row_place r) u v x y = one_slot lifts slots ps ms mesh now u v x.0 y.0 x.1 y.1 (x.2 ∙ sym y.2)
    stands_once (ghost_place f) u v x y = now.one_ghost u v x.0 y.0 x.1 y.1 x.2 y.2 (same_then (face_off x.0 x.1) f (face_off y.0 y.1) x.3 (same_back (face_off y.0 y.1) f y.3))

    -- places that touch are of one slot, or of neighbors
    touching : (a b : RowOrGhost) → Touches ps a b → (u v : ℕ) → Stands a u → Stands b v → (u ≡ v) ⊎ IsNextTo lifts slots v u
    touching _ _ (row_row f s t behind before) u v x y = inr (next_row lifts slots ps ms mesh now v y.0 y.1 f (subst (IsFaceOf ps f) (sym y.2) before) u x.0 x.1 (subst (IsFaceOf ps (reversed f)) (sym x.2) behind))
    touching _ _ (row_ghost f t behind) u v x y = inr (next_inner lifts slots ps ms mesh now v y.1 y.0 y.2 f y.3 y.4 u x.0 x.1 (subst (IsFaceOf ps (reversed f)) (sym x.2) behind))
    touching _ _ (ghost_row f t behind) u v x y = inr (next_ghost lifts slots ps ms mesh now v y.0 y.1 (reversed f) (subst (IsFaceOf ps (reversed f)) (sym y.2) behind) u x.0 x.1 f x.2 x.4 x.3 refl)
    touching _ _ (ghost_ghost i j o q) u v x y = inr (next_hull lifts slots ps ms mesh now v u y.1 x.1 y.0 x.0 y.2 x.2 i j o q y.4 x.4 y.3 x.3)
    touching _ _ (ghost_turned i j o) u v x y = inl (now.one_ghost u v x.0 y.0 x.1 y.1 x.2 y.2 (same_then (face_off x.0 x.1) (edge_and i j o) (face_off y.0 y.1) x.3 (same_then (edge_and i j o) (edge_and j o i) (face_off y.0 y.1) (turned_corners (edge_and i j o)) (same_back (face_off y.0 y.1) (edge_and j o i) y.3))))

    module _ (p : ℕ) (new : IsNew ps ms p) where
      -- a place of the cavity has a slot
      standing : (a : RowOrGhost) → IsInLowestCavity lifts ps ms p a → (u : ℕ) × Stands a u
      standing _ (row_in r row not) = let s = now.rows r row in (s.0, (s.1, s.2, s.3))
      standing _ (ghost_in f hull sees) = let s = now.ghosts f hull in (s.0, (s.1, s.2, s.3, s.4, hull))

      -- p sees a hull face however it is named
      pub sees_same : (f g : Face) → HasSameFaceCorners f g → (hf : IsLowestHullFace lifts ps ms f) (hg : IsLowestHullFace lifts ps ms g) → LowestSees lifts ps p f hf.behind → LowestSees lifts ps p g hg.behind
      sees_same f g same hf hg = by
        where
          sides : side_of ps f p ≡ side_of ps g p
          sides = hull_sides lifts ps ms f g same hf hg p

          one : hf.behind ≡ hg.behind
          one = law_one_row lifts ps ms now.within (reversed g) hf.behind hg.behind hf.is_row (hull_behind lifts ps ms f g hf.behind same hf hg hf.is_row hf.is_face) hg.is_row hg.is_face

          by : LowestSees lifts ps p f hf.behind → LowestSees lifts ps p g hg.behind
          by (inl over) = inl (subst (λ z. pos 0 <ℤ z) sides over)
          by (inr level) = inr (sym sides ∙ level.0, subst (λ (q : Row). ¬ HasAbove lifts ps q p) one level.1)

      -- and the rule takes it
      pub taken_at : (a : RowOrGhost) → IsInLowestCavity lifts ps ms p a → (u : ℕ) → Stands a u → IsLowestTaken lifts slots ps p u
      taken_at _ (row_in r row not) u x = (taken_row lifts slots ps ms p new u x.0 x.1).1 (subst (λ (q : Row). ¬ HasAbove lifts ps q p) (sym x.2) not)
      taken_at _ (ghost_in f hull sees) u x = (taken_sees lifts slots ps ms p new mesh now u x.1 x.0 x.2).1 (sees_same f (face_off x.0 x.1) (same_back (face_off x.0 x.1) f x.3) hull x.2.is_hull sees)

      -- a slot that the rule takes is that of a place of the cavity
      pub place_of_taken : (u : ℕ) → IsLowestTaken lifts slots ps p u → (a : RowOrGhost) × Stands a u × IsInLowestCavity lifts ps ms p a
      place_of_taken u taken = by (now.each u (taken_live lifts slots ps p u taken))
        where
          by : ((t : Row) × IsLowestRowSlot lifts slots ps ms u t) ⊎ ((t : Row) × (k : ℕ) × IsLowestGhostSlot lifts slots ps ms u t k) → (a : RowOrGhost) × Stands a u × IsInLowestCavity lifts ps ms p a
          by (inl row) = (row_place row.1.row, (row.0, row.1, refl), row_in row.1.row row.1.is_row ((taken_row lifts slots ps ms p new u row.0 row.1).0 taken))
          by (inr ghost) = (ghost_place (face_off ghost.0 ghost.1), (ghost.0, ghost.1, ghost.2, (λ i. (λ c. c, λ c. c)), ghost.2.is_hull), ghost_in (face_off ghost.0 ghost.1) ghost.2.is_hull ((taken_sees lifts slots ps ms p new mesh now u ghost.1 ghost.0 ghost.2).0 taken))

      -- a chain of places is one of neighbors
      chained : (a c : RowOrGhost) → AreLowestPlacesJoined lifts ps ms p a c → (s : ℕ) → Stands c s → IsInLowestCavity lifts ps ms p a → (u : ℕ) → Stands a u → Reach slots (IsLowestTaken lifts slots ps p) s u
      chained _ _ (joined_self a) s at_end inside u x = subst (Reach slots (IsLowestTaken lifts slots ps p) s) (stands_once a s u at_end x) first
      chained _ _ (joined_by a b c touches b_in rest) s at_end inside u x =
          let v = standing b b_in in
          let reach = chained b c rest s at_end b_in v.0 v.1 in
          let taken = taken_at a inside u x in
          elim (touching a b touches u v.0 x v.1) [
            | inl same ↦ subst (Reach slots (IsLowestTaken lifts slots ps p) s) (sym same) reach
            | inr step ↦ subst (Reach slots (IsLowestTaken lifts slots ps p) s) step.there (next v.0 step.face step.over reach step.is (subst (IsLowestTaken lifts slots ps p) (sym step.there) taken))
          ]

      -- from the slot of a closed row that holds the point
      pub reached_inside : (s : ℕ) (t : Row) (slot : IsLowestRowSlot lifts slots ps ms s t) → InClosed (corners ps slot.row) (as_rational (point ps p)) → ¬ HasAbove lifts ps slot.row p → (u : ℕ) → IsLowestTaken lifts slots ps p u → Reach slots (IsLowestTaken lifts slots ps p) s u
      reached_inside s t slot holds not u taken =
          let x = place_of_taken u taken in
          chained x.0 (row_place slot.row) (law_inside_cavity lifts ps ms p new slot.row slot.is_row holds not x.0 x.2) s (t, slot, refl) x.2 u x.1

      -- from the ghost of a hull face that the point is strictly beyond
      pub reached_beyond : (s k : ℕ) (t : Row) (slot : IsLowestGhostSlot lifts slots ps ms s t k) → pos 0 <ℤ side_at (triangle ps (face_off t k)) (point ps p) → (u : ℕ) → IsLowestTaken lifts slots ps p u → Reach slots (IsLowestTaken lifts slots ps p) s u
      reached_beyond s k t slot over u taken =
          let x = place_of_taken u taken in
          chained x.0 (ghost_place (face_off t k)) (law_beyond_cavity lifts ps ms p new (face_off t k) slot.is_hull over x.0 x.2) s (t, k, slot, (λ i. (λ c. c, λ c. c)), slot.is_hull) x.2 u x.1
