-- Where a point lies, as point location tells it, is where the search finds all that the point takes. It takes nothing where it doesn't take that.
use Rattle.std.proofs.Common.{◌≡◌, ◌⊎◌, inl, inr, ℕ, ◌<◌, pos, ◌<ℤ◌, ◌≤ℤ◌, List, get_or, set, Option, refl, sym, ap, subst, ◌∙◌, arith, ℤ}
use Rattle.std.proofs.lemmas.List.{get_or-set_same}
use Rattle.sign_predicates.specs.Point.{Point, RationalPoint, as_rational}
use Rattle.sign_predicates.specs.Orientation.{InClosed, side_rational}
use Rattle.geo_laws.specs.Delaunay.{point, corners}
use Rattle.geo_laws.specs.declared.tetrahedra.Tet.{Tet as Row}
use Rattle.geo_laws.proofs.Places.{at_face, all_faces}
use Rattle.geo_laws.proofs.Arrangement.{IsEven}
use Rattle.insert_laws.specs.LowestInsertion.{IsNew, IsHidden}
use Rattle.insert_laws.proofs.LowestBridge.{even_of_same}
use Rattle.insert_laws.proofs.FacePencil.{side_of}
use Rattle.insert_laws.proofs.HiddenPoints.{law_hidden}
use Rattle.insert_laws.proofs.Sides.{above_or_not}
use Rattle.mesh_arena.specs.Mesh.{SlotValue, IsArenaMesh}
use Rattle.mesh_arena.specs.declared.slot.Corner.TheVariants.{Ghost}
use Rattle.point_locate.specs.Place.{IsAt, IsInside, IsBeyond, row_corners}
use Rattle.point_locate.specs.declared.walk.Place.TheVariants.{Inside, Beyond}
use Rattle.mesh_laws.specs.LowestLiving.{face_off, IsLowestRowSlot, IsLowestGhostSlot, IsLowestMesh}
use Rattle.mesh_laws.specs.LowestLaws.{IsLowestWholeFrom, LowestCavityLaw, HiddenPointLaw}
use Rattle.mesh_laws.proofs.LowestTaken.{no_ghost, same_corners}
use Rattle.mesh_laws.proofs.LowestRows.{same_row, taken_row}
use Rattle.mesh_laws.proofs.Seen.{ghost_volume, taken_sees}
use Rattle.mesh_laws.specs.LowestRule.{IsLowestTaken}
use Rattle.mesh_laws.proofs.LowestReplacedLists.{with_hidden}
use Rattle.mesh_laws.proofs.Reached.{reached_inside, reached_beyond}

-- an even permutation holds the same points
pub closed_even : (ps : List Point) (t r : Row) (x : RationalPoint) → IsEven ps t r → InClosed (corners ps t) x → InClosed (corners ps r) x
closed_even ps t r x even holds = all_faces (λ f. pos 0 ≤ℤ side_rational f x) (corners ps r) (λ u. subst (λ z. pos 0 ≤ℤ z) (sym (even.side_is u x)) (at_face (λ f. pos 0 ≤ℤ side_rational f x) (corners ps t) holds (even.to u)))

module _ (lifts : ℕ → ℤ) (slots : List (Option SlotValue)) (ps : List Point) (ms : List ℕ) (p : ℕ) (mesh : IsArenaMesh slots) (now : IsLowestMesh lifts slots ps ms) (new : IsNew ps ms p) where
  infinite_at : (t : Row) (k : ℕ) → k < 4 → get_or (set (row_corners t) k Ghost) k Ghost ≡ Ghost
  infinite_at t k k4 = get_or-set_same (row_corners t) k Ghost Ghost (omega arith)

  -- the slot is that of a lowest row that holds the point
  pub row_round : (s : ℕ) → IsAt slots (IsInside ps (point ps p)) s → (t : Row) × (slot : IsLowestRowSlot lifts slots ps ms s t) × InClosed (corners ps slot.row) (as_rational (point ps p))
  row_round s here = by (now.each s (rw here.is refl))
    where
      by : ((t : Row) × IsLowestRowSlot lifts slots ps ms s t) ⊎ ((t : Row) × (k : ℕ) × IsLowestGhostSlot lifts slots ps ms s t k) → (t : Row) × (slot : IsLowestRowSlot lifts slots ps ms s t) × InClosed (corners ps slot.row) (as_rational (point ps p))
      by (inl row) =
          let slot = row.1 in
          let same : here.here.row ≡ row.0 = same_row here.here.row row.0 (sym here.here.is ∙ same_corners slots s _ _ here.is slot.is) in
          let holds = closed_even ps row.0 slot.row (as_rational (point ps p)) (even_of_same ps row.0 slot.row slot.is_positive slot.is_row.is_positive slot.is_row.is_arranged slot.same_corners) (subst (λ (t : Row). InClosed (corners ps t) (as_rational (point ps p))) same here.here.holds) in
          (row.0, slot, holds)
      by (inr ghost) =
          let k4 = ghost.2.within in
          absurd (no_ghost here.here.row ghost.1 k4 (ap (λ cs. get_or cs ghost.1 Ghost) (sym here.here.is ∙ same_corners slots s _ _ here.is ghost.2.is) ∙ infinite_at ghost.0 ghost.1 k4))

  whole_inside : (s : ℕ) → IsAt slots (IsInside ps (point ps p)) s → IsLowestTaken lifts slots ps p s → IsLowestWholeFrom lifts slots ps p s
  whole_inside s here taken =
      let row = row_round s here in
      record { takes_start = taken; all = reached_inside lifts slots ps ms mesh now p new s row.0 row.1 row.2 ((taken_row lifts slots ps ms p new s row.0 row.1).0 taken) }

  -- a row that holds the point and is not taken hides it
  hidden_inside : (s : ℕ) → IsAt slots (IsInside ps (point ps p)) s → ¬ IsLowestTaken lifts slots ps p s → IsHidden lifts ps ms p
  hidden_inside s here not = by (row_round s here)
    where
      by : (t : Row) × (slot : IsLowestRowSlot lifts slots ps ms s t) × InClosed (corners ps slot.row) (as_rational (point ps p)) → IsHidden lifts ps ms p
      by row = elim (above_or_not lifts ps row.1.row p) [
        | inl above ↦ law_hidden lifts ps ms p new row.1.row row.1.is_row row.2 above
        | inr below ↦ absurd (not ((taken_row lifts slots ps ms p new s row.0 row.1).1 below))
      ]

  pub whole_beyond : (s : ℕ) → IsAt slots (IsBeyond ps (point ps p)) s → IsLowestWholeFrom lifts slots ps p s
  whole_beyond s here = by (now.each s (rw here.is refl))
    where
      by : ((t : Row) × IsLowestRowSlot lifts slots ps ms s t) ⊎ ((t : Row) × (k : ℕ) × IsLowestGhostSlot lifts slots ps ms s t k) → IsLowestWholeFrom lifts slots ps p s
      by (inl row) = absurd (no_ghost row.0 here.here.place here.here.within (ap (λ cs. get_or cs here.here.place Ghost) (same_corners slots s _ _ row.1.is here.is) ∙ here.here.infinite))
      by (inr ghost) =
          let slot = ghost.2 in
          let same = same_corners slots s _ _ slot.is here.is in
          let over : pos 0 <ℤ side_of ps (face_off ghost.0 ghost.1) p = subst (λ z. pos 0 <ℤ z) (ghost_volume ps p ghost.0 ghost.1 here.here.ghost slot.within (same ∙ here.here.is)) here.here.sees in
          record { takes_start = (taken_sees lifts slots ps ms p new mesh now s ghost.1 ghost.0 slot).1 (inl over); all = reached_beyond lifts slots ps ms mesh now p new s ghost.1 ghost.0 slot over }

pub law_cavity : LowestCavityLaw
law_cavity lifts slots ps ms p mesh now new (Inside s) here taken = whole_inside lifts slots ps ms p mesh now new s.index here taken
law_cavity lifts slots ps ms p mesh now new (Beyond s) here taken = whole_beyond lifts slots ps ms p mesh now new s.index here

pub law_hidden_point : HiddenPointLaw
law_hidden_point lifts slots ps ms p mesh now new (Inside s) here not = with_hidden lifts slots ps ms p new (hidden_inside lifts slots ps ms p mesh now new s.index here not) now
law_hidden_point lifts slots ps ms p mesh now new (Beyond s) here not = absurd (not (whole_beyond lifts slots ps ms p mesh now new s.index here).takes_start)
