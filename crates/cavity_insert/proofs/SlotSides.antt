-- A side of the Delaunay list is a side of a slot's row.
use Rattle.std.proofs.Common.{◌≡◌, ◌≢◌, ℕ, ◌<◌, List, length, Option, Some, refl, sym, ap, subst, ◌∙◌}
use Rattle.std.specs.Prelude.{Contains, ◌==◌, true}
use Rattle.std.proofs.lemmas.Bool.{eqb-true}
use Rattle.std.proofs.lemmas.Map.Views.{Contains-from_any}
use Rattle.sign_predicates.specs.Point.{Point}
use Rattle.geo_laws.specs.Delaunay.{numbers, all_numbers, has_corner}
use Rattle.geo_laws.specs.declared.tetrahedra.Tet.{Tet as Row}
use Rattle.geo_laws.proofs.Corners.{found}
use Rattle.mesh_arena.specs.Mesh.{SlotValue}
use Rattle.mesh_arena.specs.declared.slot.Corner.{Corner}
use Rattle.point_locate.specs.Place.{row_corners, IsAt}
use Rattle.mesh_laws.specs.Living.{IsRowSlot, IsDelaunayMesh}
use Rattle.mesh_laws.proofs.Rows.{same_row}
use Rattle.cavity_insert.specs.Living.{IsDelaunaySide, HasBoth}
use Rattle.cavity_insert.proofs.SlotRows.{slot_within, slot_of_row}

module _ (slots : List (Option SlotValue)) (ps : List Point) (mesh : IsDelaunayMesh slots ps (all_numbers ps)) (a b : ℕ) where
  -- a slot with both points tells of a side
  pub side_of_slot : (s : ℕ) → a ≢ b → IsAt slots (λ cs. HasBoth cs a b) s → IsDelaunaySide ps a b
  side_of_slot s apart at =
      let slot = slot_of_row slots ps (all_numbers ps) mesh s at.here.four (at.is ∙ ap Some at.here.is) in
      record { differ = apart; row = slot.row; is_row = slot.is_row; first = (slot.same_corners a).0 at.here.first; second = (slot.same_corners b).0 at.here.second }

  -- each side has a slot with both points
  pub slot_of_side : IsDelaunaySide ps a b → (s : ℕ) × (s < length slots) × IsAt slots (λ cs. HasBoth cs a b) s
  slot_of_side side = by (mesh.rows side.row side.is_row)
    where
      by : (s : ℕ) × (t : Row) × (slot : IsRowSlot slots ps (all_numbers ps) s t) × (slot.row ≡ side.row) → (s : ℕ) × (s < length slots) × IsAt slots (λ cs. HasBoth cs a b) s
      by found =
          let s = found.0 in
          let t = found.1 in
          let slot = found.2 in
          let corner = λ (i : ℕ) (c : Contains (numbers side.row) i). (slot.same_corners i).1 (subst (λ (r : Row). Contains (numbers r) i) (sym found.3) c) in (
            s,
            slot_within slots s (row_corners t) slot.is,
            record { corners = row_corners t; is = slot.is; here = record { four = t; is = refl; first = corner a side.first; second = corner b side.second } },
          )

-- ---- the corners of a slot

-- the test finds the corners of a row and no other number
pub corner_found : (t : Row) (i : ℕ) → has_corner t i ≡ true → Contains (numbers t) i
corner_found t i h = Contains-from_any {eq = λ x y. y == x} (λ x y e. sym (eqb-true y x e)) i (numbers t) h

-- a row with these corners has both points
pub both_in_row : (cs : List Corner) (t : Row) (a b : ℕ) → cs ≡ row_corners t → HasBoth cs a b → (has_corner t a ≡ true) × (has_corner t b ≡ true)
both_in_row cs t a b e both =
    let same : both.four ≡ t = same_row both.four t (sym both.is ∙ e) in
    (found (numbers t) a (subst (λ (r : Row). Contains (numbers r) a) same both.first), found (numbers t) b (subst (λ (r : Row). Contains (numbers r) b) same both.second))
