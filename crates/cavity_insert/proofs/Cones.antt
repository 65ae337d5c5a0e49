-- What a walk round a point tells of its sides.
use Rattle.std.proofs.Common.{◌≡◌, ◌≢◌, ◌↔◌, ℕ, ◌<◌, pos, ◌≤ℤ◌, Bool, true, List, Option, Some, refl, sym, ap, subst, ◌∙◌}
use Rattle.std.specs.Prelude.{IsTrue, slice_index_or}
use Rattle.sign_predicates.specs.Point.{Point}
use Rattle.sign_predicates.specs.Orientation.{side, opposite_face}
use Rattle.sign_predicates.specs.declared.tetrahedron.Corners.{Corners}
use Rattle.geo_laws.specs.Delaunay.{point, corners, numbers, all_numbers, has_corner}
use Rattle.geo_laws.specs.declared.tetrahedra.Tet.{Tet as Row}
use Rattle.insert_laws.proofs.Cone.{law_cone}
use Rattle.mesh_arena.specs.Mesh.{SlotValue, corners_at, corner_list, IsArenaMesh}
use Rattle.mesh_arena.specs.declared.slot.Corner.{Corner}
use Rattle.mesh_arena.specs.declared.slot.SlotCorners.{SlotCorners}
use Rattle.point_locate.specs.Place.{row_corners, AreOn}
use Rattle.mesh_laws.specs.Living.{IsDelaunayMesh}
use Rattle.mesh_laws.proofs.Placed.{law_placed}
use Rattle.cavity_insert.specs.Living.{IsDelaunaySide, HasBoth}
use Rattle.cavity_insert.specs.Sides.{HasInCone}
use Rattle.cavity_insert.proofs.SlotRows.{slot_of_row}
use Rattle.cavity_insert.proofs.SlotSides.{corner_found, both_in_row, side_of_slot}

-- a row with the corner a, none of whose faces there b is strictly beyond
pub row_answers : (ps : List Point) (r : Row) (a b : ℕ) (p : Point) (q : Corners) (is : Bool) → has_corner r a ≡ true → p ≡ point ps b → q ≡ corners ps r
    → ((k : ℕ) → k < 4 → slice_index_or (numbers r) k a ≢ a → pos 0 ≤ℤ side (opposite_face q k) p) → is ≡ has_corner r b
    → HasInCone ps (row_corners r) a b × (IsTrue is ↔ HasBoth (row_corners r) a b)
row_answers ps r a b p q is first p_is q_is holds answer = (
  record { row = r; is = refl; first = corner_found r a first; holds = λ k k4 d. subst (λ x. pos 0 ≤ℤ x) (λ j. side (opposite_face (q_is j) k) (p_is j)) (holds k k4 d) },
  (λ h. record { four = r; is = refl; first = corner_found r a first; second = corner_found r b (sym answer ∙ h) }, λ both. answer ∙ (both_in_row (row_corners r) r a b refl both).1),
)

module _ (slots : List (Option SlotValue)) (ps : List Point) (now : IsDelaunayMesh slots ps (all_numbers ps)) (s : ℕ) where
  -- the corners of a slot are points
  pub slot_on : (t : SlotCorners) → IsArenaMesh slots → corners_at slots s ≡ Some (corner_list t) → AreOn ps (corner_list t)
  slot_on t mesh e = law_placed.corners slots ps (all_numbers ps) mesh now s (corner_list t) e

  -- a slot with b in its cone from a answers for all
  pub slot_answers : (cs : List Corner) (a b : ℕ) (is : Bool) → a ≢ b → corners_at slots s ≡ Some cs → HasInCone ps cs a b → (IsTrue is ↔ HasBoth cs a b) → IsTrue is ↔ IsDelaunaySide ps a b
  slot_answers cs a b is apart e cone answer = (λ h. side_of_slot slots ps now a b s apart (record { corners = cs; is = e; here = answer.0 h }), from)
    where
      from : IsDelaunaySide ps a b → IsTrue is
      from h =
          let slot = slot_of_row slots ps (all_numbers ps) now s cone.row (e ∙ ap Some cone.is) in
          let second = law_cone ps (all_numbers ps) now.within h.row slot.row cone.row h.is_row slot.is_row slot.same_corners slot.is_positive a b apart cone.first cone.holds h.first h.second in
          answer.1 (record { four = cone.row; is = cone.is; first = cone.first; second = second })
