-- The rows of a mesh's slots are its list of lowest tetrahedra; in a regular mesh of all points they are the regular list.
use Rattle.std.proofs.Common.{◌≡◌, ◌≢◌, ◌⊎◌, inl, inr, ℕ, List, length, Option, Some, refl, sym, ap, subst, ◌∙◌, arith, ℤ}
use Rattle.std.specs.Prelude.{All, Contains, IsSome}
use Rattle.sign_predicates.specs.Point.{Point}
use Rattle.sign_predicates.specs.Orientation.{IsPositive}
use Rattle.geo_laws.specs.Arrangement.{IsEvenOf, HasLeastFirst, HasLeastSecond}
use Rattle.geo_laws.specs.Delaunay.{corners, all_numbers, IsOn, IsArranged}
use Rattle.weighted_mesh.specs.Regular.{weighted_lift, IsRegularList}
use Rattle.weighted_mesh.proofs.Weighted.{law_regular_row}
use Rattle.std.specs.List.{slice_index_or}
use Rattle.std.proofs.lemmas.List.Elements.{Contains-get_or}
use Rattle.geo_laws.specs.Height.{IsLowestAmong}
use Rattle.geo_laws.specs.declared.tetrahedra.Tet.{Tet as Row}
use Rattle.geo_laws.proofs.Arrangement.{even_of, even_positive}
use Rattle.geo_laws.proofs.Arrangement as arrangement
use Rattle.geo_laws.proofs.Corners.{distinct, on_of_among, all_within}
use Rattle.sign_predicates.proofs.Places.{A, B, C, D}
use Rattle.insert_laws.proofs.LowestBridge.{same_of_even, corner_to, corner_from}
use Rattle.insert_laws.specs.LowestCover.{IsLowestListAmong}
use Rattle.cavity_insert.proofs.SlotRows.{slot_within}
use Rattle.mesh_arena.specs.Mesh.{SlotValue, corners_at, corner_in}
use Rattle.point_locate.specs.Place.{row_corners, IsAt}
use Rattle.mesh_laws.specs.LowestLiving.{IsLowestRowSlot, IsLowestGhostSlot, IsLowestMesh}
use Rattle.mesh_laws.proofs.LowestTaken.{no_ghost, same_corners}
use Rattle.mesh_laws.proofs.LowestRows.{same_row}
use Rattle.mesh_laws.proofs.LowestAcross.{infinite_corner}
use Rattle.cavity_insert.specs.Rows.{IsRowOf, AreRowsBelow, IsListOf, AreSortedRowsOf}

-- ---- even arrangements

-- a positive row whose least numbers stand first is arranged, since its numbers differ
arranged_of : (ps : List Point) (t : Row) → IsPositive (corners ps t) → HasLeastFirst t → HasLeastSecond t → IsArranged t
arranged_of ps t p first second =
    let ab : t.a ≢ t.b = distinct ps t p A B tt in
    let bc : t.b ≢ t.c = distinct ps t p B C tt in
    let bd : t.b ≢ t.d = distinct ps t p B D tt in
    record { first = omega arith; second = omega arith; second' = omega arith }

-- ---- the list

module _ (lifts : ℕ → ℤ) (slots : List (Option SlotValue)) (ps : List Point) (ms : List ℕ) (mesh : IsLowestMesh lifts slots ps ms) where
  -- the least even arrangement of a row slot's corners is its row
  row_is : (s : ℕ) (t row : Row) (slot : IsLowestRowSlot lifts slots ps ms s t) → IsRowOf (row_corners t) row → row ≡ slot.row
  row_is s t row slot is =
      let even : IsEvenOf t row = subst (λ (z : Row). IsEvenOf z row) (same_row is.four t (sym is.is)) is.even in
      let positive : IsPositive (corners ps row) = even_positive ps t row (even_of ps t row even) slot.is_positive in
      let same = same_of_even ps t row (even_of ps t row even) in
      arrangement.same_row ps row slot.row positive slot.is_row.is_positive (arranged_of ps row positive is.first is.second) slot.is_row.is_arranged
      (λ i c. corner_to t slot.row slot.same_corners i (corner_from t row same i c))
      (λ i c. corner_to t row same i (corner_from t slot.row slot.same_corners i c))

  -- a slot of a tetrahedron of points is the slot of a row
  pub slot_of_row : (s : ℕ) (t : Row) → corners_at slots s ≡ Some (row_corners t) → IsLowestRowSlot lifts slots ps ms s t
  slot_of_row s t e = by (mesh.each s (subst IsSome (sym e) refl))
    where
      by : ((u : Row) × IsLowestRowSlot lifts slots ps ms s u) ⊎ ((u : Row) × (k : ℕ) × IsLowestGhostSlot lifts slots ps ms s u k) → IsLowestRowSlot lifts slots ps ms s t
      by (inl slot) = subst (IsLowestRowSlot lifts slots ps ms s) (same_row slot.0 t (same_corners slots s (row_corners slot.0) (row_corners t) slot.1.is e)) slot.1
      by (inr ghost) = absurd (no_ghost t ghost.1 ghost.2.within (ap (λ o. corner_in o ghost.1) (sym e) ∙ infinite_corner lifts slots ps ms s ghost.1 ghost.0 ghost.2))

  lowest_at : (s : ℕ) (row : Row) → IsAt slots (λ cs. IsRowOf cs row) s → IsLowestAmong ps ms lifts row
  lowest_at s row at =
      let slot = slot_of_row s at.here.four (at.is ∙ ap Some at.here.is) in
      subst (IsLowestAmong ps ms lifts) (sym (row_is s at.here.four row slot (subst (λ cs. IsRowOf cs row) at.here.is at.here))) slot.is_row

  pub list_of_rows : (rows list : List Row) → AreRowsBelow slots rows (length slots) → IsListOf rows list → IsLowestListAmong lifts ps ms list
  list_of_rows rows list are listed =
      record {
        exactly = λ row. (λ c. to row (are.from row ((listed.exactly row).0 c)), λ d. (listed.exactly row).1 (from row (mesh.rows row d)));
        ascending = listed.ascending;
      }
    where
      to : (row : Row) → (s : ℕ) × IsAt slots (λ cs. IsRowOf cs row) s → IsLowestAmong ps ms lifts row
      to row at = lowest_at at.0 row at.1

      from : (row : Row) → (s : ℕ) × (t : Row) × (slot : IsLowestRowSlot lifts slots ps ms s t) × (slot.row ≡ row) → Contains rows row
      from row slot =
          let found = are.to slot.0 (slot_within slots slot.0 (row_corners slot.1) slot.2.is) slot.1 slot.2.is in
          subst (Contains rows) (row_is slot.0 slot.1 found.0 slot.2 found.2 ∙ slot.3) found.1

-- the regular list of a mesh
pub regular_list : (slots : List (Option SlotValue)) (ps : List Point) (ws : List ℤ) (list : List Row) → IsLowestMesh (weighted_lift ps ws) slots ps (all_numbers ps) → AreSortedRowsOf slots list → IsRegularList ps ws list
regular_list slots ps ws list mesh sorted =
    let lowest = list_of_rows (weighted_lift ps ws) slots ps (all_numbers ps) mesh sorted.rows list sorted.below sorted.listed in
    record {
      exactly = λ t. (
        λ c. (law_regular_row ps ws (all_numbers ps) (all_within ps) t).1 ((lowest.exactly t).0 c),
        λ d. (lowest.exactly t).1 ((law_regular_row ps ws (all_numbers ps) (all_within ps) t).0 d),
      );
      ascending = lowest.ascending;
    }

-- the numbers of each row are those of points
pub rows_on_points : (ps : List Point) (ws : List ℤ) (rows : List Row) → IsRegularList ps ws rows → All (IsOn ps) rows
rows_on_points ps ws rows are = λ k d h. on_of_among ps (all_numbers ps) (slice_index_or rows k d) (all_within ps) (((are.exactly (slice_index_or rows k d)).0 (Contains-get_or rows k d h)).is_on)
