-- The rows of a mesh's slots are its Delaunay list.
use Rattle.std.proofs.Common.{◌≡◌, ◌≢◌, ◌⊎◌, inl, inr, ℕ, ◌+◌, ◌<◌, ◌≤◌, List, [], ◌∷◌, ◌++◌, length, Option, Some, None, option_map, refl, sym, ap, subst, ◌∙◌, arith}
use Rattle.std.specs.Prelude.{Contains, IsSome}
use Rattle.std.proofs.lemmas.Bool.{cases_lt}
use Rattle.std.proofs.lemmas.List.{get_or_past}
use Rattle.std.proofs.lemmas.List.Elements.{Contains-append_left, Contains-push, Contains-push_cases}
use Rattle.sign_predicates.specs.Point.{Point}
use Rattle.sign_predicates.specs.Orientation.{IsPositive}
use Rattle.geo_laws.specs.Arrangement.{IsEvenOf, HasLeastFirst, HasLeastSecond}
use Rattle.geo_laws.specs.Delaunay.{corners, IsArranged, IsDelaunayAmong, IsDelaunayListAmong}
use Rattle.geo_laws.specs.declared.tetrahedra.Tet.{Tet as Row}
use Rattle.geo_laws.proofs.Arrangement.{even_of, even_positive}
use Rattle.geo_laws.proofs.Arrangement as arrangement
use Rattle.geo_laws.proofs.Corners.{distinct}
use Rattle.sign_predicates.proofs.Places.{A, B, C, D}
use Rattle.insert_laws.proofs.Bridge.{same_of_even, corner_to, corner_from}
use Rattle.mesh_arena.specs.Mesh.{SlotValue, corners_at, corner_in}
use Rattle.mesh_arena.specs.declared.slot.Corner.{Corner}
use Rattle.point_locate.specs.Place.{row_corners, IsAt}
use Rattle.mesh_laws.specs.Living.{IsRowSlot, IsGhostSlot, IsDelaunayMesh}
use Rattle.mesh_laws.proofs.Taken.{no_ghost, same_corners}
use Rattle.mesh_laws.proofs.Rows.{same_row}
use Rattle.mesh_laws.proofs.Across.{infinite_corner}
use Rattle.cavity_insert.specs.Rows.{IsRowOf, AreRowsBelow, IsListOf}

-- ---- even arrangements

-- a positive row whose least numbers stand first is arranged, since its numbers differ
arranged_of : (ps : List Point) (t : Row) → IsPositive (corners ps t) → HasLeastFirst t → HasLeastSecond t → IsArranged t
arranged_of ps t p first second =
    let ab : t.a ≢ t.b = distinct ps t p A B tt in
    let bc : t.b ≢ t.c = distinct ps t p B C tt in
    let bd : t.b ≢ t.d = distinct ps t p B D tt in
    record { first = omega arith; second = omega arith; second' = omega arith }

-- ---- the rows of the first slots

-- the next slot has no row
pub rows_pass : (slots : List (Option SlotValue)) (rows : List Row) (n : ℕ) → ((t : Row) → ¬ (corners_at slots n ≡ Some (row_corners t))) → AreRowsBelow slots rows n → AreRowsBelow slots rows (n + 1)
rows_pass slots rows n none before = record { from = before.from; to = λ s h t e. by s t e (cases_lt s n) h }
  where
    by : (s : ℕ) (t : Row) → corners_at slots s ≡ Some (row_corners t) → (s < n) ⊎ (n ≤ s) → s < n + 1 → (row : Row) × Contains rows row × IsRowOf (row_corners t) row
    by s t e (inl l) h = before.to s l t e
    by s t e (inr l) h = let here : s ≡ n = omega (arith, h, l) in absurd (none t (ap (corners_at slots) (sym here) ∙ e))

-- it has one
pub rows_more : (slots : List (Option SlotValue)) (rows : List Row) (n : ℕ) (row : Row) → IsAt slots (λ cs. IsRowOf cs row) n → AreRowsBelow slots rows n → AreRowsBelow slots (rows ++ row ∷ []) (n + 1)
rows_more slots rows n row at before = record { from = λ r h. from r (Contains-push_cases rows row r h); to = λ s h t e. by s t e (cases_lt s n) h }
  where
    from : (r : Row) → Contains rows r ⊎ (row ≡ r) → (s : ℕ) × IsAt slots (λ cs. IsRowOf cs r) s
    from r (inl c) = before.from r c
    from r (inr e) = (n, subst (λ (z : Row). IsAt slots (λ cs. IsRowOf cs z) n) e at)

    by : (s : ℕ) (t : Row) → corners_at slots s ≡ Some (row_corners t) → (s < n) ⊎ (n ≤ s) → s < n + 1 → (r : Row) × Contains (rows ++ row ∷ []) r × IsRowOf (row_corners t) r
    by s t e (inl l) h = let found = before.to s l t e in (found.0, Contains-append_left rows (row ∷ []) found.0 found.1, found.2)
    by s t e (inr l) h =
        let here : s ≡ n = omega (arith, h, l) in
        (row, Contains-push rows row, subst (λ cs. IsRowOf cs row) (same_corners slots n at.corners (row_corners t) at.is (ap (corners_at slots) (sym here) ∙ e)) at.here)

-- ---- the list

-- a slot of a row is below the end
pub slot_within : (slots : List (Option SlotValue)) (s : ℕ) (cs : List Corner) → corners_at slots s ≡ Some cs → s < length slots
slot_within slots s cs e = by (cases_lt s (length slots))
  where
    by : (s < length slots) ⊎ (length slots ≤ s) → s < length slots
    by (inl h) = h
    by (inr h) = let none = ap (option_map (λ (t : SlotValue). t.corners)) (get_or_past slots s None h) in absurd (cc (none, e))

module _ (slots : List (Option SlotValue)) (ps : List Point) (ms : List ℕ) (mesh : IsDelaunayMesh slots ps ms) where
  -- the least even arrangement of a row slot's corners is its row
  row_is : (s : ℕ) (t row : Row) (slot : IsRowSlot slots ps ms s t) → IsRowOf (row_corners t) row → row ≡ slot.row
  row_is s t row slot is =
      let even : IsEvenOf t row = subst (λ (z : Row). IsEvenOf z row) (same_row is.four t (sym is.is)) is.even in
      let positive : IsPositive (corners ps row) = even_positive ps t row (even_of ps t row even) slot.is_positive in
      let same = same_of_even ps t row (even_of ps t row even) in
      arrangement.same_row ps row slot.row positive slot.is_row.is_positive (arranged_of ps row positive is.first is.second) slot.is_row.is_arranged
      (λ i c. corner_to t slot.row slot.same_corners i (corner_from t row same i c))
      (λ i c. corner_to t row same i (corner_from t slot.row slot.same_corners i c))

  -- a slot of a tetrahedron of points is the slot of a row
  pub slot_of_row : (s : ℕ) (t : Row) → corners_at slots s ≡ Some (row_corners t) → IsRowSlot slots ps ms s t
  slot_of_row s t e = by (mesh.each s (subst IsSome (sym e) refl))
    where
      by : ((u : Row) × IsRowSlot slots ps ms s u) ⊎ ((u : Row) × (k : ℕ) × IsGhostSlot slots ps ms s u k) → IsRowSlot slots ps ms s t
      by (inl slot) = subst (IsRowSlot slots ps ms s) (same_row slot.0 t (same_corners slots s (row_corners slot.0) (row_corners t) slot.1.is e)) slot.1
      by (inr ghost) = absurd (no_ghost t ghost.1 ghost.2.within (ap (λ o. corner_in o ghost.1) (sym e) ∙ infinite_corner slots ps ms s ghost.1 ghost.0 ghost.2))

  delaunay_of : (s : ℕ) (row : Row) → IsAt slots (λ cs. IsRowOf cs row) s → IsDelaunayAmong ps ms row
  delaunay_of s row at =
      let slot = slot_of_row s at.here.four (at.is ∙ ap Some at.here.is) in
      subst (IsDelaunayAmong ps ms) (sym (row_is s at.here.four row slot (subst (λ cs. IsRowOf cs row) at.here.is at.here))) slot.is_row

  pub list_of_rows : (rows list : List Row) → AreRowsBelow slots rows (length slots) → IsListOf rows list → IsDelaunayListAmong ps ms list
  list_of_rows rows list are listed =
      record {
        exactly = λ row. (λ c. to row (are.from row ((listed.exactly row).0 c)), λ d. (listed.exactly row).1 (from row (mesh.rows row d)));
        ascending = listed.ascending;
      }
    where
      to : (row : Row) → (s : ℕ) × IsAt slots (λ cs. IsRowOf cs row) s → IsDelaunayAmong ps ms row
      to row at = delaunay_of at.0 row at.1

      from : (row : Row) → (s : ℕ) × (t : Row) × (slot : IsRowSlot slots ps ms s t) × (slot.row ≡ row) → Contains rows row
      from row slot =
          let found = are.to slot.0 (slot_within slots slot.0 (row_corners slot.1) slot.2.is) slot.1 slot.2.is in
          subst (Contains rows) (row_is slot.0 slot.1 found.0 slot.2 found.2 ∙ slot.3) found.1
