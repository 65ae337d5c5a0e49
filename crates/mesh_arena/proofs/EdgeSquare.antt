-- How a square of edges keeps what was met in its round.
use Rattle.std.proofs.Common.{◌≡◌, ◌≢◌, ◌⊎◌, ℕ, ◌+◌, ◌*◌, ◌/◌, ◌%◌, min, max, ◌<◌, ◌≤◌, ◌++◌, [], ◌∷◌, List, length, get_or, set, Option, Some, None, refl, sym, ap, subst, ◌∙◌, inl, inr, arith, cond}
use Rattle.std.proofs.lemmas.Bool.{cases_eq, cases_lt, ne_eqb, eq-eqb}
use Rattle.std.proofs.lemmas.List.{map-set, get_or-map, get_or-set_same, get_or-set_other, get_or_past, get_or_append_left, length-map, length-set, length-append}
use Rattle.std.proofs.lemmas.Option.{none-some, same_Some, slice_get_within, slice_get-get_or}
use Rattle.std.proofs.lemmas.List.Elements.{All-set}
use Rattle.std.specs.List.{All}
use Rattle.std.specs.Prelude.{slice_get}
use Rattle.mesh_arena.specs.declared.arena.SlotFace.{SlotFace}
use Rattle.mesh_arena.specs.declared.edge.Edge.{Edge}
use Rattle.mesh_arena.specs.declared.edge.End.{End}
use Rattle.mesh_arena.specs.declared.edge.Ends.{Ends}
use Rattle.mesh_arena.specs.declared.square.MetFace.{MetFace}
use Rattle.mesh_arena.specs.Edges.{edge_of, square_place, SquareValue, met_face, faces_in, IsSquare, IsInSquare, IsRowEnd, KeepsRows, MeetsNone, AddsNone, AddsOnly}

abbrev face_at : MetFace → SlotFace
face_at m = record { slot = m.slot; face = m.face }

-- what is of another round counts as nothing
not_now : (round : ℕ) (m : MetFace) → m.round ≢ round → met_face round m ≡ None
not_now round m differ = ap (λ b. cond b (Some (face_at m)) None) (ne_eqb m.round round differ)

now : (round : ℕ) (m : MetFace) → m.round ≡ round → met_face round m ≡ Some (face_at m)
now round m same = ap (λ b. cond b (Some (face_at m)) None) (eq-eqb m.round round same)

read : (met : List MetFace) (round k : ℕ) (d : MetFace) → k < length met → get_or (faces_in met round) k None ≡ met_face round (get_or met k d)
read met round k d lt = get_or-map (met_face round) met k d None lt

-- what was met stands in the square
within : (met : List MetFace) (round k : ℕ) (s : SlotFace) → get_or (faces_in met round) k None ≡ Some s → k < length met
within met round k s is =
    elim (cases_lt k (length met)) [
      | inl lt ↦ lt
      | inr past ↦ absurd (none-some s (sym (get_or_past (faces_in met round) k None (omega (arith, length-map met (met_face round)))) ∙ is))
    ]

-- where no place is of this round no rows are needed
pub IsSquare-others : (met : List MetFace) (round : ℕ) (rows : List ℕ) → 0 < round → length met ≤ 4096 → All (λ m. m.round ≤ round) met → All (λ m. m.round ≢ round) met → IsSquare met round rows
IsSquare-others met round rows some few all others =
    record {
      some = some;
      all = all;
      few = few;
      between = λ row last s _ is.
          let never : MetFace = record { slot = 0; round = 0; face = 0 } in
          let lt = within met round (square_place row last) s is in
          absurd (none-some s (sym (not_now round _ (others (square_place row last) never lt)) ∙ sym (read met round (square_place row last) never lt) ∙ is));
    }

-- without rows no place is of this round
pub others-IsSquare : (met : List MetFace) (round : ℕ) → IsSquare met round [] → All (λ m. m.round ≢ round) met
others-IsSquare met round square k d lt same =
    let split : k ≡ (k / 64) * 64 + k % 64 = omega arith in
    let there : get_or (faces_in met round) ((k / 64) * 64 + k % 64) None ≡ Some (face_at (get_or met k d)) =
    subst (λ n. get_or (faces_in met round) n None ≡ Some (face_at (get_or met k d))) split (read met round k d lt ∙ now round (get_or met k d) same) in
    omega (arith, square.between (k / 64) (k % 64) _ (omega arith) there)

-- without rows no edge was met
pub MeetsNone-square : (square : SquareValue) → square.rows ≡ [] → MeetsNone (IsInSquare square)
MeetsNone-square square empty e s is_in =
    let lt = slice_get_within square.rows is_in.row is_in.first is_in.is_first in
    omega (arith, lt, ap length empty)

-- a row tells its number
number_in : (rows : List ℕ) (row n : ℕ) (end : End) → IsRowEnd rows end → end.row < 64 → row ≡ end.row → slice_get rows row ≡ Some n → n ≡ end.number
number_in rows row n end is_end lt same has = same_Some _ _ (sym has ∙ ap (slice_get rows) same ∙ is_end.has lt)

abbrev square_of : List MetFace → ℕ → List ℕ → SquareValue
square_of met round rows = record { rows = rows; faces = faces_in met round }

pub turned : (a b : ℕ) → edge_of a b ≡ edge_of b a
turned a b =
    let low : min a b ≡ min b a = omega arith in
    let high : max a b ≡ max b a = omega arith in
    ap (λ n. record { low = n; high = max a b }) low ∙ ap (λ n. record { low = min b a; high = n }) high

module _ (met : List MetFace) (round : ℕ) (rows : List ℕ) (ends : Ends) (one : IsRowEnd rows ends.one) (other : IsRowEnd rows ends.other) (one_lt : ends.one.row < 64) (other_lt : ends.other.row < 64) (place : ℕ) (is_place : place ≡ square_place ends.one.row ends.other.row) (inside : place < length met) where
  -- a place that has this edge, in this direction
  pub IsInSquare-read : (m : MetFace) → m ≡ get_or met place m → m.round ≡ round
      → IsInSquare (square_of met round rows) (edge_of ends.one.number ends.other.number) (face_at m)
  IsInSquare-read m is same =
      record {
        row = ends.one.row;
        other_row = ends.other.row;
        below = one_lt;
        other_below = other_lt;
        first = ends.one.number;
        second = ends.other.number;
        is_first = one.has one_lt;
        is_second = other.has other_lt;
        ends = refl;
        is = ap (λ n. get_or (faces_in met round) n None) (sym is_place) ∙ read met round place m inside ∙ ap (met_face round) (sym is) ∙ now round m same;
      }

  module _ (s : SlotFace) (m : MetFace) (is : m ≡ record { slot = s.slot; round = round; face = s.face }) where
    written : faces_in (set met place m) round ≡ set (faces_in met round) place (Some s)
    written = map-set (met_face round) met _ m ∙ ap (set (faces_in met round) _) (ap (met_face round) is ∙ now round (record { slot = s.slot; round = round; face = s.face }) refl)

    there : (k : ℕ) (t : SlotFace) → get_or (faces_in (set met place m) round) k None ≡ Some t
        → ((k ≡ place) × (t ≡ s)) ⊎ (get_or (faces_in met round) k None ≡ Some t)
    there k t met_at =
        let now_at = ap (λ (l : List (Option SlotFace)). get_or l k None) (sym written) ∙ met_at in
        elim (cases_eq k place) [
          | inr differ ↦ inr (sym (get_or-set_other (faces_in met round) _ k (Some s) None differ) ∙ now_at)
          | inl same ↦
              let here = subst (λ n. get_or (set (faces_in met round) place (Some s)) n None ≡ Some t) same now_at in
              inl (same, sym (same_Some _ _ (sym (get_or-set_same (faces_in met round) _ (Some s) None (omega (arith, inside, length-map met (met_face round)))) ∙ here)))
        ]

    -- the place tells the edge
    same_edge : (e : Edge) (t : SlotFace) (is_in : IsInSquare (square_of (set met place m) round rows) e t)
        → square_place is_in.row is_in.other_row ≡ place → e ≡ edge_of ends.one.number ends.other.number
    same_edge e t is_in same =
        let below = is_in.below in
        let other_below = is_in.other_below in
        let first = number_in rows _ _ ends.one one one_lt (omega (arith, is_place, one_lt, other_lt)) is_in.is_first in
        let second = number_in rows _ _ ends.other other other_lt (omega (arith, is_place, one_lt, other_lt)) is_in.is_second in
        is_in.ends ∙ ap (λ n. edge_of n is_in.second) first ∙ ap (edge_of ends.one.number) second

    -- one place is written
    pub AddsOnly-square : AddsOnly (IsInSquare (square_of met round rows)) (IsInSquare (square_of (set met place m) round rows)) (edge_of ends.one.number ends.other.number) s
    AddsOnly-square e t is_in =
        elim (there (square_place is_in.row is_in.other_row) t is_in.is) [
          | inr was ↦ inl (record {
            row = is_in.row;
            other_row = is_in.other_row;
            below = is_in.below;
            other_below = is_in.other_below;
            first = is_in.first;
            second = is_in.second;
            is_first = is_in.is_first;
            is_second = is_in.is_second;
            ends = is_in.ends;
            is = was;
          })
          | inl here ↦ inr (same_edge e t is_in here.0, here.1)
        ]

    -- and lies between rows that are taken
    pub IsSquare-set : IsSquare met round rows → IsSquare (set met place m) round rows
    IsSquare-set square =
        let one_taken = slice_get_within rows ends.one.row ends.one.number (one.has one_lt) in
        let other_taken = slice_get_within rows ends.other.row ends.other.number (other.has other_lt) in
        record {
          some = square.some;
          all = All-set (λ (x : MetFace). x.round ≤ round) met place m (omega (arith, ap (λ (x : MetFace). x.round) is)) square.all;
          few = omega (arith, length-set met place m, square.few);
          between = λ row last t last_lt met_at. elim (there (square_place row last) t met_at) [
            | inl here ↦ let same = here.0 in (omega (arith, is_place, one_lt, other_lt, one_taken, other_taken), omega (arith, is_place, one_lt, other_lt, one_taken, other_taken))
            | inr was ↦ square.between row last t last_lt was
          ];
        }

module _ (met : List MetFace) (round : ℕ) (old new : List ℕ) (corner : ℕ) (square : IsSquare met round old) (grows : (new ≡ old) ⊎ (new ≡ old ++ corner ∷ [])) where
  longer : length old ≤ length new
  longer = elim grows [
    | inl same ↦ omega (arith, ap length same)
    | inr more ↦ omega (arith, ap length more, length-append old (corner ∷ []))
  ]

  row_kept : (row : ℕ) → row < length old → slice_get new row ≡ slice_get old row
  row_kept row lt = elim grows [
    | inl same ↦ ap (λ (rows : List ℕ). slice_get rows row) same
    | inr more ↦ ap (λ (rows : List ℕ). slice_get rows row) more
        ∙ slice_get-get_or (old ++ corner ∷ []) row 0 (omega (arith, lt, length-append old (corner ∷ [])))
        ∙ ap Some (get_or_append_left old (corner ∷ []) 0 row lt) ∙ sym (slice_get-get_or old row 0 lt)
  ]

  -- a new row has met nothing
  pub IsSquare-row : IsSquare met round new
  IsSquare-row =
      record {
        some = square.some;
        all = square.all;
        few = square.few;
        between = λ row last t last_lt is. let taken = square.between row last t last_lt is in (omega (arith, taken.0, longer), omega (arith, taken.1, longer));
      }

  pub KeepsRows-row : KeepsRows old new
  KeepsRows-row row number is = row_kept row (slice_get_within old row number is) ∙ is

  pub AddsNone-row : AddsNone (IsInSquare (square_of met round old)) (IsInSquare (square_of met round new))
  AddsNone-row e s is_in =
      let below = is_in.below in
      let other_below = is_in.other_below in
      let taken = square.between is_in.row is_in.other_row s other_below is_in.is in
      record {
        row = is_in.row;
        other_row = is_in.other_row;
        below = is_in.below;
        other_below = is_in.other_below;
        first = is_in.first;
        second = is_in.second;
        is_first = sym (row_kept is_in.row (omega (arith, taken.0, taken.1))) ∙ is_in.is_first;
        is_second = sym (row_kept is_in.other_row (omega (arith, taken.0, taken.1))) ∙ is_in.is_second;
        ends = is_in.ends;
        is = is_in.is;
      }
