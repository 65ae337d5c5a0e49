-- How a table of edges by hashes keeps what was met in its round.
use Rattle.std.proofs.Common.{◌≡◌, ◌≢◌, ℕ, ◌<◌, List, length, get_or, set, Some, None, refl, sym, ap, subst, ◌∙◌, inl, inr, arith, cond}
use Rattle.std.proofs.lemmas.Bool.{cases_eq, cases_lt, ne_eqb, eq-eqb}
use Rattle.std.proofs.lemmas.List.{map-set, get_or-map, get_or-set_same, get_or-set_other, get_or_past, length-map}
use Rattle.std.proofs.lemmas.Option.{none-some, some_pair_parts}
use Rattle.std.specs.List.{All}
use Rattle.mesh_arena.specs.declared.arena.SlotFace.{SlotFace}
use Rattle.mesh_arena.specs.declared.edge.Edge.{Edge}
use Rattle.mesh_arena.specs.declared.hashed.Met.{Met}
use Rattle.mesh_arena.specs.Edges.{Meetings, meeting_of, meetings_in, IsHashed, MeetsNone, AddsOnly}

abbrev edge_in : Met → Edge
edge_in m = record { low = m.low; high = m.high }

abbrev face_in : Met → SlotFace
face_in m = record { slot = m.slot; face = m.face }

-- what is of another round counts as nothing
not_now : (round : ℕ) (m : Met) → m.round ≢ round → meeting_of round m ≡ None
not_now round m differ = ap (λ b. cond b (Some (edge_in m, face_in m)) None) (ne_eqb m.round round differ)

now : (round : ℕ) (m : Met) → m.round ≡ round → meeting_of round m ≡ Some (edge_in m, face_in m)
now round m same = ap (λ b. cond b (Some (edge_in m, face_in m)) None) (eq-eqb m.round round same)

read : (met : List Met) (round k : ℕ) (d : Met) → k < length met → get_or (meetings_in met round) k None ≡ meeting_of round (get_or met k d)
read met round k d lt = get_or-map (meeting_of round) met k d None lt

-- what was met stands in the table
within : (met : List Met) (round : ℕ) (e : Edge) (s : SlotFace) (is_met : IsHashed (meetings_in met round) e s) → is_met.place < length met
within met round e s is_met =
    elim (cases_lt is_met.place (length met)) [
      | inl lt ↦ lt
      | inr past ↦ absurd (none-some (e, s) (sym (get_or_past (meetings_in met round) is_met.place None (omega (arith, length-map met (meeting_of round)))) ∙ is_met.is))
    ]

-- a place that has this edge
pub IsHashed-read : (met : List Met) (round place : ℕ) (m : Met) → place < length met → m ≡ get_or met place m → m.round ≡ round → IsHashed (meetings_in met round) (edge_in m) (face_in m)
IsHashed-read met round place m lt is same =
    record { place = place; is = read met round place m lt ∙ ap (meeting_of round) (sym is) ∙ now round m same }

-- no place is of this round
pub MeetsNone-others : (met : List Met) (round : ℕ) → All (λ m. m.round ≢ round) met → MeetsNone (IsHashed (meetings_in met round))
MeetsNone-others met round others e s is_met =
    let none : Met = record { low = e.low; high = e.high; slot = s.slot; round = 0; face = s.face } in
    let lt = within met round e s is_met in
    none-some (e, s) (sym (not_now round _ (others is_met.place none lt)) ∙ sym (read met round is_met.place none lt) ∙ is_met.is)

pub others-MeetsNone : (met : List Met) (round : ℕ) → MeetsNone (IsHashed (meetings_in met round)) → All (λ m. m.round ≢ round) met
others-MeetsNone met round unmet k d lt same =
    unmet (edge_in (get_or met k d)) (face_in (get_or met k d)) (record { place = k; is = read met round k d lt ∙ now round (get_or met k d) same })

-- one place is written
pub AddsOnly-hashed : (met : List Met) (round place : ℕ) (e : Edge) (s : SlotFace) (m : Met) → place < length met → m ≡ record { low = e.low; high = e.high; slot = s.slot; round = round; face = s.face } → AddsOnly (IsHashed (meetings_in met round)) (IsHashed (meetings_in (set met place m) round)) e s
AddsOnly-hashed met round place e s m lt is e2 s2 is_met =
    let written : meetings_in (set met place m) round ≡ set (meetings_in met round) place (Some (e, s)) =
    map-set (meeting_of round) met place m ∙ ap (set (meetings_in met round) place) (ap (meeting_of round) is ∙ now round (record { low = e.low; high = e.high; slot = s.slot; round = round; face = s.face }) refl) in
    let there : get_or (set (meetings_in met round) place (Some (e, s))) is_met.place None ≡ Some (e2, s2) = ap (λ (t : Meetings). get_or t is_met.place None) (sym written) ∙ is_met.is in
    elim (cases_eq is_met.place place) [
      | inr differ ↦ inl (record { place = is_met.place; is = sym (get_or-set_other (meetings_in met round) place is_met.place (Some (e, s)) None differ) ∙ there })
      | inl same ↦
          let here = subst (λ n. get_or (set (meetings_in met round) place (Some (e, s))) n None ≡ Some (e2, s2)) same there in
          let parts = some_pair_parts e e2 s s2 (sym (get_or-set_same (meetings_in met round) place (Some (e, s)) None (omega (arith, lt, length-map met (meeting_of round)))) ∙ here) in
          inr (sym parts.0, sym parts.1)
    ]
