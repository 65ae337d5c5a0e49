-- The sides that are lost with a cavity have both ends among the corners of its rows.
use Rattle.std.proofs.Common.{◌≡◌, ◌⊎◌, inl, inr, ℕ, zero, suc, ◌<◌, List, [], ◌∷◌, length, Option, Some, refl, sym, subst, ◌∙◌, arith}
use Rattle.std.specs.Prelude.{Contains, IsSome}
use Rattle.sign_predicates.specs.Point.{Point}
use Rattle.geo_laws.specs.Delaunay.{numbers, all_numbers}
use Rattle.geo_laws.specs.declared.tetrahedra.Tet.{Tet as Row}
use Rattle.mesh_arena.specs.Mesh.{SlotValue, corners_at, IsLive}
use Rattle.mesh_arena.specs.Cavity.{slot_at, IsInCavitySlots}
use Rattle.mesh_arena.specs.declared.slot.Corner.{Corner}
use Rattle.mesh_arena.specs.declared.slot.Slot.{Slot}
use Rattle.point_locate.specs.Place.{row_corners, IsAt}
use Rattle.mesh_laws.specs.Living.{IsDelaunayMesh}
use Rattle.mesh_laws.proofs.Taken.{same_corners}
use Rattle.mesh_laws.proofs.Rows.{same_row}
use Rattle.cavity_insert.specs.Living.{IsDelaunaySide, HasBoth}
use Rattle.cavity_insert.specs.Lost.{IsToldOf, AreLostSides}
use Rattle.cavity_insert.proofs.SlotSides.{side_of_slot, slot_of_side}

-- the corners of a slot's row are among the numbers
pub told_row : (slots : List (Option SlotValue)) (u : ℕ) (cs : List Corner) (row : Row) (lost : List ℕ) → corners_at slots u ≡ Some cs → cs ≡ row_corners row → ((i : ℕ) → Contains (numbers row) i → Contains lost i)
    → IsToldOf lost slots u
told_row slots u cs row lost is shape all a b at =
    let same : at.here.four ≡ row = same_row at.here.four row (sym at.here.is ∙ same_corners slots u _ _ at.is is ∙ shape) in
    (all a (subst (λ (r : Row). Contains (numbers r) a) same at.here.first), all b (subst (λ (r : Row). Contains (numbers r) b) same at.here.second))

-- further numbers keep it so
pub told_more : (slots : List (Option SlotValue)) (u : ℕ) (lost more : List ℕ) → ((i : ℕ) → Contains lost i → Contains more i) → IsToldOf lost slots u → IsToldOf more slots u
told_more slots u lost more all told a b at = let r = told a b at in (all a r.0, all b r.1)

-- the slot is in the cavity or not
pub in_or_not : (cavity : List Slot) (u : ℕ) → IsInCavitySlots cavity u ⊎ (IsInCavitySlots cavity u → ⊥)
in_or_not [] u = inr (λ is. absurd (none is.place is.inside))
  where
    none : (k : ℕ) → k < 0 → ⊥
    none k h = omega arith
in_or_not (s ∷ cavity) u = go (same_or_not s.index u) (in_or_not cavity u)
  where
    same_or_not : (i j : ℕ) → (i ≡ j) ⊎ (i ≡ j → ⊥)
    same_or_not i j = grind arith

    later : IsInCavitySlots cavity u → IsInCavitySlots (s ∷ cavity) u
    later is = record { place = suc is.place; inside = (let h = is.inside in omega arith); is = is.is }

    neither : (s.index ≡ u → ⊥) → (IsInCavitySlots cavity u → ⊥) → (k : ℕ) → k < length (s ∷ cavity) → slot_at (s ∷ cavity) k ≡ u → ⊥
    neither differs off zero h e = differs e
    neither differs off (suc k) h e = off (record { place = k; inside = omega arith; is = e })

    go : (s.index ≡ u) ⊎ (s.index ≡ u → ⊥) → IsInCavitySlots cavity u ⊎ (IsInCavitySlots cavity u → ⊥) → IsInCavitySlots (s ∷ cavity) u ⊎ (IsInCavitySlots (s ∷ cavity) u → ⊥)
    go (inl e) rest = inl (record { place = 0; inside = omega arith; is = e })
    go (inr differs) (inl is) = inl (later is)
    go (inr differs) (inr off) = inr (λ is. neither differs off is.place is.inside is.is)

live_at : (slots : List (Option SlotValue)) (s : ℕ) (cs : List Corner) → corners_at slots s ≡ Some cs → IsLive slots s
live_at slots s cs e = subst (λ (o : Option (List Corner)). IsSome o) (sym e) refl

-- a side whose slot is not told of stays
pub lost_sides : (old new : List (Option SlotValue)) (before after : List Point) (lost : List ℕ) → IsDelaunayMesh old before (all_numbers before) → IsDelaunayMesh new after (all_numbers after)
    → ((u : ℕ) → IsLive old u → IsToldOf lost old u ⊎ (corners_at new u ≡ corners_at old u)) → AreLostSides before after lost
lost_sides old new before after lost mesh next told a b side =
    let found = slot_of_side old before mesh a b side in
    let at = found.2 in
    go found.0 at (told found.0 (live_at old found.0 at.corners at.is))
  where
    go : (s : ℕ) → IsAt old (λ cs. HasBoth cs a b) s → IsToldOf lost old s ⊎ (corners_at new s ≡ corners_at old s) → IsDelaunaySide after a b ⊎ (Contains lost a × Contains lost b)
    go s at (inl all) = inr (all a b at)
    go s at (inr same) = inl (side_of_slot new after next a b s side.differ (record { corners = at.corners; is = same ∙ at.is; here = at.here }))
