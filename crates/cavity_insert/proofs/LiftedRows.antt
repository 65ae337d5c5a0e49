-- What a mesh of lifted points tells of the rows in its slots and a further point.
use Rattle.std.proofs.Common.{◌≡◌, ◌↔◌, ◌⊎◌, inl, inr, ℕ, zero, suc, ◌<◌, ℤ, pos, ◌<ℤ◌, Bool, true, false, not, IsTrue, List, length, get_or, Option, Some, refl, sym, ap, subst, ◌∙◌, arith}
use Rattle.std.proofs.lemmas.List.{get_or-set_same}
use Rattle.sign_predicates.specs.Point.{Point}
use Rattle.sign_predicates.specs.Orientation.{IsPositive, volume}
use Rattle.geo_laws.specs.Delaunay.{point, corners, IsAmong}
use Rattle.geo_laws.proofs.Corners.{on_of_among, on_corner}
use Rattle.geo_laws.proofs.Places.{number}
use Rattle.sign_predicates.proofs.Places.{A, B, C, D, Place}
use Rattle.geo_laws.specs.declared.tetrahedra.Tet.{Tet as Row}
use Rattle.insert_laws.specs.LowestInsertion.{HasAbove}
use Rattle.mesh_arena.specs.Mesh.{SlotValue, corners_at, corner_list, IsArenaMesh}
use Rattle.mesh_arena.specs.declared.slot.SlotCorners.{SlotCorners}
use Rattle.std.proofs.lemmas.Int.{ints}
use Rattle.mesh_arena.specs.declared.slot.Corner.TheVariants.{Ghost}
use Rattle.point_locate.specs.Place.{AreCornersOn, AreOn, IsAt, row_corners, placed}
use Rattle.mesh_laws.specs.LowestLiving.{IsLowestRowSlot, IsLowestGhostSlot}
use Rattle.mesh_laws.specs.LowestRule.{IsLowestTakenRow, IsLowestTaken, IsLowestSeen, IsLowestInnerTaken}
use Rattle.mesh_laws.proofs.LowestTaken.{no_ghost, same_corners}
use Rattle.mesh_laws.proofs.LowestRows.{same_row}
use Rattle.mesh_laws.proofs.LowestPlaced.{law_placed}
use Rattle.cavity_insert.specs.Insert.{IsReadyFor}
use Rattle.mesh_arena.specs.declared.slot.Slot.{Slot}
use Rattle.mesh_arena.specs.declared.slot.RimFace.{RimFace}
use Rattle.mesh_laws.specs.Reach.{Grown}
use Rattle.cavity_insert.specs.Lift.{IsRowFor}
use Rattle.cavity_insert.specs.Search.{SearchValue}

module _ (heights : ℕ → ℤ) (slots : List (Option SlotValue)) (ps : List Point) (ms : List ℕ) (p : ℕ) (mesh : IsArenaMesh slots) (ready : IsReadyFor heights slots ps ms p) where
  pub corners_on : AreCornersOn slots ps
  corners_on = law_placed.corners heights slots ps ms mesh ready.mesh

-- the row of a slot is a positive one of points, of which p is none
pub row_for : (heights : ℕ → ℤ) (slots : List (Option SlotValue)) (ps : List Point) (ms : List ℕ) (p : ℕ) → IsReadyFor heights slots ps ms p → (s : ℕ) (t : Row) → corners_at slots s ≡ Some (row_corners t) → IsRowFor ps t p
row_for heights slots ps ms p ready s t is = by (ready.mesh.each s (rw is refl))
  where
    by : ((u : Row) × IsLowestRowSlot heights slots ps ms s u) ⊎ ((u : Row) × (k : ℕ) × IsLowestGhostSlot heights slots ps ms s u k) → IsRowFor ps t p
    by (inl row) = record {
      on = on;
      positive = subst (λ (u : Row). IsPositive (corners ps u)) same slot.is_positive;
      inside = ready.is_new.on;
      further = λ c. ready.is_new.is_new (among p c);
    }
      where
        slot : IsLowestRowSlot heights slots ps ms s row.0
        slot = row.1

        same : row.0 ≡ t
        same = same_row row.0 t (same_corners slots s _ _ slot.is is)

        among : IsAmong ms t
        among = subst (IsAmong ms) same (λ i c. slot.is_row.is_on i ((slot.same_corners i).0 c))

        below : (u : Place) → number t u < length ps
        below = on_corner ps t (on_of_among ps ms t ready.mesh.within among)

        on : AreOn ps (row_corners t)
        on zero h = below A
        on (suc zero) h = below B
        on (suc (suc zero)) h = below C
        on (suc (suc (suc zero))) h = below D
        on (suc (suc (suc (suc k)))) h = absurd (omega arith)
    by (inr ghost) =
        let k4 = ghost.2.within in
        absurd (no_ghost t ghost.1 k4 (ap (λ cs. get_or cs ghost.1 Ghost) (same_corners slots s _ _ is ghost.2.is) ∙ get_or-set_same (row_corners ghost.0) ghost.1 Ghost Ghost (omega arith)))

-- the test of a row: it takes p where p is not outside
pub test_row : (heights : ℕ → ℤ) (ps : List Point) (t : Row) (p : ℕ) (b : Bool) → IsTrue b ↔ HasAbove heights ps t p → IsTrue (not b) ↔ IsLowestTakenRow heights ps p (row_corners t)
test_row heights ps t p b is = (to b is, from)
  where
    never : false ≡ true → ⊥
    never e = cc

    to : (b : Bool) → IsTrue b ↔ HasAbove heights ps t p → IsTrue (not b) → IsLowestTakenRow heights ps p (row_corners t)
    to true e h = absurd (never h)
    to false e h = record { row = t; is = refl; holds = λ a. never (e.1 a) }

    not_true : (b : Bool) → ¬ IsTrue b → IsTrue (not b)
    not_true true n = absurd (n refl)
    not_true false n = refl

    from : IsLowestTakenRow heights ps p (row_corners t) → IsTrue (not b)
    from taken =
        let same : taken.row ≡ t = same_row taken.row t (sym taken.is) in
        not_true b (λ h. subst (λ (u : Row). ¬ HasAbove heights ps u p) same taken.holds (is.0 h))

-- the test of a slot with a row
pub test_at : (heights : ℕ → ℤ) (slots : List (Option SlotValue)) (ps : List Point) (p s : ℕ) (t : Row) (b : Bool) → corners_at slots s ≡ Some (row_corners t) → IsTrue b ↔ IsLowestTakenRow heights ps p (row_corners t)
    → IsTrue b ↔ IsAt slots (IsLowestTakenRow heights ps p) s
test_at heights slots ps p s t b is test = (
  λ h. record { corners = row_corners t; is = is; here = test.0 h },
  λ at. test.1 (subst (IsLowestTakenRow heights ps p) (same_corners slots s _ _ at.is is) at.here),
)

pub test_slot : (heights : ℕ → ℤ) (slots : List (Option SlotValue)) (ps : List Point) (p s : ℕ) (t : Row) (b : Bool) → corners_at slots s ≡ Some (row_corners t) → IsTrue b ↔ IsLowestTakenRow heights ps p (row_corners t)
    → IsTrue b ↔ IsLowestTaken heights slots ps p s
test_slot heights slots ps p s t b is test = (λ h. inl ((test_at heights slots ps p s t b is test).0 h), from)
  where
    from : IsLowestTaken heights slots ps p s → IsTrue b
    from (inl at) = (test_at heights slots ps p s t b is test).1 at
    from (inr ghost) = absurd (no_ghost t ghost.place ghost.within (ap (λ cs. get_or cs ghost.place Ghost) (same_corners slots s _ _ is ghost.infinite.is) ∙ ghost.infinite.here))

-- a ghost whose volume with p is below 0 is not seen
pub not_seen : (heights : ℕ → ℤ) (slots : List (Option SlotValue)) (ps : List Point) (p s place : ℕ) (t : SlotCorners) → corners_at slots s ≡ Some (corner_list t) → volume (placed ps (point ps p) t) <ℤ pos 0
    → ¬ IsLowestSeen heights slots ps p s place
not_seen heights slots ps p s place t is below seen = by seen.sees
  where
    same : seen.ghost ≡ t
    same =
        let list : corner_list seen.ghost ≡ corner_list t = same_corners slots s _ _ seen.is is in
        let a : seen.ghost.a ≡ t.a = cc in
        let b : seen.ghost.b ≡ t.b = cc in
        let c : seen.ghost.c ≡ t.c = cc in
        let d : seen.ghost.d ≡ t.d = cc in
        λ i. record { a = a i; b = b i; c = c i; d = d i }

    volume_is : volume (placed ps (point ps p) seen.ghost) ≡ volume (placed ps (point ps p) t)
    volume_is = ap (λ (g : SlotCorners). volume (placed ps (point ps p) g)) same

    over : (m n : ℤ) → m ≡ n → n <ℤ pos 0 → pos 0 <ℤ m → ⊥
    over m n e h k = omega (arith, ints)

    level : (m n : ℤ) → m ≡ n → n <ℤ pos 0 → m ≡ pos 0 → ⊥
    level m n e h k = omega (arith, ints)

    by : (pos 0 <ℤ volume (placed ps (point ps p) seen.ghost)) ⊎ ((volume (placed ps (point ps p) seen.ghost) ≡ pos 0) × IsLowestInnerTaken heights slots ps p s place) → ⊥
    by (inl k) = over _ _ volume_is below k
    by (inr k) = level _ _ volume_is below k.0

-- what a search tells of itself is so of an equal one
module _ {H : Type 0} (heights : H → ℕ → ℤ) (points : H → List Point) (one two : SearchValue H) (same : one ≡ two) where
  abbrev takes : SearchValue H → ℕ → Type 0
  takes v s = IsLowestTaken (heights v.lift) v.slots (points v.lift) v.p s

  pub same_zone : (b : Bool) (s : ℕ) → IsTrue b ↔ takes one s → IsTrue b ↔ takes two s
  same_zone b s told = subst (λ (v : SearchValue H). IsTrue b ↔ takes v s) same told

  pub same_grown : (start : ℕ) (cavity : List Slot) (rim : List RimFace) → Grown one.slots (takes one) start cavity rim → Grown two.slots (takes two) start cavity rim
  same_grown start cavity rim grown = subst (λ (v : SearchValue H). Grown v.slots (takes v) start cavity rim) same grown
