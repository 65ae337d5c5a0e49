-- A slot is a row or a ghost, and a ghost has the point at infinity in one place.
use Rattle.std.proofs.Common.{◌≡◌, ◌↔◌, inl, inr, ℕ, zero, suc, ◌<◌, List, get_or, Bool, IsTrue, Option, Some, refl, sym, ap, subst, ◌∙◌, arith, ℤ}
use Rattle.sign_predicates.specs.Point.{Point}
use Rattle.geo_laws.specs.declared.tetrahedra.Tet.{Tet as Row}
use Rattle.mesh_arena.specs.Mesh.{SlotValue, corners_at, corner_in, corner_list, IsLive, IsArenaMesh}
use Rattle.mesh_arena.specs.declared.slot.Corner.{Corner}
use Rattle.mesh_arena.specs.declared.slot.Corner.TheVariants.{Ghost}
use Rattle.mesh_arena.specs.declared.slot.SlotCorners.{SlotCorners}
use Rattle.point_locate.specs.Place.{row_corners}
use Rattle.mesh_laws.specs.LowestRule.{IsLowestSeen, IsLowestTaken}

-- a tetrahedron of points has no point at infinity
pub no_ghost : (t : Row) (k : ℕ) → k < 4 → get_or (row_corners t) k Ghost ≡ Ghost → ⊥
no_ghost t zero h e = cc
no_ghost t (suc zero) h e = cc
no_ghost t (suc (suc zero)) h e = cc
no_ghost t (suc (suc (suc zero))) h e = cc
no_ghost t (suc (suc (suc (suc k)))) h e = absurd (omega arith)

-- a slot has one list of corners
pub same_corners : (slots : List (Option SlotValue)) (s : ℕ) (cs ds : List Corner) → corners_at slots s ≡ Some cs → corners_at slots s ≡ Some ds → cs ≡ ds
same_corners slots s cs ds e d = cc

-- the point at infinity is in one place
pub one_ghost : (slots : List (Option SlotValue)) (s : ℕ) (cs : List Corner) (i j : ℕ) → IsArenaMesh slots → corners_at slots s ≡ Some cs → i < 4 → j < 4 → get_or cs i Ghost ≡ Ghost → get_or cs j Ghost ≡ Ghost → i ≡ j
one_ghost slots s cs i j mesh is i4 j4 e d =
    mesh.differ s i j (rw is refl) i4 j4 (ap (λ o. corner_in o i) is ∙ e ∙ sym d ∙ sym (ap (λ o. corner_in o j) is))

pub taken_ghost : (lifts : ℕ → ℤ) (slots : List (Option SlotValue)) (ps : List Point) (p s : ℕ) (t : SlotCorners) (place : ℕ) (b : Bool) → IsArenaMesh slots → corners_at slots s ≡ Some (corner_list t) → place < 4 → get_or (corner_list t) place Ghost ≡ Ghost → IsTrue b ↔ IsLowestSeen lifts slots ps p s place → IsTrue b ↔ IsLowestTaken lifts slots ps p s
taken_ghost lifts slots ps p s t place b mesh is within infinite seen = (to, from)
  where
    to : IsTrue b → IsLowestTaken lifts slots ps p s
    to told = inr (record { place = place; within = within; infinite = record { corners = corner_list t; is = is; here = infinite }; seen = seen.0 told })

    from : IsLowestTaken lifts slots ps p s → IsTrue b
    from (inl row) =
        let same = same_corners slots s _ _ is row.is in
        absurd (no_ghost row.here.row place within (ap (λ cs. get_or cs place Ghost) (sym (same ∙ row.here.is)) ∙ infinite))
    from (inr ghost) =
        let same = same_corners slots s _ _ is ghost.infinite.is in
        let at = one_ghost slots s (corner_list t) ghost.place place mesh is ghost.within within (ap (λ cs. get_or cs ghost.place Ghost) same ∙ ghost.infinite.here) infinite in
        seen.1 (subst (IsLowestSeen lifts slots ps p s) at ghost.seen)

-- a slot that is taken is live
pub taken_live : (lifts : ℕ → ℤ) (slots : List (Option SlotValue)) (ps : List Point) (p s : ℕ) → IsLowestTaken lifts slots ps p s → IsLive slots s
taken_live lifts slots ps p s (inl row) = rw row.is refl
taken_live lifts slots ps p s (inr ghost) = rw ghost.infinite.is refl
