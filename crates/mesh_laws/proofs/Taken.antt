-- A slot is a row or a ghost, and a ghost has the point at infinity in one place.
use Rattle.std.proofs.Common.{◌≡◌, ◌↔◌, inl, inr, ℕ, ◌<◌, List, get_or, Bool, IsTrue, Option, Some, refl, sym, ap, subst, ◌∙◌}
use Rattle.sign_predicates.specs.Point.{Point}
use Rattle.mesh_arena.specs.Mesh.{SlotValue, corners_at, corner_list, IsLive, IsArenaMesh}
use Rattle.mesh_arena.specs.declared.slot.Corner.TheVariants.{Ghost}
use Rattle.mesh_arena.specs.declared.slot.SlotCorners.{SlotCorners}
use Rattle.mesh_laws.proofs.LowestTaken.{one_ghost}
use Rattle.mesh_laws.specs.Rule.{IsSeen, IsTaken}
pub use Rattle.mesh_laws.proofs.LowestTaken.{no_ghost, same_corners}

pub taken_ghost : (slots : List (Option SlotValue)) (ps : List Point) (p : Point) (number s : ℕ) (t : SlotCorners) (place : ℕ) (b : Bool) → IsArenaMesh slots → corners_at slots s ≡ Some (corner_list t) → place < 4 → get_or (corner_list t) place Ghost ≡ Ghost → IsTrue b ↔ IsSeen slots ps p number s place → IsTrue b ↔ IsTaken slots ps p number s
taken_ghost slots ps p number s t place b mesh is within infinite seen = (to, from)
  where
    to : IsTrue b → IsTaken slots ps p number s
    to told = inr (record { place = place; within = within; infinite = record { corners = corner_list t; is = is; here = infinite }; seen = seen.0 told })

    from : IsTaken slots ps p number s → IsTrue b
    from (inl row) =
        let same = same_corners slots s _ _ is row.is in
        absurd (no_ghost row.here.row place within (ap (λ cs. get_or cs place Ghost) (sym (same ∙ row.here.is)) ∙ infinite))
    from (inr ghost) =
        let same = same_corners slots s _ _ is ghost.infinite.is in
        let at = one_ghost slots s (corner_list t) ghost.place place mesh is ghost.within within (ap (λ cs. get_or cs ghost.place Ghost) same ∙ ghost.infinite.here) infinite in
        seen.1 (subst (IsSeen slots ps p number s) at ghost.seen)

-- a slot that is taken is live
pub taken_live : (slots : List (Option SlotValue)) (ps : List Point) (p : Point) (number s : ℕ) → IsTaken slots ps p number s → IsLive slots s
taken_live slots ps p number s (inl row) = rw row.is refl
taken_live slots ps p number s (inr ghost) = rw ghost.infinite.is refl
