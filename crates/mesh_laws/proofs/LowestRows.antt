-- What the rule says of the slot of a row: the row is in the cavity.
use Rattle.std.proofs.Common.{◌≡◌, ◌↔◌, inl, inr, ℕ, List, get_or, length, Option, refl, sym, ap, subst, ◌∙◌, ℤ}
use Rattle.sign_predicates.specs.Point.{Point}
use Rattle.sign_predicates.specs.Orientation.{IsPositive}
use Rattle.geo_laws.specs.Delaunay.{corners, IsArranged}
use Rattle.geo_laws.specs.Height.{residual_at, places}
use Rattle.geo_laws.specs.declared.tetrahedra.Tet.{Tet as Row}
use Rattle.geo_laws.proofs.Lexicographic.{lex_same}
use Rattle.geo_laws.proofs.Arrangement.{IsEven, even_residual}
use Rattle.insert_laws.specs.LowestInsertion.{IsNew, HasSameCorners, HasAbove}
use Rattle.insert_laws.proofs.LowestBridge.{even_of_same}
use Rattle.mesh_arena.specs.Mesh.{SlotValue}
use Rattle.mesh_arena.specs.declared.slot.Corner.TheVariants.{Ghost}
use Rattle.point_locate.specs.Place.{row_corners}
use Rattle.mesh_laws.specs.LowestRule.{IsLowestTaken}
use Rattle.mesh_laws.specs.LowestLiving.{IsLowestRowSlot}
use Rattle.mesh_laws.proofs.LowestTaken.{no_ghost, same_corners}

-- a four of the same corners in an even arrangement has the same points above
pub above_even : (lifts : ℕ → ℤ) (ps : List Point) (t r : Row) (p : ℕ) → IsPositive (corners ps t) → IsPositive (corners ps r) → IsArranged r → HasSameCorners t r → HasAbove lifts ps t p ↔ HasAbove lifts ps r p
above_even lifts ps t r p pt pr arranged same =
    let even : IsEven ps t r = even_of_same ps t r pt pr arranged same in
    let is : (k : ℕ) → residual_at ps lifts t p k ≡ residual_at ps lifts r p k = even_residual ps t r even lifts p in (
      λ a. lex_same (residual_at ps lifts t p) (residual_at ps lifts r p) (places (length ps)) is a,
      λ a. lex_same (residual_at ps lifts r p) (residual_at ps lifts t p) (places (length ps)) (λ k. sym (is k)) a,
    )

pub same_row : (u t : Row) → row_corners u ≡ row_corners t → u ≡ t
same_row u t e =
    let a : u.a ≡ t.a = cc in
    let b : u.b ≡ t.b = cc in
    let c : u.c ≡ t.c = cc in
    let d : u.d ≡ t.d = cc in
    λ i. record { a = a i; b = b i; c = c i; d = d i }

module _ (lifts : ℕ → ℤ) (slots : List (Option SlotValue)) (ps : List Point) (ms : List ℕ) (p : ℕ) (new : IsNew ps ms p) (s : ℕ) (t : Row) (slot : IsLowestRowSlot lifts slots ps ms s t) where
  pub above_slot : HasAbove lifts ps t p ↔ HasAbove lifts ps slot.row p
  above_slot = above_even lifts ps t slot.row p slot.is_positive slot.is_row.is_positive slot.is_row.is_arranged slot.same_corners

  pub taken_row : IsLowestTaken lifts slots ps p s ↔ (¬ HasAbove lifts ps slot.row p)
  taken_row = (to, from)
    where
      to : IsLowestTaken lifts slots ps p s → ¬ HasAbove lifts ps slot.row p
      to (inl row) =
          let same : row.here.row ≡ t = same_row row.here.row t (sym row.here.is ∙ same_corners slots s _ _ row.is slot.is) in
          λ o. subst (λ (u : Row). ¬ HasAbove lifts ps u p) same row.here.holds (above_slot.1 o)
      to (inr ghost) = absurd (no_ghost t ghost.place ghost.within (ap (λ cs. get_or cs ghost.place Ghost) (same_corners slots s _ _ slot.is ghost.infinite.is) ∙ ghost.infinite.here))

      from : (¬ HasAbove lifts ps slot.row p) → IsLowestTaken lifts slots ps p s
      from not = inl (record { corners = row_corners t; is = slot.is; here = record { row = t; is = refl; holds = λ o. not (above_slot.0 o) } })
