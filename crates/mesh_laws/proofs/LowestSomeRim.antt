-- The rim of a cavity that was grown is not empty.
use Rattle.std.proofs.Common.{◌⊎◌, inl, inr, ℕ, ◌<◌, List, length, Option, arith, ℤ}
use Rattle.sign_predicates.specs.Point.{Point}
use Rattle.geo_laws.specs.Height.{IsLowestAmong}
use Rattle.geo_laws.specs.declared.tetrahedra.Tet.{Tet as Row}
use Rattle.insert_laws.proofs.SomeRim.{law_some_rim_face}
use Rattle.mesh_arena.specs.Mesh.{SlotValue, IsLive}
use Rattle.mesh_laws.specs.LowestLiving.{IsLowestRowSlot, IsLowestGhostSlot, IsLowestMesh}
use Rattle.mesh_laws.specs.LowestRimLaws.{LowestSomeRimLaw}
use Rattle.mesh_laws.proofs.LowestTaken.{taken_live}
use Rattle.mesh_laws.proofs.Reached.{place_of_taken}
use Rattle.mesh_laws.proofs.RimNames.{triangle_at}

-- a mesh with a slot has a row: the slot's, or the one behind its hull face
pub row_of_slot : (lifts : ℕ → ℤ) (slots : List (Option SlotValue)) (ps : List Point) (ms : List ℕ) (u : ℕ) → IsLowestMesh lifts slots ps ms → IsLive slots u → (t : Row) × IsLowestAmong ps ms lifts t
row_of_slot lifts slots ps ms u now live = by (now.each u live)
  where
    by : ((t : Row) × IsLowestRowSlot lifts slots ps ms u t) ⊎ ((t : Row) × (k : ℕ) × IsLowestGhostSlot lifts slots ps ms u t k) → (t : Row) × IsLowestAmong ps ms lifts t
    by (inl row) = (row.1.row, row.1.is_row)
    by (inr ghost) = (ghost.2.is_hull.behind, ghost.2.is_hull.is_row)

pub law_some_rim : LowestSomeRimLaw
law_some_rim lifts slots ps ms p start cavity rim mesh now new grown whole =
    let some = row_of_slot lifts slots ps ms start now (taken_live lifts slots ps p start whole.takes_start) in
    let a = place_of_taken lifts slots ps ms mesh now p new start whole.takes_start in
    let face = law_some_rim_face lifts ps ms p new some.0 some.1 a.0 a.2 in
    let r = triangle_at lifts slots ps ms mesh now rim p start cavity new grown whole face.0 face.1 in
    let within : r.0 < length rim = r.1 in
    omega arith
