-- Where the rim meets the hull: between a ghost that the new point sees and one that it doesn't.
use Rattle.std.proofs.Common.{◌≡◌, ℕ, List, Option, Some, ℤ}
use Rattle.sign_predicates.specs.Point.{Point}
use Rattle.insert_laws.specs.LowestInsertion.{IsNew, LowestSees, IsLowestHullFace, edge_and, IsLowestHullRim, ghost_place, ghost_in}
use Rattle.mesh_arena.specs.Mesh.{SlotValue, link_behind, IsArenaMesh}
use Rattle.mesh_arena.specs.declared.arena.SlotFace.{SlotFace}
use Rattle.mesh_laws.specs.LowestRule.{IsLowestTaken}
use Rattle.mesh_laws.specs.LowestLiving.{face_off, IsLowestMesh}
use Rattle.mesh_laws.proofs.Seen.{taken_sees}
use Rattle.mesh_laws.proofs.NextHull.{IsOverEdge, edge_corners, edge_across}
use Rattle.mesh_laws.proofs.Reached.{sees_same, taken_at}

module _ (lifts : ℕ → ℤ) (slots : List (Option SlotValue)) (ps : List Point) (ms : List ℕ) (mesh : IsArenaMesh slots) (now : IsLowestMesh lifts slots ps ms) (p : ℕ) (new : IsNew ps ms p) where
  -- the ghost over an edge is taken where p sees the hull face on its side of the edge
  pub edge_sees : (i j u k q : ℕ) → IsOverEdge lifts slots ps ms i j u k → (hull : IsLowestHullFace lifts ps ms (edge_and j i q)) → IsLowestTaken lifts slots ps p u → LowestSees lifts ps p (edge_and j i q) hull.behind
  edge_sees i j u k q e hull taken = sees_same lifts slots ps ms mesh now p new (face_off e.row e.place) (edge_and j i q) (edge_corners lifts slots ps ms mesh now i j u k q e hull) e.slot.is_hull hull ((taken_sees lifts slots ps ms p new mesh now u e.place e.row e.slot).0 taken)

  pub edge_taken : (i j u k q : ℕ) → IsOverEdge lifts slots ps ms i j u k → (hull : IsLowestHullFace lifts ps ms (edge_and j i q)) → LowestSees lifts ps p (edge_and j i q) hull.behind → IsLowestTaken lifts slots ps p u
  edge_taken i j u k q e hull sees = taken_at lifts slots ps ms mesh now p new (ghost_place (edge_and j i q)) (ghost_in (edge_and j i q) hull sees) u (e.row, e.place, e.slot, edge_corners lifts slots ps ms mesh now i j u k q e hull, hull)

  -- the rim meets the hull at an edge between a ghost that is taken and one that isn't
  pub rim_edge : (i j u k : ℕ) (b : SlotFace) → IsOverEdge lifts slots ps ms i j u k → link_behind slots u k ≡ Some b → (IsLowestTaken lifts slots ps p u → ⊥) → IsLowestTaken lifts slots ps p b.slot → IsLowestHullRim lifts ps ms p i j
  rim_edge i j u k b e is not taken =
      let behind = edge_across lifts slots ps ms mesh now i j u k b e is in
      record {
        inner = behind.apex;
        seen = behind.hull;
        sees = edge_sees j i b.slot b.face behind.apex behind behind.hull taken;
        outer = e.apex;
        unseen = e.hull;
        sees_not = λ sees. not (edge_taken i j u k e.apex e e.hull sees);
      }
