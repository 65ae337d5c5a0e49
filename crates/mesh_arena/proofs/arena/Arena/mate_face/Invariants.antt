use Rattle.std.proofs.Common.{◌≡◌, ℕ, ◌<◌, None}
use Rattle.mesh_arena.specs.Mesh.{link_behind, SameFace}
use Rattle.mesh_arena.proofs.arena.Arena.mate_face.Given as goal

abbrev pub invariant-loop-j : goal.invariant-loop-j
invariant-loop-j l = (k : ℕ) → k < l.j → link_behind l.self.slots l.t k ≡ None → SameFace l.self.slots l.s l.i l.t k → ⊥
