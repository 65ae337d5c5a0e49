use Rattle.std.proofs.Common.{◌≡◌, ◌≢◌, ℕ, ◌<◌, None}
use Rattle.mesh_arena.specs.Mesh.{link_behind, SameFace}
use Rattle.mesh_arena.specs.Star.{behind_rim}
use Rattle.mesh_arena.proofs.arena.Arena.find_mate.Given as goal

abbrev pub invariant-loop-q : goal.invariant-loop-q
invariant-loop-q l =
    (n : ℕ) → n < l.q → n ≢ l.r → (j : ℕ) → j < 4 → link_behind l.self.slots (behind_rim l.self.slots l.rim n).slot j ≡ None → SameFace l.self.slots (behind_rim l.self.slots l.rim l.r).slot l.k (behind_rim l.self.slots l.rim n).slot j → ⊥
