use Rattle.std.proofs.Common.{◌+◌, [], arith}
use Rattle.mesh_arena.proofs.EdgeSquare.{IsSquare-others}
use Rattle.mesh_arena.proofs.square.Square.next_round.Goals as goal
use Rattle.mesh_arena.proofs.square.Square.next_round.Goals.{then-self, else-self}

pub invariant_of-self : goal.invariant_of-self
invariant_of-self c =
    let square = c.self.invariant in
    elim c.if-self.branch [
      | then-self w ↦ rw (w.self-inside-is, w.clear.ensures.items) (IsSquare-others [] 1 _ (omega arith) (omega arith) (λ k d lt. absurd (omega arith)) (λ k d lt. absurd (omega arith)))
      | else-self w ↦ rw w.self-inside-is (IsSquare-others c.self.inside.met.items (c.self.inside.round + 1) _ (omega arith) square.few (λ k d lt. omega (arith, square.all k d lt)) (λ k d lt e. omega (arith, square.all k d lt)))
    ]
