use Rattle.std.proofs.Common.{◌+◌, arith}
use Rattle.mesh_arena.proofs.EdgesByHash.{MeetsNone-others}
use Rattle.mesh_arena.proofs.hashed.HashedEdges.next_round.Goals as goal

pub returns-else-self : goal.returns-else-self
returns-else-self c =
    MeetsNone-others c.self.inside.met.items (c.self.inside.round + 1) (λ k d lt e. omega (arith, c.self.invariant.all k d lt))
