use Rattle.std.proofs.Common.{inl, inr}
use Rattle.mesh_arena.proofs.edges.EdgeTable.start.Goals as goal

pub returns : goal.returns
returns c e s met = elim met [
  | inl is_in ↦ c.start.ensures e s is_in
  | inr hashed ↦ c.start-2.ensures e s hashed
]
