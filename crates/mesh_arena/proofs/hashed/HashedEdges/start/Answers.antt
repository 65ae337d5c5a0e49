use Rattle.mesh_arena.proofs.hashed.HashedEdges.start.Goals as goal

pub grow-requires : goal.grow-requires
grow-requires c = c.next_round.ensures

pub returns-in_default : goal.returns-in_default
returns-in_default c = c.next_round.ensures
