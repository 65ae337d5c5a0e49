use Rattle.mesh_arena.proofs.EdgeSquare.{MeetsNone-square}
use Rattle.mesh_arena.proofs.square.Square.start.Goals as goal

pub returns : goal.returns
returns c = MeetsNone-square _ c.grow.ensures
