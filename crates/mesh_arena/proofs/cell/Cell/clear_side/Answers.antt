use Rattle.std.proofs.Common.{None, refl, arith}
use Rattle.mesh_arena.proofs.CellSides.{tet_in-set}
use Rattle.mesh_arena.proofs.cell.Cell.clear_side.Goals as goal

pub returns-clause-tet : goal.returns-clause-tet
returns-clause-tet c = tet_in-set c.args.self.now c.args.face c.linked.result None (omega arith) c.linked.ensures.infinite (rw c.linked.ensures.face refl)
