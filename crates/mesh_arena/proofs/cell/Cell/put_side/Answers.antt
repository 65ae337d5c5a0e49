use Rattle.std.proofs.Common.{Some, ◌∙◌, arith}
use Rattle.mesh_arena.proofs.CellSides.{side_to-parts, tet_in-set}
use Rattle.mesh_arena.proofs.cell.Cell.put_side.Goals as goal

pub returns-clause-tet : goal.returns-clause-tet
returns-clause-tet c =
    let side = c.args.side in
    let link = c.linked.ensures in
    tet_in-set c.args.self.now c.args.face c.linked.result (Some side) (omega arith) link.infinite (side_to-parts c.linked.result side.slot side.face link.slot (link.face ∙ c.from.ensures) c.requires.there)
