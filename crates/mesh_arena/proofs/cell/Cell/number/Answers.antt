use Rattle.std.proofs.Common.{arith}
use Rattle.mesh_arena.proofs.ConeCell.{infinite_number, finite_number}
use Rattle.mesh_arena.proofs.cell.Cell.number.Goals as goal

pub returns-then-self-place-eq1 : goal.returns-then-self-place-eq1
returns-then-self-place-eq1 c =
    let self = c.args.self.now in
    infinite_number self.points self.links c.args.place (omega arith) (omega arith) c.if-self-place-eq1.true

pub returns-else-self-place-eq1 : goal.returns-else-self-place-eq1
returns-else-self-place-eq1 c =
    let self = c.args.self.now in
    finite_number self.points self.links c.args.place (omega arith) (omega arith) c.if-self-place-eq1.false
