use Rattle.std.proofs.Common.{◌+◌, ◌-◌, length, arith}
use Rattle.mesh_files.proofs.Pieces.{copied_first}
use Rattle.mesh_files.proofs.piece.put.Goals as goal

pub returns-clause-written : goal.returns-clause-written
returns-clause-written c =
    let k = c.args.at + length c.args.piece.now - c.args.at in
    rw c.copy_from_slice.ensures.after (copied_first c.args.at k c.args.len c.args.block.now c.args.piece.now (omega arith) c.requires.within)
