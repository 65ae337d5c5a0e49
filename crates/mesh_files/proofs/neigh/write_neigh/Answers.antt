use Rattle.std.proofs.Common.{arith}
use Rattle.mesh_files.specs.Texts.{neigh_line}
use Rattle.mesh_files.proofs.Lines.{next_line}
use Rattle.mesh_files.proofs.neigh.write_neigh.Goals as goal

pub loop-i-preserved : goal.loop-i-preserved
loop-i-preserved c =
    next_line (neigh_line c.args.first) c.loop-i.i c.args.pairs.now c.at.result c.loop-i.out _ _ (omega arith) (c.at.ensures.same c.at.result) c.in_ok-append_neighbors.ensures c.loop-i.invariant
