use Rattle.std.proofs.Common.{◌+◌, arith}
use Rattle.solver_files.specs.Second.{second_of}
use Rattle.solver_files.specs.SecondTexts.{middle_line}
use Rattle.solver_files.proofs.Parts.{next_numbered}
use Rattle.solver_files.proofs.second_files.put_middle_lines.Goals as goal

pub loop-i-preserved : goal.loop-i-preserved
loop-i-preserved c =
    let i = c.loop-i.i in
    let start = c.point_count.result + c.from.result in
    next_numbered (middle_line (second_of c.args.mesh.now)) (start + i) (start + (i + 1)) i c.args.mesh.now.sides.now c.at.result c.loop-i.out _ _ (omega arith) (omega arith) (c.at.ensures c.at.result) c.in_ok-put_middle_line.ensures c.loop-i.invariant
