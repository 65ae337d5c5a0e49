use Rattle.std.proofs.Common.{arith}
use Rattle.tet_text.specs.Views.{line_total}
use Rattle.tet_text.proofs.Cutting.{length-lines_of}
use Rattle.tet_text.proofs.lines.Lines.new.Goals as goal

pub returns-clause-short : goal.returns-clause-short
unfolding line_total
returns-clause-short c = omega (arith, length-lines_of c.args.bytes.now)
