use Rattle.std.proofs.Common.{arith}
use Rattle.tet_text.specs.Views.{content_left, line_total}
use Rattle.tet_text.proofs.ContentLines.{content_left_few}
use Rattle.node_files.proofs.Tables.{node_list_is}
use Rattle.node_files.proofs.reading.read_node_list.Goals as goal

pub returns-clause-table : goal.returns-clause-table
returns-clause-table c =
    let lines = c.args.lines.now in
    node_list_is (line_total lines) (content_left lines) (c.in_ok-text.text, content_left c.node_list.new.lines) c.in_ok-text.ensures.value (omega (arith, content_left_few lines))
