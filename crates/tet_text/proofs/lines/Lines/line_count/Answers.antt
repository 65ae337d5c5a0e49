use Rattle.std.proofs.Common.{length, arith, sym, ◌∙◌}
use Rattle.tet_text.specs.Lines.{is_line_feed}
use Rattle.tet_text.specs.Views.{line_total}
use Rattle.tet_text.proofs.Cutting.{length-after_first}
use Rattle.tet_text.proofs.ContentLines.{one_line_more, no_more_lines}
use Rattle.std.proofs.lemmas.Bool.{eqb-true, eqb-false}
use Rattle.tet_text.proofs.lines.Lines.line_count.Goals as goal

pub loop-rest-preserved : goal.loop-rest-preserved
loop-rest-preserved c =
    let n = eqb-false (length c.loop-rest.rest.now) 0 (sym c.is_empty.ensures ∙ c.loop-rest-test.true) in
    let more = one_line_more c.loop-rest.rest.now (omega arith) in
    let shorter = length-after_first is_line_feed c.loop-rest.rest.now (omega arith) in
    rw c.cut_line.ensures.after (omega arith, omega arith)

pub returns : goal.returns
unfolding line_total
returns c =
    let n = eqb-true (length c.loop-rest.rest.now) 0 (sym c.is_empty.ensures ∙ c.loop-rest-test.false) in
    omega (arith, no_more_lines c.loop-rest.rest.now n)
