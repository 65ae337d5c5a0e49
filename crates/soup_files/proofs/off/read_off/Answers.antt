use Rattle.std.proofs.Common.{ap, length, arith}
use Rattle.std.proofs.lemmas.Result.{IfOk-weaker}
use Rattle.tet_text.specs.Views.{content_left, line_total}
use Rattle.tet_text.proofs.ContentLines.{content_left_few}
use Rattle.soup_files.specs.declared.fields.Grammar.TheVariants.{Strict}
use Rattle.soup_files.proofs.Whole.{off_read}
use Rattle.soup_files.proofs.off.read_off.Goals as goal

pub returns-clause-attributes : goal.returns-clause-attributes
returns-clause-attributes c =
    let lines = c.new-lines.result in
    let small = off_read Strict (line_total lines) (content_left lines) c.read_lines.result c.read_lines.ensures (omega (arith, content_left_few lines, c.new-lines.ensures.short, ap length c.as_slice.ensures, c.requires)) in
    IfOk-weaker c.read_lines.result _ _ (λ t s. s.attributes) small

pub returns-clause-few : goal.returns-clause-few
returns-clause-few c =
    let lines = c.new-lines.result in
    let small = off_read Strict (line_total lines) (content_left lines) c.read_lines.result c.read_lines.ensures (omega (arith, content_left_few lines, c.new-lines.ensures.short, ap length c.as_slice.ensures, c.requires)) in
    IfOk-weaker c.read_lines.result _ _ (λ t s. s.few) small
