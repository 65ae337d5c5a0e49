use Rattle.std.proofs.Common.{◌≡◌, ◌-◌, refl, sym, ◌∙◌, arith}
use Rattle.std.proofs.lemmas.Result.{err_from_is_err_and}
use Rattle.tet_text.specs.Views.{content_left, line_total}
use Rattle.node_files.specs.Node.{points_table}
use Rattle.node_files.proofs.Points.{points_none, points_more, points_end, points_stop, points_all}
use Rattle.node_files.proofs.reading.read_points.Goals as goal

pub loop-init : goal.loop-init
loop-init c =
    let header = c.args.header in
    let whole : header.count - 0 ≡ header.count = omega arith in
    (rw (whole, c.new.ensures, c.new-2.ensures, c.new-3.ensures) (points_none header (line_total c.args.lines.now) (content_left c.args.lines.now)), refl)

pub returns-in_err-fields-clause-value : goal.returns-in_err-fields-clause-value
returns-in_err-fields-clause-value c =
    let p = err_from_is_err_and c.from_residual.result c.from_residual.ensures.1 in
    let whole = points_table c.args.header (line_total c.args.lines.now) (content_left c.args.lines.now) in
    rw (p.1, p.2) (points_end c.args.header c.loop.before c.loop.text c.loop.counter (line_total c.loop.lines) (content_left c.loop.lines) c.in_err-fields.field-0.0 whole c.loop-test.true (sym c.in_err-fields.ensures.value) c.loop.invariant.0)

pub returns-in_err-number-clause-value : goal.returns-in_err-number-clause-value
returns-in_err-number-clause-value c =
    let p = err_from_is_err_and c.from_residual-in_err-number.result c.from_residual-in_err-number.ensures.1 in
    let whole = points_table c.args.header (line_total c.args.lines.now) (content_left c.args.lines.now) in
    rw (p.1, p.2) (points_stop c.args.header c.loop.before c.loop.text c.loop.counter (line_total c.loop.lines) (content_left c.loop.lines) (content_left c.want_line.new.self) c.in_ok-fields.fields c.in_err-number.field-0.0 whole c.loop-test.true (sym c.in_ok-fields.ensures.value) c.in_err-number.ensures c.loop.invariant.0)

pub loop-preserved : goal.loop-preserved
loop-preserved c =
    let whole = points_table c.args.header (line_total c.args.lines.now) (content_left c.args.lines.now) in
    (rw c.in_ok-fields.ensures.count (points_more c.args.header c.loop.before c.loop.text c.read_point.new.text c.in_ok-number.number c.loop.counter (line_total c.loop.lines) (content_left c.loop.lines) (content_left c.want_line.new.self) c.in_ok-fields.fields whole c.loop-test.true (sym c.in_ok-fields.ensures.value) c.in_ok-number.ensures c.loop.invariant.0), c.in_ok-fields.ensures.count ∙ c.loop.invariant.1)

pub returns-clause-value : goal.returns-clause-value
returns-clause-value c =
    let whole = points_table c.args.header (line_total c.args.lines.now) (content_left c.args.lines.now) in
    points_all c.args.header c.loop.before c.loop.text c.loop.counter (line_total c.loop.lines) (content_left c.loop.lines) whole c.loop-test.false c.loop.invariant.0
