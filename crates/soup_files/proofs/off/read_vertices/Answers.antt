use Rattle.std.proofs.Common.{◌≡◌, ◌∙◌, sym, subst, ℕ, Ok, Err}
use Rattle.std.proofs.lemmas.Result.{err_from_is_err_and}
use Rattle.tet_text.specs.Views.{content_left, line_total}
use Rattle.soup_files.specs.Off.{vertex_line}
use Rattle.plc_files.specs.declared.fault.PlcFault.TheVariants as faults
use Rattle.plc_files.proofs.Repeats.{many_more, many_stop, many_all}
use Rattle.soup_files.proofs.off.read_vertices.Goals as goal
use Rattle.tet_text.specs.Repeated.{so_many}

pub returns-in_err-point-clause-value : goal.returns-in_err-point-clause-value
returns-in_err-point-clause-value c =
    let one = vertex_line c.args.grammar (line_total c.args.lines.now) in
    let whole = so_many one c.args.count (content_left c.args.lines.now) in
    let p = err_from_is_err_and c.from_residual.result c.from_residual.ensures.1 in
    let failed = subst (λ (total : ℕ). vertex_line c.args.grammar total (content_left c.loop.lines) ≡ Err c.in_err-point.field-0.0) c.loop.invariant.1 (sym c.in_err-point.ensures.value) in
    rw (p.1, p.2) (many_stop one c.loop.points c.args.count c.loop.counter (content_left c.loop.lines) (faults.Text c.in_err-point.field-0.0) whole c.loop-test.true failed c.loop.invariant.0)

pub loop-preserved : goal.loop-preserved
loop-preserved c =
    let one = vertex_line c.args.grammar (line_total c.args.lines.now) in
    let whole = so_many one c.args.count (content_left c.args.lines.now) in
    let made = subst (λ (total : ℕ). vertex_line c.args.grammar total (content_left c.loop.lines) ≡ Ok (c.in_ok-point.point, (content_left c.read_vertex.new.lines))) c.loop.invariant.1 (sym c.in_ok-point.ensures.value) in
    (rw c.in_ok-push.ensures.ok (many_more one c.loop.points c.args.count c.loop.counter (content_left c.loop.lines) (content_left c.read_vertex.new.lines) c.in_ok-point.point whole c.loop-test.true made c.loop.invariant.0), c.in_ok-point.ensures.count ∙ c.loop.invariant.1)

pub returns-clause-value : goal.returns-clause-value
returns-clause-value c =
    let one = vertex_line c.args.grammar (line_total c.args.lines.now) in
    many_all one c.loop.points c.args.count c.loop.counter (content_left c.loop.lines) (so_many one c.args.count (content_left c.args.lines.now)) c.loop-test.false c.loop.invariant.0
