use Rattle.std.proofs.Common.{◌≡◌, ◌∙◌, ◌+◌, ◌-◌, ◌++◌, ◌∷◌, [], List, sym, ap, subst, ℕ, Ok, Err, arith, refl}
use Rattle.std.proofs.lemmas.Result.{err_from_is_err_and}
use Rattle.tet_text.specs.Lines.{ContentLine}
use Rattle.tet_text.specs.Views.{content_left, line_total}
use Rattle.mesh_files.specs.Repeated.{next_row}
use Rattle.std.proofs.lemmas.List.Elements.{All-push}
use Rattle.mesh_files.specs.declared.fault.MeshFault.TheVariants as faults
use Rattle.mesh_files.proofs.Repeats.{many_none, many_more, many_stop, many_all}
use Rattle.mesh_files.proofs.rows.read_rows.Goals as goal
use Rattle.tet_text.specs.Repeated.{so_many, onto}

pub loop-i-init : goal.loop-i-init
loop-i-init g c =
    let one = next_row (g.R.Row.row_of c.args.listed c.args.head.flag) (line_total c.args.lines.now) in
    let count : c.args.head.count - 0 ≡ c.args.head.count = omega arith in
    let number : c.args.listed.first + 0 ≡ c.args.listed.first = omega arith in
    (rw (c.new-rows.ensures, count, number) (many_none (so_many one c.args.head.count (c.args.listed.first, content_left c.args.lines.now))), refl, rw c.new-rows.ensures (λ k d lt. absurd (omega arith)))

pub returns-in_err-row-clause-value : goal.returns-in_err-row-clause-value
returns-in_err-row-clause-value g c =
    let one = next_row (g.R.Row.row_of c.args.listed c.args.head.flag) (line_total c.args.lines.now) in
    let whole = so_many one c.args.head.count (c.args.listed.first, content_left c.args.lines.now) in
    let p = err_from_is_err_and c.from_residual.result c.from_residual.ensures.1 in
    let place : ℕ × List ContentLine = (c.args.listed.first + c.loop-i.i, content_left c.loop-i.lines) in
    let number : c.from.result + c.loop-i.i ≡ c.args.listed.first + c.loop-i.i = ap (λ (n : ℕ). n + c.loop-i.i) c.from.ensures in
    let failed = subst (λ (total : ℕ). next_row (g.R.Row.row_of c.args.listed c.args.head.flag) total place ≡ Err c.in_err-row.field-0.0) c.loop-i.invariant.1
    (subst (λ (n : ℕ). next_row (g.R.Row.row_of c.args.listed c.args.head.flag) (line_total c.loop-i.lines) (n, content_left c.loop-i.lines) ≡ Err c.in_err-row.field-0.0) number (sym c.in_err-row.ensures.value)) in
    rw (p.1, p.2) (many_stop one c.loop-i.rows c.args.head.count c.loop-i.i place (faults.Text c.in_err-row.field-0.0) whole c.loop-i-test.true failed c.loop-i.invariant.0)

pub loop-i-preserved : goal.loop-i-preserved
loop-i-preserved g c =
    let one = next_row (g.R.Row.row_of c.args.listed c.args.head.flag) (line_total c.args.lines.now) in
    let whole = so_many one c.args.head.count (c.args.listed.first, content_left c.args.lines.now) in
    let i = c.loop-i.i in
    let left = content_left c.read_next.new.lines in
    let number : c.from.result + i ≡ c.args.listed.first + i = ap (λ (n : ℕ). n + i) c.from.ensures in
    let next : c.args.listed.first + i + 1 ≡ c.args.listed.first + (i + 1) = omega arith in
    let made = subst (λ (total : ℕ). next_row (g.R.Row.row_of c.args.listed c.args.head.flag) total (c.args.listed.first + i, content_left c.loop-i.lines) ≡ Ok (c.in_ok-row.row, (c.args.listed.first + i + 1, left))) c.loop-i.invariant.1
    (subst (λ (n : ℕ). next_row (g.R.Row.row_of c.args.listed c.args.head.flag) (line_total c.loop-i.lines) (n, content_left c.loop-i.lines) ≡ Ok (c.in_ok-row.row, (n + 1, left))) number (sym c.in_ok-row.ensures.value)) in (
      rw c.in_ok-push.ensures.ok
          (subst (λ (n : ℕ). onto (c.loop-i.rows ++ c.in_ok-row.row ∷ []) (so_many one (c.args.head.count - (i + 1)) (n, left)) ≡ whole) next
          (many_more one c.loop-i.rows c.args.head.count i (c.args.listed.first + i, content_left c.loop-i.lines) (c.args.listed.first + i + 1, left) c.in_ok-row.row whole c.loop-i-test.true made c.loop-i.invariant.0)),
      c.in_ok-row.ensures.count ∙ c.loop-i.invariant.1,
      rw c.in_ok-push.ensures.ok (All-push (g.R.Row.is_below c.args.listed.points) c.loop-i.rows c.in_ok-row.row c.loop-i.invariant.2 c.in_ok-row.ensures.there),
    )

pub returns-clause-value : goal.returns-clause-value
returns-clause-value g c =
    let one = next_row (g.R.Row.row_of c.args.listed c.args.head.flag) (line_total c.args.lines.now) in
    let whole = so_many one c.args.head.count (c.args.listed.first, content_left c.args.lines.now) in
    let all : c.loop-i.i ≡ c.args.head.count = omega arith in
    subst (λ (n : ℕ). whole ≡ Ok (c.loop-i.rows, (c.args.listed.first + n, content_left c.loop-i.lines))) all
    (many_all one c.loop-i.rows c.args.head.count c.loop-i.i (c.args.listed.first + c.loop-i.i, content_left c.loop-i.lines) whole (omega arith) c.loop-i.invariant.0)
