use Rattle.std.proofs.Common.{◌≡◌, ◌∙◌, ◌++◌, ◌∷◌, [], ℕ, sym, ap, Result, Ok}
use Rattle.std.proofs.lemmas.Result.{err_from_is_err_and}
use Rattle.tet_text.specs.declared.fault.TextFault.{TextFault}
use Rattle.tet_text.specs.Reading.{Fields}
use Rattle.plc_files.specs.declared.fault.PlcFault.TheVariants as faults
use Rattle.plc_files.specs.declared.parts.CornerText.{CornerText}
use Rattle.plc_files.specs.Text.{Plc, with_corner}
use Rattle.plc_files.proofs.Repeats.{many_more, many_stop, many_all}
use Rattle.soup_files.specs.Off.{corner_at}
use Rattle.soup_files.specs.Surface.{plus_corners, corners_onto}
use Rattle.soup_files.proofs.Faces.{corners_keep, corners_more}
use Rattle.soup_files.proofs.Faults.{fails_then, corner_err, corner_ok}
use Rattle.soup_files.proofs.off.read_corners.Goals as goal
use Rattle.tet_text.specs.Repeated.{so_many}

pub returns-in_err-number : goal.returns-in_err-number
returns-in_err-number c =
    let inv = c.loop.invariant in
    let start = c.args.fields.now in
    let one = corner_at start.line in
    let whole = so_many one c.args.count start.fields in
    let p = err_from_is_err_and c.from_residual.result c.from_residual.ensures.1 in
    let fault = c.in_err-number.field-0.0 in
    let failed = corner_err c.loop.fields.line start.line c.loop.fields.fields fault inv.3 c.in_err-number.ensures.value in
    rw (p.1, p.2) (fails_then (faults.Text fault) whole (λ x. Ok (plus_corners x.0 c.args.text.now, x.1)) (many_stop one inv.0 c.args.count c.loop.counter c.loop.fields.fields (faults.Text fault) whole c.loop-test.true failed inv.2))

pub add_corner-requires : goal.add_corner-requires
add_corner-requires c =
    let inv = c.loop.invariant in
    rw inv.1 (corners_keep inv.0 c.args.text.now c.requires)

pub loop-preserved : goal.loop-preserved
loop-preserved c =
    let inv = c.loop.invariant in
    let start = c.args.fields.now in
    let one = corner_at start.line in
    let whole = so_many one c.args.count start.fields in
    let n = c.in_ok-number.number in
    let left = c.want_count.new.self.fields in
    let corner : CornerText = record { number = n; line = start.line } in
    let made = corner_ok c.loop.fields.line start.line n c.loop.fields.fields left inv.3 c.in_ok-number.ensures.value in
    let text : c.add_corner.new.self ≡ plus_corners (inv.0 ++ corner ∷ []) c.args.text.now =
    c.in_ok-add_corner.ensures.ok ∙ ap (λ (l : ℕ). with_corner n l c.loop.text) c.line-line.ensures ∙ ap (with_corner n start.line) inv.1 ∙ sym (corners_more inv.0 corner c.args.text.now) in
    (inv.0 ++ corner ∷ [], text, many_more one inv.0 c.args.count c.loop.counter c.loop.fields.fields left corner whole c.loop-test.true made inv.2, c.in_ok-number.ensures.line ∙ inv.3)

pub returns : goal.returns
returns c =
    let inv = c.loop.invariant in
    let start = c.args.fields.now in
    let one = corner_at start.line in
    let whole = so_many one c.args.count start.fields in
    let read = many_all one inv.0 c.args.count c.loop.counter c.loop.fields.fields whole c.loop-test.false inv.2 in
    ap (corners_onto c.args.text.now) read ∙ ap (λ (t : Plc). let made : Result (Plc × Fields) TextFault = Ok (t, c.loop.fields.fields) in made) (sym inv.1)
