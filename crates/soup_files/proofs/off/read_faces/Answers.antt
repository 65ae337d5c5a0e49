use Rattle.std.proofs.Common.{◌≡◌, ◌∙◌, ◌++◌, ◌∷◌, [], ℕ, sym, ap, subst, Result, Ok}
use Rattle.std.proofs.lemmas.Result.{err_from_is_err_and}
use Rattle.tet_text.specs.declared.fault.TextFault.{TextFault}
use Rattle.tet_text.specs.Views.{content_left, line_total}
use Rattle.plc_files.specs.Outcome.{PlcFails}
use Rattle.plc_files.specs.Text.{Plc}
use Rattle.plc_files.proofs.Repeats.{many_more, many_stop, many_all}
use Rattle.soup_files.specs.Off.{off_polygon}
use Rattle.soup_files.specs.Surface.{plus_face, plus_faces, face_onto, faces_onto}
use Rattle.soup_files.proofs.Faces.{faces_more}
use Rattle.soup_files.proofs.Faults.{fails_then, fails_before, face_found}
use Rattle.soup_files.proofs.off.read_faces.Goals as goal
use Rattle.tet_text.specs.Repeated.{so_many}
use Rattle.plc_files.specs.Facet.{Lines}

pub returns-in_err-read_face-clause-value : goal.returns-in_err-read_face-clause-value
returns-in_err-read_face-clause-value c =
    let inv = c.loop.invariant in
    let one = off_polygon (line_total c.args.lines.now) in
    let whole = so_many one c.args.count (content_left c.args.lines.now) in
    let p = err_from_is_err_and c.from_residual.result c.from_residual.ensures.1 in
    let fault = c.in_err-read_face.field-0.0 in
    let failed = subst (λ (total : ℕ). PlcFails fault (face_onto c.loop.text (off_polygon total (content_left c.loop.lines)))) inv.3 c.in_err-read_face.ensures.value in
    let stopped = fails_before fault (one (content_left c.loop.lines)) (λ x. (plus_face x.0 c.loop.text, x.1)) failed in
    rw (p.1, p.2) (fails_then fault whole (λ x. Ok (plus_faces x.0 c.args.text.now, x.1)) (many_stop one inv.0 c.args.count c.loop.counter (content_left c.loop.lines) fault whole c.loop-test.true stopped inv.2))

pub loop-preserved : goal.loop-preserved
loop-preserved c =
    let inv = c.loop.invariant in
    let one = off_polygon (line_total c.args.lines.now) in
    let whole = so_many one c.args.count (content_left c.args.lines.now) in
    let left = content_left c.read_face.new.lines in
    let read = subst (λ (total : ℕ). face_onto c.loop.text (off_polygon total (content_left c.loop.lines)) ≡ Ok (c.read_face.new.text, left)) inv.3 c.in_ok-read_face.ensures.value in
    let face = face_found c.loop.text c.read_face.new.text left (one (content_left c.loop.lines)) read in
    let text : c.read_face.new.text ≡ plus_faces (inv.0 ++ face.0 ∷ []) c.args.text.now = face.2 ∙ ap (plus_face face.0) inv.1 ∙ faces_more inv.0 face.0 c.args.text.now in
    (inv.0 ++ face.0 ∷ [], text, many_more one inv.0 c.args.count c.loop.counter (content_left c.loop.lines) left face.0 whole c.loop-test.true face.1 inv.2, c.in_ok-read_face.ensures.count ∙ inv.3)

pub returns-clause-value : goal.returns-clause-value
returns-clause-value c =
    let inv = c.loop.invariant in
    let one = off_polygon (line_total c.args.lines.now) in
    let whole = so_many one c.args.count (content_left c.args.lines.now) in
    let read = many_all one inv.0 c.args.count c.loop.counter (content_left c.loop.lines) whole c.loop-test.false inv.2 in
    ap (faces_onto c.args.text.now) read ∙ ap (λ (t : Plc). let made : Result (Plc × Lines) TextFault = Ok (t, content_left c.loop.lines) in made) (sym inv.1)
