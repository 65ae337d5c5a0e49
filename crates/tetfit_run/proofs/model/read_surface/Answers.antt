use Rattle.std.proofs.Common.{Some, Ok, ◌∙◌}
use Rattle.std.proofs.lemmas.Result.{err_from_is_err_and}
use Rattle.run_steps.specs.Reading.{NodesAnswer, BoundedAnswer}
use Rattle.tet_ports.specs.Seen.{FolderSeen, folder_seen}
use Rattle.run_steps.specs.Steps.{AndThen}
use Rattle.run_steps.proofs.Steps.{and_then_ok}
use Rattle.tet_ports.proofs.Windows.{IsWithin, first_within, last_within}
use Rattle.run_steps.proofs.Wider.{bounded_wider}
use Rattle.tetfit_run.specs.Models.{input_in, SurfaceAnswer, SurfaceInputAnswer}
use Rattle.tetfit_run.specs.Keyword.{TellsBadText}
use Rattle.run_steps.specs.declared.status.Status.{Status}
use Rattle.tetfit_run.proofs.Keywords.{each_told, fetch_told, keyword_told}
use Rattle.tetfit_run.proofs.Models.{moved_on, stated_told, surface_fetched, surface_wider}
use Rattle.tetfit_run.proofs.model.read_surface.Goals as goal

pub returns-clause-answer : goal.returns-clause-answer
returns-clause-answer g c =
    let F = g.F.Folder in
    let l = c.args.limits in
    let name = c.args.named.now.name.now in
    let base = c.args.named.now.base.now in
    let form = c.args.named.now.form in
    let file = c.in_ok-file.file in
    let surface = c.in_ok-surface.surface in
    let first : FolderSeen = folder_seen F.state c.args.folder.now c.fetch.new.folder in
    let second : FolderSeen = folder_seen F.state c.fetch.new.folder c.with_points-read.new.folder in
    let wide : FolderSeen = folder_seen F.state c.args.folder.now c.with_points-read.new.folder in
    let a = c.in_ok-file.ensures in
    let b = c.with_points-read.ensures in
    let one : IsWithin first wide = first_within F.state c.args.folder.now c.fetch.new.folder c.with_points-read.new.folder b.only_read in
    let two : IsWithin second wide = last_within F.state c.args.folder.now c.fetch.new.folder c.with_points-read.new.folder a.only_read in
    let read = surface_fetched l first name form c.in_ok-asked.asked file.name file.bytes (Ok surface) (c.in_ok-asked.ensures ∙ c.as_slice.ensures) a.named a.read c.in_ok-surface.ensures.answer in
    moved_on c.args.unit (SurfaceInputAnswer l wide name base form) c.with_points-read.result (input_in c.with_stated.result)
    (and_then_ok (SurfaceAnswer l wide name form) (λ f. AndThen (NodesAnswer l wide base f.text.nodes) (BoundedAnswer f)) surface c.with_points-read.result
    (surface_wider l first wide one name form (Ok surface) read) (bounded_wider l second wide two base surface c.with_points-read.result b.answer)) c.with_stated.ensures.input

pub returns-clause-stated : goal.returns-clause-stated
returns-clause-stated g c =
    let F = g.F.Folder in
    let file = c.in_ok-file.file in
    let wide : FolderSeen = folder_seen F.state c.args.folder.now c.with_points-read.new.folder in
    let a = c.in_ok-file.ensures in
    stated_told c.args.limits wide c.args.named.now.name.now c.args.named.now.form c.in_ok-asked.asked file.bytes c.stated_of-stated.result c.with_stated.result (c.in_ok-asked.ensures ∙ c.as_slice.ensures) a.read c.stated_of-stated.ensures c.with_stated.ensures.stated

pub returns-clause-told : goal.returns-clause-told
returns-clause-told g c =
    let F = g.F.Folder in
    let file = c.in_ok-file.file in
    let name = c.args.named.now.name.now in
    let form = c.args.named.now.form in
    let hint = c.in_ok-hint.field-0 in
    let wide : FolderSeen = folder_seen F.state c.args.folder.now c.with_points-read.new.folder in
    let a = c.in_ok-file.ensures in
    each_told (TellsBadText (Some form) wide name hint) c.with_stated.result
    (λ (s : Status). keyword_told c.args.limits wide name form c.in_ok-asked.asked file.bytes hint s (c.in_ok-asked.ensures ∙ c.as_slice.ensures) a.read c.in_ok-hint.ensures)

pub returns-in_err-file-clause-told : goal.returns-in_err-file-clause-told
returns-in_err-file-clause-told g c =
    let F = g.F.Folder in
    let seen : FolderSeen = folder_seen F.state c.args.folder.now c.fetch.new.folder in
    let result = c.from_residual-in_err-file.result in
    let p = err_from_is_err_and result c.from_residual-in_err-file.ensures.1 in
    rw (p.1, p.2) (fetch_told c.args.limits seen c.in_ok-asked.asked (Some c.args.named.now.form) c.args.named.now.name.now c.args.hint.now c.in_err-file.field-0.0 c.in_err-file.ensures.err)

pub returns-in_err-surface-clause-told : goal.returns-in_err-surface-clause-told
returns-in_err-surface-clause-told g c =
    let F = g.F.Folder in
    let file = c.in_ok-file.file in
    let name = c.args.named.now.name.now in
    let form = c.args.named.now.form in
    let hint = c.in_ok-hint.field-0 in
    let wide : FolderSeen = folder_seen F.state c.args.folder.now c.fetch.new.folder in
    each_told (TellsBadText (Some form) wide name hint) c.from_residual-in_err-surface.result
    (λ (s : Status). keyword_told c.args.limits wide name form c.in_ok-asked.asked file.bytes hint s (c.in_ok-asked.ensures ∙ c.as_slice.ensures) c.in_ok-file.ensures.read c.in_ok-hint.ensures)
