use Rattle.std.proofs.Common.{Ok, Err, subst}
use Rattle.std.proofs.lemmas.Result.{err_from_is_err_and}
use Rattle.tetfit_run.specs.Models.{ModelAnswer}
use Rattle.tet_ports.specs.Seen.{FolderSeen, folder_seen}
use Rattle.tetgen_run.specs.Ends.{StopsSo}
use Rattle.tetfit_run.specs.Outputs.{IsFittedTo, OutputsOfWanted}
use Rattle.std.specs.Prelude.{IfErr}
use Rattle.tetfit_run.specs.Measured.{with_origin}
use Rattle.tetfit_run.specs.Run.{IsKnownOf, IsUnfitted}
use Rattle.tetfit_run.specs.declared.wanted.Wanted.{Wanted}
use Rattle.tetfit_run.proofs.Fitted.{err_to, model_stops, ok_to, unfitted_stops}
use Rattle.tetfit_run.proofs.outputs.outputs_of_wanted.Goals as goal

pub returns-in_err-model-clause-stopped : goal.returns-in_err-model-clause-stopped
returns-in_err-model-clause-stopped g c =
    let F = g.F.Folder in
    let folder : FolderSeen = folder_seen F.state c.args.folder.now c.read_model.new.folder in
    let wanted = c.args.wanted.now in
    let options = wanted.options in
    let status = c.in_err-model.field-0.0 in
    let p = err_from_is_err_and c.from_residual.result c.from_residual.ensures.1 in
    rw (p.1, p.2) (model_stops folder wanted c.read_model.new.hint status (subst (λ limits. ModelAnswer limits folder wanted.name options (Err status)) c.fit_limits.ensures.values c.in_err-model.ensures.answer) c.in_err-model.ensures.told)

pub returns-clause-stopped : goal.returns-clause-stopped
returns-clause-stopped g c =
    let F = g.F.Folder in
    let folder : FolderSeen = folder_seen F.state c.args.folder.now c.read_model.new.folder in
    let wanted = c.args.wanted.now in
    let options = wanted.options in
    let model = c.in_ok-model.model in
    let hint = c.fitted_outputs.new.hint in
    let read = subst (λ limits. ModelAnswer limits folder wanted.name options (Ok model.input)) c.fit_limits.ensures.values c.in_ok-model.ensures.answer in
    let unfitted = subst (λ (q : Wanted). IfErr c.fitted_outputs.result (IsUnfitted q.options model hint)) c.in_ok-placed.ensures.value c.fitted_outputs.ensures.stopped in
    err_to c.fitted_outputs.result (IsUnfitted (with_origin model.input options) model hint) (StopsSo (OutputsOfWanted wanted folder) (IsKnownOf wanted.name options folder hint))
    (λ stop. unfitted_stops folder wanted model hint stop read c.in_ok-model.ensures.stated) unfitted

pub returns-clause-made : goal.returns-clause-made
returns-clause-made g c =
    let F = g.F.Folder in
    let folder : FolderSeen = folder_seen F.state c.args.folder.now c.read_model.new.folder in
    let wanted = c.args.wanted.now in
    let input = c.in_ok-model.model.input in
    let read = subst (λ limits. ModelAnswer limits folder wanted.name wanted.options (Ok input)) c.fit_limits.ensures.values c.in_ok-model.ensures.answer in
    ok_to c.fitted_outputs.result (λ outputs. IsFittedTo c.in_ok-placed.placed input (Ok outputs)) (λ outputs. OutputsOfWanted wanted folder (Ok outputs))
    (λ outputs made. (input, read, subst (λ (q : Wanted). IsFittedTo q input (Ok outputs)) c.in_ok-placed.ensures.value made)) c.fitted_outputs.ensures.made
