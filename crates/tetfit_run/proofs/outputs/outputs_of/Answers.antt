use Rattle.std.proofs.Common.{◌≡◌, Ok, sym, subst, ◌∙◌}
use Rattle.std.specs.Prelude.{IfOk, IfErr}
use Rattle.tetfit_run.specs.Words.{fit_name, fit_options, others, request_of}
use Rattle.tetfit_run.specs.declared.request.Request.TheVariants.{Check, Mesh}
use Rattle.tet_ports.specs.Seen.{FolderSeen, folder_seen}
use Rattle.tetgen_run.specs.Ends.{StopsSo}
use Rattle.tetfit_run.specs.Checks.{OutputsOfCheck}
use Rattle.tetfit_run.specs.Outputs.{MadeBy, OutputsOfFit, OutputsOfModel, OutputsOfWanted}
use Rattle.tetfit_run.specs.Run.{IsKnown, IsKnownBy, IsKnownOf}
use Rattle.tetgen_run.proofs.Refusals.{IsSilent}
use Rattle.tetfit_run.proofs.Fitted.{check_known, err_to, ok_to, wanted_made, wanted_stop}
use Rattle.tetfit_run.proofs.outputs.outputs_of.Goals as goal

pub returns-in_ok-wanted-in-Mesh-clause-made : goal.returns-in_ok-wanted-in-Mesh-clause-made
returns-in_ok-wanted-in-Mesh-clause-made g c =
    let F = g.F.Folder in
    let folder : FolderSeen = folder_seen F.state c.args.folder.now c.outputs_of_wanted.new.folder in
    let words = c.args.words.now in
    let wanted = c.in_ok-wanted-in-Mesh.wanted in
    let made = c.outputs_of_wanted.result in
    let asked : request_of words ≡ Mesh = sym c.request_of.ensures ∙ c.in-Mesh.is in
    subst (λ r. IfOk made (λ outputs. MadeBy r words folder (Ok outputs))) (sym asked)
    (ok_to made (λ outputs. OutputsOfWanted wanted folder (Ok outputs)) (λ outputs. OutputsOfModel (others words) folder (Ok outputs))
    (λ outputs h. wanted_made (others words) folder wanted outputs c.in_ok-wanted-in-Mesh.ensures.understood h) c.outputs_of_wanted.ensures.made)

pub returns-in_ok-wanted-in-Mesh-clause-stopped : goal.returns-in_ok-wanted-in-Mesh-clause-stopped
returns-in_ok-wanted-in-Mesh-clause-stopped g c =
    let F = g.F.Folder in
    let folder : FolderSeen = folder_seen F.state c.args.folder.now c.outputs_of_wanted.new.folder in
    let hint = c.outputs_of_wanted.new.hint in
    let words = c.args.words.now in
    let wanted = c.in_ok-wanted-in-Mesh.wanted in
    let made = c.outputs_of_wanted.result in
    let name = fit_name (others words) in
    let options = fit_options (others words) in
    let asked : request_of words ≡ Mesh = sym c.request_of.ensures ∙ c.in-Mesh.is in
    subst (λ r. IfErr made (StopsSo (MadeBy r words folder) (IsKnownBy r name options folder hint))) (sym asked)
    (err_to made (StopsSo (OutputsOfWanted wanted folder) (IsKnownOf wanted.name wanted.options folder hint)) (StopsSo (OutputsOfModel (others words) folder) (IsKnownOf name options folder hint))
    (λ stop h. wanted_stop (others words) folder hint wanted stop c.in_ok-wanted-in-Mesh.ensures.understood h) c.outputs_of_wanted.ensures.stopped)

pub returns-in-Check-clause-made : goal.returns-in-Check-clause-made
returns-in-Check-clause-made g c =
    let F = g.F.Folder in
    let folder : FolderSeen = folder_seen F.state c.args.folder.now c.outputs_of_check.new.folder in
    let words = c.args.words.now in
    let asked : request_of words ≡ Check = sym c.request_of.ensures ∙ c.in-Check.is in
    subst (λ r. IfOk c.outputs_of_check.result (λ outputs. MadeBy r words folder (Ok outputs))) (sym asked) c.outputs_of_check.ensures.made

pub returns-in-Check-clause-stopped : goal.returns-in-Check-clause-stopped
returns-in-Check-clause-stopped g c =
    let F = g.F.Folder in
    let folder : FolderSeen = folder_seen F.state c.args.folder.now c.outputs_of_check.new.folder in
    let hint = c.args.hint.now in
    let words = c.args.words.now in
    let asked : request_of words ≡ Check = sym c.request_of.ensures ∙ c.in-Check.is in
    err_to c.outputs_of_check.result (StopsSo (OutputsOfCheck (others words) folder) (λ status by. IsSilent status)) (StopsSo (OutputsOfFit words folder) (IsKnown words folder hint))
    (λ stop h. check_known words folder hint stop asked h) c.outputs_of_check.ensures.stopped
