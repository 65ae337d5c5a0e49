use Rattle.std.proofs.Common.{◌≡◌, ◌∙◌, List, None, Ok, Err, ℕ, sym, subst}
use Rattle.std.proofs.lemmas.Result.{err_from_is_err_and}
use Rattle.mesh_check.specs.FarChecking.{FarCheckAnswer}
use Rattle.tet_ports.specs.Seen.{FolderSeen, folder_seen}
use Rattle.tetfit_run.specs.Checks.{check_base, check_fault, checked_outputs}
use Rattle.tetfit_run.proofs.CheckedRuns.{fault_stops}
use Rattle.tetfit_run.proofs.checks.checked_mesh.Goals as goal

pub returns-in_err-count-clause-stopped : goal.returns-in_err-count-clause-stopped
returns-in_err-count-clause-stopped g c =
    let F = g.F.Folder in
    let words = c.args.words.now in
    let folder : FolderSeen = folder_seen F.state c.args.folder.now c.check_far_files.new.folder in
    let fault = c.in_err-count.field-0.0 in
    let base : c.in_ok-base.base ≡ check_base words = c.in_ok-base.ensures ∙ c.check_base.ensures in
    let none : check_fault words ≡ None = sym c.check_fault.ensures ∙ c.in_default.is in
    let p = err_from_is_err_and c.from_residual-in_err-count.result c.from_residual-in_err-count.ensures.1 in
    rw (p.1, p.2) (fault_stops words folder fault none (subst (λ (b : List ℕ). FarCheckAnswer folder b (Err fault)) base c.in_err-count.ensures.answer))

pub returns-clause-made : goal.returns-clause-made
returns-clause-made g c =
    let F = g.F.Folder in
    let words = c.args.words.now in
    let folder : FolderSeen = folder_seen F.state c.args.folder.now c.check_far_files.new.folder in
    let count = c.in_ok-count.count in
    let base : c.in_ok-base.base ≡ check_base words = c.in_ok-base.ensures ∙ c.check_base.ensures in
    let none : check_fault words ≡ None = sym c.check_fault.ensures ∙ c.in_default.is in
    (count, none, subst (λ (b : List ℕ). FarCheckAnswer folder b (Ok count)) base c.in_ok-count.ensures.answer, c.in_ok-checked_outputs.ensures ∙ (λ j. checked_outputs (c.asks_quiet.ensures j) count))
