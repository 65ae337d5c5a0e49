use Rattle.std.proofs.Common.{List, ℕ, Ok, subst}
use Rattle.std.specs.Prelude.{IfOk}
use Rattle.tet_ports.specs.Seen.{FolderSeen, folder_seen}
use Rattle.tetfit_run.specs.Checks.{OutputsOfCheck}
use Rattle.tetfit_run.proofs.checks.outputs_of_check.Goals as goal

pub returns-clause-made : goal.returns-clause-made
returns-clause-made g c =
    let F = g.F.Folder in
    let folder : FolderSeen = folder_seen F.state c.args.folder.now c.checked_mesh.new.folder in
    subst (λ (words : List (List ℕ)). IfOk c.checked_mesh.result (λ outputs. OutputsOfCheck words folder (Ok outputs))) c.in_ok-all.ensures c.checked_mesh.ensures.made
