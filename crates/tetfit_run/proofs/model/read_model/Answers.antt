use Rattle.std.proofs.Common.{sym, ◌∙◌}
use Rattle.tet_ports.specs.Seen.{FolderSeen, folder_seen}
use Rattle.tetfit_run.specs.Models.{named_surface}
use Rattle.tetfit_run.proofs.Keywords.{other_told}
use Rattle.tetfit_run.proofs.model.read_model.Goals as goal

pub returns-in-None-clause-told : goal.returns-in-None-clause-told
returns-in-None-clause-told g c =
    let F = g.F.Folder in
    let folder : FolderSeen = folder_seen F.state c.args.folder.now c.read_input-read.new.folder in
    other_told (named_surface c.args.options.now) folder c.args.name.now c.args.hint.now c.with_stated.result (sym c.named_surface.ensures ∙ c.in-None.is) c.requires.none
