use Rattle.std.proofs.Common.{◌≡◌, refl, subst}
use Rattle.std.proofs.lemmas.Result.{err_from_is_err_and}
use Rattle.tet_ports.specs.Seen.{FolderSeen, SinkSeen, folder_seen, sink_seen}
use Rattle.run_steps.specs.Stores.{AreLeft, with_files}
use Rattle.tetgen_run.specs.Ends.{IsSummed}
use Rattle.tetgen_run.proofs.Endings.{store_finishes, summed_finishes, unstored_finishes}
use Rattle.tetgen_run.proofs.ends.finish.Goals as goal

pub returns-in_err-text-clause-finish : goal.returns-in_err-text-clause-finish
returns-in_err-text-clause-finish g c =
    let folder : FolderSeen = folder_seen g.F.Folder.state c.args.folder.now c.args.folder.now in
    let out : SinkSeen = sink_seen g.O.Sink.state c.args.out.now c.args.out.now in
    let p = err_from_is_err_and c.from_residual.result c.from_residual.ensures.1 in
    rw (p.1, p.2) (unstored_finishes c.args.outputs folder out refl refl)

pub returns-in_err-store_all-clause-finish : goal.returns-in_err-store_all-clause-finish
returns-in_err-store_all-clause-finish g c =
    let F = g.F.Folder in
    let O = g.O.Sink in
    let folder : FolderSeen = folder_seen F.state c.args.folder.now c.store_all.new.folder in
    let out : SinkSeen = sink_seen O.state c.args.out.now c.args.out.now in
    let stop = c.in_err-store_all.field-0.0 in
    let left = subst (λ texts. AreLeft (F.state c.args.folder.now).files texts (F.state c.store_all.new.folder).files stop) c.in_ok-in_order.ensures c.in_err-store_all.ensures.stopped in
    let p = err_from_is_err_and c.from_residual-in_err-store_all.result c.from_residual-in_err-store_all.ensures.1 in
    rw (p.1, p.2) (store_finishes c.args.outputs folder out stop left c.in_err-store_all.ensures.failed refl)

pub returns-clause-finish : goal.returns-clause-finish
returns-clause-finish g c =
    let F = g.F.Folder in
    let O = g.O.Sink in
    let folder : FolderSeen = folder_seen F.state c.args.folder.now c.store_all.new.folder in
    let out : SinkSeen = sink_seen O.state c.args.out.now c.sum_up.new.out in
    let stored = subst (λ texts. (F.state c.store_all.new.folder).files ≡ with_files (F.state c.args.folder.now).files texts) c.in_ok-in_order.ensures c.in_ok-store_all.ensures.stored in
    let summed = subst (λ text. IsSummed text out c.sum_up.result) c.in_ok-text.ensures c.sum_up.ensures in
    summed_finishes c.args.outputs folder out c.sum_up.result stored summed
