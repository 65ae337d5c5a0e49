use Rattle.std.proofs.Common.{[], refl, sym, subst, Err, Ok}
use Rattle.std.specs.List.{slice_index_or}
use Rattle.std.proofs.lemmas.Result.{err_from_is_err_and}
use Rattle.tet_ports.specs.Seen.{FolderSeen, folder_seen}
use Rattle.tet_ports.specs.Seen.{SinkSeen, sink_seen}
use Rattle.tetwhere_run.specs.Locating.{LocateAnswer}
use Rattle.tetwhere_run.proofs.Ends.{refused_end, put_end}
use Rattle.tetwhere_run.proofs.run.run.Goals as goal

pub returns-in_err-lines-clause-ends : goal.returns-in_err-lines-clause-ends
returns-in_err-lines-clause-ends g c =
    let F = g.F.Folder in
    let O = g.O.Sink in
    let folder : FolderSeen = folder_seen F.state c.args.folder.now c.locate_files.new.folder in
    let out : SinkSeen = sink_seen O.state c.args.out.now c.args.out.now in
    let f = c.in_err-lines.field-0.0 in
    let named = subst (λ base. LocateAnswer folder base (slice_index_or c.args.words.now 1 []) (Err f)) (sym (c.word.ensures [])) (subst (λ queries. LocateAnswer folder c.word.result.now queries (Err f)) (sym (c.word-2.ensures [])) c.in_err-lines.ensures.answer) in
    let p = err_from_is_err_and c.from_residual.result c.from_residual.ensures.1 in
    rw (p.1, p.2) (refused_end c.args.words.now folder out f refl (sym c.in_default.ensures.fault, named))

pub returns-clause-ends : goal.returns-clause-ends
returns-clause-ends g c =
    let F = g.F.Folder in
    let O = g.O.Sink in
    let folder : FolderSeen = folder_seen F.state c.args.folder.now c.locate_files.new.folder in
    let out : SinkSeen = sink_seen O.state c.args.out.now c.put_lines.new.out in
    let lines = c.in_ok-lines.lines in
    let named = subst (λ base. LocateAnswer folder base (slice_index_or c.args.words.now 1 []) (Ok lines)) (sym (c.word.ensures [])) (subst (λ queries. LocateAnswer folder c.word.result.now queries (Ok lines)) (sym (c.word-2.ensures [])) c.in_ok-lines.ensures.answer) in
    put_end c.args.words.now folder out lines c.put_lines.result (sym c.in_default.ensures.fault, named) c.put_lines.ensures
