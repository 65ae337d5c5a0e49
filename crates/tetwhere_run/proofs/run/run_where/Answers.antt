use Rattle.std.proofs.Common.{subst}
use Rattle.tet_ports.specs.Seen.{FolderSeen, folder_seen}
use Rattle.tet_ports.specs.Seen.{SinkSeen, sink_seen}
use Rattle.tetwhere_run.specs.Run.{QueryEndsSo}
use Rattle.tetwhere_run.specs.declared.status.WhereStatus.TheVariants.{Done}
use Rattle.tetwhere_run.proofs.Complete.{answer_complete}
use Rattle.tetwhere_run.proofs.Ends.{refusal_answer, refusal_told}
use Rattle.tetwhere_run.proofs.run.run_where.Goals as goal

pub returns-in-Ok-clause-complete : goal.returns-in-Ok-clause-complete
returns-in-Ok-clause-complete g c =
    let F = g.F.Folder in
    let O = g.O.Sink in
    let folder : FolderSeen = folder_seen F.state c.args.folder.now c.run.new.folder in
    let out : SinkSeen = sink_seen O.state c.args.out.now c.run.new.out in
    answer_complete c.args.words.now folder out Done (subst (QueryEndsSo c.args.words.now folder out) c.in-Ok.is c.run.ensures.ends)

pub returns-in-Err-clause-complete : goal.returns-in-Err-clause-complete
returns-in-Err-clause-complete g c =
    let F = g.F.Folder in
    let O = g.O.Sink in
    let E = g.E.Sink in
    let folder : FolderSeen = folder_seen F.state c.args.folder.now c.run.new.folder in
    let out : SinkSeen = sink_seen O.state c.args.out.now c.run.new.out in
    let err : SinkSeen = sink_seen E.state c.args.err.now c.tell.new.err in
    let ended = subst (QueryEndsSo c.args.words.now folder out) c.in-Err.is c.run.ensures.ends in
    answer_complete c.args.words.now folder out c.tell.result (refusal_answer c.args.words.now folder out err c.in-Err.status c.tell.result ended c.tell.ensures)

pub returns-in-Err-clause-told : goal.returns-in-Err-clause-told
returns-in-Err-clause-told g c =
    let F = g.F.Folder in
    let O = g.O.Sink in
    let E = g.E.Sink in
    let folder : FolderSeen = folder_seen F.state c.args.folder.now c.run.new.folder in
    let out : SinkSeen = sink_seen O.state c.args.out.now c.run.new.out in
    let err : SinkSeen = sink_seen E.state c.args.err.now c.tell.new.err in
    let ended = subst (QueryEndsSo c.args.words.now folder out) c.in-Err.is c.run.ensures.ends in
    refusal_told err c.in-Err.status c.tell.result ended.0 c.tell.ensures
