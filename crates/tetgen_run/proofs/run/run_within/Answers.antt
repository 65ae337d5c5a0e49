use Rattle.std.proofs.Common.{subst, Ok}
use Rattle.tetgen_run.specs.Steps.{EndsSo}
use Rattle.tet_ports.specs.Seen.{FolderSeen, SinkSeen, folder_seen, sink_seen}
use Rattle.tetgen_run.proofs.Runs.{end_answer, end_left, answer_complete, stop_answer, stop_left, stop_told}
use Rattle.tetgen_run.proofs.run.run_within.Goals as goal

pub returns-in-Ok-clause-complete : goal.returns-in-Ok-clause-complete
returns-in-Ok-clause-complete g c =
    let F = g.F.Folder in
    let O = g.O.Sink in
    let folder : FolderSeen = folder_seen F.state c.args.folder.now c.run.new.folder in
    let out : SinkSeen = sink_seen O.state c.args.out.now c.run.new.out in
    let ended = subst (EndsSo c.args.limits c.args.words.now folder out) c.in-Ok.is c.run.ensures in
    answer_complete c.args.limits c.args.words.now folder out _ (end_answer c.args.limits c.args.words.now folder out (Ok c.in-Ok.field-0) ended)

pub returns-in-Ok-clause-left : goal.returns-in-Ok-clause-left
returns-in-Ok-clause-left g c =
    let F = g.F.Folder in
    let O = g.O.Sink in
    let folder : FolderSeen = folder_seen F.state c.args.folder.now c.run.new.folder in
    let out : SinkSeen = sink_seen O.state c.args.out.now c.run.new.out in
    let ended = subst (EndsSo c.args.limits c.args.words.now folder out) c.in-Ok.is c.run.ensures in
    end_left c.args.limits c.args.words.now folder out (Ok c.in-Ok.field-0) ended

pub returns-in-Err-clause-answer : goal.returns-in-Err-clause-answer
returns-in-Err-clause-answer g c =
    let F = g.F.Folder in
    let O = g.O.Sink in
    let E = g.E.Sink in
    let folder : FolderSeen = folder_seen F.state c.args.folder.now c.run.new.folder in
    let out : SinkSeen = sink_seen O.state c.args.out.now c.run.new.out in
    let err : SinkSeen = sink_seen E.state c.args.err.now c.tell.new.err in
    let ended = subst (EndsSo c.args.limits c.args.words.now folder out) c.in-Err.is c.run.ensures in
    stop_answer c.args.limits c.args.words.now folder out err c.in-Err.stop c.tell.result ended c.tell.ensures

pub returns-in-Err-clause-complete : goal.returns-in-Err-clause-complete
returns-in-Err-clause-complete g c =
    let F = g.F.Folder in
    let O = g.O.Sink in
    let E = g.E.Sink in
    let folder : FolderSeen = folder_seen F.state c.args.folder.now c.run.new.folder in
    let out : SinkSeen = sink_seen O.state c.args.out.now c.run.new.out in
    let err : SinkSeen = sink_seen E.state c.args.err.now c.tell.new.err in
    let ended = subst (EndsSo c.args.limits c.args.words.now folder out) c.in-Err.is c.run.ensures in
    answer_complete c.args.limits c.args.words.now folder out c.tell.result (stop_answer c.args.limits c.args.words.now folder out err c.in-Err.stop c.tell.result ended c.tell.ensures)

pub returns-in-Err-clause-left : goal.returns-in-Err-clause-left
returns-in-Err-clause-left g c =
    let F = g.F.Folder in
    let O = g.O.Sink in
    let E = g.E.Sink in
    let folder : FolderSeen = folder_seen F.state c.args.folder.now c.run.new.folder in
    let out : SinkSeen = sink_seen O.state c.args.out.now c.run.new.out in
    let err : SinkSeen = sink_seen E.state c.args.err.now c.tell.new.err in
    let ended = subst (EndsSo c.args.limits c.args.words.now folder out) c.in-Err.is c.run.ensures in
    stop_left c.args.limits c.args.words.now folder out err c.in-Err.stop c.tell.result ended c.tell.ensures

pub returns-in-Err-clause-told : goal.returns-in-Err-clause-told
returns-in-Err-clause-told g c =
    let F = g.F.Folder in
    let O = g.O.Sink in
    let E = g.E.Sink in
    let folder : FolderSeen = folder_seen F.state c.args.folder.now c.run.new.folder in
    let out : SinkSeen = sink_seen O.state c.args.out.now c.run.new.out in
    let err : SinkSeen = sink_seen E.state c.args.err.now c.tell.new.err in
    let ended = subst (EndsSo c.args.limits c.args.words.now folder out) c.in-Err.is c.run.ensures in
    stop_told c.args.limits c.args.words.now folder out err c.in-Err.stop c.tell.result ended c.tell.ensures
