use Rattle.std.proofs.Common.{subst}
use Rattle.tet_ports.specs.Seen.{FolderSeen, SinkSeen, folder_seen, sink_seen}
use Rattle.tetgen_run.specs.Run.{IsAnswerWithin, IsCompleteWithin, IsLeftWithin, IsToldWithin}
use Rattle.tetgen_run.proofs.run.run_tetgen.Goals as goal

pub returns-clause-answer : goal.returns-clause-answer
returns-clause-answer g c =
    let F = g.F.Folder in
    let O = g.O.Sink in
    let folder : FolderSeen = folder_seen F.state c.args.folder.now c.run_within.new.folder in
    let out : SinkSeen = sink_seen O.state c.args.out.now c.run_within.new.out in
    subst (λ limits. IsAnswerWithin limits c.args.words.now folder out c.run_within.result) c.tetgen.ensures.values c.run_within.ensures.answer

pub returns-clause-complete : goal.returns-clause-complete
returns-clause-complete g c =
    let F = g.F.Folder in
    let O = g.O.Sink in
    let folder : FolderSeen = folder_seen F.state c.args.folder.now c.run_within.new.folder in
    let out : SinkSeen = sink_seen O.state c.args.out.now c.run_within.new.out in
    subst (λ limits. IsCompleteWithin limits c.args.words.now folder out c.run_within.result) c.tetgen.ensures.values c.run_within.ensures.complete

pub returns-clause-left : goal.returns-clause-left
returns-clause-left g c =
    let F = g.F.Folder in
    let O = g.O.Sink in
    let folder : FolderSeen = folder_seen F.state c.args.folder.now c.run_within.new.folder in
    let out : SinkSeen = sink_seen O.state c.args.out.now c.run_within.new.out in
    subst (λ limits. IsLeftWithin limits c.args.words.now folder out c.run_within.result) c.tetgen.ensures.values c.run_within.ensures.left

pub returns-clause-told : goal.returns-clause-told
returns-clause-told g c =
    let F = g.F.Folder in
    let E = g.E.Sink in
    let folder : FolderSeen = folder_seen F.state c.args.folder.now c.run_within.new.folder in
    let err : SinkSeen = sink_seen E.state c.args.err.now c.run_within.new.err in
    subst (λ limits. IsToldWithin limits c.args.words.now folder err c.run_within.result) c.tetgen.ensures.values c.run_within.ensures.told
