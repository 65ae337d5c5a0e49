use Rattle.std.proofs.Common.{[], Ok, refl, subst}
use Rattle.tetfit_run.specs.Words.{fit_name, fit_options, others, request_of}
use Rattle.tet_ports.specs.Seen.{FolderSeen, SinkSeen, folder_seen, sink_seen}
use Rattle.run_steps.specs.declared.status.Status.TheVariants.{Done}
use Rattle.tetgen_run.proofs.Endings.{end_answers, end_leaves, stop_answers, stop_leaves, stop_tells}
use Rattle.tetgen_run.specs.Ends.{EndsWith, IsToldAs, answer_of}
use Rattle.tetfit_run.specs.Messages.{fit_message}
use Rattle.tetfit_run.specs.Outputs.{OutputsOfFit}
use Rattle.tetfit_run.specs.Run.{IsAskedBy, IsKnown, IsFitNumbering}
use Rattle.tetfit_run.specs.Stages.{AreStagesPut}
use Rattle.tetfit_run.proofs.Complete.{answer_complete}
use Rattle.tetfit_run.proofs.Fitted.{ends_numbered, fit_asked, fit_refuses, no_behind, numbers_points, told_behind}
use Rattle.tetfit_run.proofs.Pieces.{stages_told}
use Rattle.tetfit_run.proofs.run.run_fit.Goals as goal

pub returns-in-Ok-clause-complete : goal.returns-in-Ok-clause-complete
returns-in-Ok-clause-complete g c =
    let F = g.F.Folder in
    let O = g.O.Sink in
    let words = c.args.words.now in
    let folder : FolderSeen = folder_seen F.state c.args.folder.now c.run.new.folder in
    let out : SinkSeen = sink_seen O.state c.args.out.now c.run.new.out in
    let made = OutputsOfFit words folder in
    let hint = c.run.new.hint in
    let numbered = IsKnown words folder hint in
    let ended = subst (EndsWith made numbered folder out) c.in-Ok.is c.run.ensures.ends in
    answer_complete words folder out Done (end_answers made numbered (fit_refuses words folder) folder out (Ok c.in-Ok.field-0) ended)

pub returns-in-Ok-clause-left : goal.returns-in-Ok-clause-left
returns-in-Ok-clause-left g c =
    let F = g.F.Folder in
    let O = g.O.Sink in
    let words = c.args.words.now in
    let folder : FolderSeen = folder_seen F.state c.args.folder.now c.run.new.folder in
    let out : SinkSeen = sink_seen O.state c.args.out.now c.run.new.out in
    let made = OutputsOfFit words folder in
    let hint = c.run.new.hint in
    let numbered = IsKnown words folder hint in
    let ended = subst (EndsWith made numbered folder out) c.in-Ok.is c.run.ensures.ends in
    end_leaves made numbered (IsAskedBy (request_of words) words folder) (fit_refuses words folder) (fit_asked words folder) folder out (Ok c.in-Ok.field-0) ended

pub returns-clause-answer : goal.returns-clause-answer
returns-clause-answer g c =
    let F = g.F.Folder in
    let O = g.O.Sink in
    let E = g.E.Sink in
    let words = c.args.words.now in
    let folder : FolderSeen = folder_seen F.state c.args.folder.now c.run.new.folder in
    let out : SinkSeen = sink_seen O.state c.args.out.now c.run.new.out in
    let made = OutputsOfFit words folder in
    let hint = c.run.new.hint in
    let numbered = IsKnown words folder hint in
    let ended = subst (EndsWith made numbered folder out) c.in-Err.is c.run.ensures.ends in
    let err : SinkSeen = sink_seen E.state c.run.new.err c.tell.new.err in
    let tells = subst (λ h. IsToldAs (fit_message (request_of words) (others words) h) c.in-Err.stop err c.tell.result) c.as_slice.ensures c.tell.ensures in
    stop_answers (fit_message (request_of words) (others words) hint) made numbered (fit_refuses words folder) folder out err c.in-Err.stop c.tell.result ended tells

pub returns-clause-complete : goal.returns-clause-complete
returns-clause-complete g c =
    let F = g.F.Folder in
    let O = g.O.Sink in
    let E = g.E.Sink in
    let words = c.args.words.now in
    let folder : FolderSeen = folder_seen F.state c.args.folder.now c.run.new.folder in
    let out : SinkSeen = sink_seen O.state c.args.out.now c.run.new.out in
    let made = OutputsOfFit words folder in
    let hint = c.run.new.hint in
    let numbered = IsKnown words folder hint in
    let ended = subst (EndsWith made numbered folder out) c.in-Err.is c.run.ensures.ends in
    let err : SinkSeen = sink_seen E.state c.run.new.err c.tell.new.err in
    let tells = subst (λ h. IsToldAs (fit_message (request_of words) (others words) h) c.in-Err.stop err c.tell.result) c.as_slice.ensures c.tell.ensures in
    answer_complete words folder out c.tell.result (stop_answers (fit_message (request_of words) (others words) hint) made numbered (fit_refuses words folder) folder out err c.in-Err.stop c.tell.result ended tells)

pub returns-clause-left : goal.returns-clause-left
returns-clause-left g c =
    let F = g.F.Folder in
    let O = g.O.Sink in
    let E = g.E.Sink in
    let words = c.args.words.now in
    let folder : FolderSeen = folder_seen F.state c.args.folder.now c.run.new.folder in
    let out : SinkSeen = sink_seen O.state c.args.out.now c.run.new.out in
    let made = OutputsOfFit words folder in
    let hint = c.run.new.hint in
    let numbered = IsKnown words folder hint in
    let ended = subst (EndsWith made numbered folder out) c.in-Err.is c.run.ensures.ends in
    let err : SinkSeen = sink_seen E.state c.run.new.err c.tell.new.err in
    let tells = subst (λ h. IsToldAs (fit_message (request_of words) (others words) h) c.in-Err.stop err c.tell.result) c.as_slice.ensures c.tell.ensures in
    stop_leaves (fit_message (request_of words) (others words) hint) made numbered (IsAskedBy (request_of words) words folder) (fit_refuses words folder) (fit_asked words folder) folder out err c.in-Err.stop c.tell.result ended tells

pub returns-in-Ok-clause-told : goal.returns-in-Ok-clause-told
returns-in-Ok-clause-told g c =
    let E = g.E.Sink in
    let words = c.args.words.now in
    let mid = c.run.new.err in
    let first : SinkSeen = sink_seen E.state c.args.err.now mid in
    let stages = subst (λ r. AreStagesPut words (answer_of r) first) c.in-Ok.is c.run.ensures.stages in
    (E.state mid, stages, [], no_behind (request_of words) (folder_seen g.F.Folder.state c.args.folder.now c.run.new.folder) (fit_name (others words)) (fit_options (others words)) [] Done tt, refl)

pub returns-clause-told : goal.returns-clause-told
returns-clause-told g c =
    let F = g.F.Folder in
    let O = g.O.Sink in
    let E = g.E.Sink in
    let words = c.args.words.now in
    let folder : FolderSeen = folder_seen F.state c.args.folder.now c.run.new.folder in
    let out : SinkSeen = sink_seen O.state c.args.out.now c.run.new.out in
    let made = OutputsOfFit words folder in
    let hint = c.run.new.hint in
    let numbered = IsKnown words folder hint in
    let ended = subst (EndsWith made numbered folder out) c.in-Err.is c.run.ensures.ends in
    let mid = c.run.new.err in
    let first : SinkSeen = sink_seen E.state c.args.err.now mid in
    let err : SinkSeen = sink_seen E.state mid c.tell.new.err in
    let stop = c.in-Err.stop in
    let tells = subst (λ h. IsToldAs (fit_message (request_of words) (others words) h) stop err c.tell.result) c.as_slice.ensures c.tell.ensures in
    let message = fit_message (request_of words) (others words) hint in
    let stages = subst (λ r. AreStagesPut words (answer_of r) first) c.in-Err.is c.run.ensures.stages in (
      E.state mid,
      stages_told message words stop first err c.tell.result tells stages,
      hint,
      told_behind made message (request_of words) (fit_name (others words)) (fit_options (others words)) folder hint out err stop c.tell.result ended tells,
      stop_tells message made (IsFitNumbering (others words) folder hint) (fit_refuses words folder) (numbers_points (others words) folder hint) folder out err stop c.tell.result (ends_numbered made (request_of words) (fit_name (others words)) (fit_options (others words)) folder hint out stop ended) tells,
    )
