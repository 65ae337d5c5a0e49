use Rattle.std.proofs.Common.{◌≡◌, ℕ, true, false, List, Ok, refl, arith, ap, subst, ◌∙◌, rules}
use Rattle.std.proofs.lemmas.Result.{err_from_is_err_and}
use Rattle.tet_ports.proofs.Windows.{IsWithin}
use Rattle.tet_ports.specs.Seen.{FolderSeen, IsMessagePut, SinkSeen, SinkState, folder_seen, sink_seen}
use Rattle.tetgen_run.proofs.Endings.{finish_ends}
use Rattle.tetfit_run.specs.Outputs.{OutputsOfFit}
use Rattle.tetfit_run.specs.Run.{IsKnown}
use Rattle.tetfit_run.specs.Said.{said_put}
use Rattle.tetfit_run.specs.Stages.{between, says_stages, stages_text}
use Rattle.tetfit_run.specs.declared.stages.TheConstants.{READS, STORES}
use Rattle.tetfit_run.proofs.Fitted.{fit_refuses, fit_wider}
use Rattle.tetfit_run.proofs.Pieces.{finished_made, rounds_said, stage_said, stopped_unmade}
use Rattle.tetfit_run.proofs.run.run.Goals as goal

-- what is put is put where the sink is seen later, unchanged
put_later : (text : List ℕ) (old now later : SinkState) → now ≡ later → IsMessagePut text (between old now) → IsMessagePut text (between old later)
put_later text old now later e h = subst (λ (s : SinkState). IsMessagePut text (between old s)) e h

pub returns-clause-ends : goal.returns-clause-ends
returns-clause-ends g c =
    let F = g.F.Folder in
    let O = g.O.Sink in
    let words = c.args.words.now in
    let part : FolderSeen = folder_seen F.state c.args.folder.now c.outputs_of.new.folder in
    let stored : FolderSeen = folder_seen F.state c.outputs_of.new.folder c.finish.new.folder in
    let folder : FolderSeen = folder_seen F.state c.args.folder.now c.finish.new.folder in
    let a = c.outputs_of.ensures in
    let b = c.finish.ensures in
    let within : IsWithin part folder = record {
      files = refl;
      faults_before = omega arith;
      faults_now = omega (arith, b.unread);
      misses_before = omega arith;
      misses_now = omega (arith, b.misses);
    } in
    let outputs = c.in_ok-outputs.outputs in
    let made = fit_wider words part folder within (Ok outputs) c.in_ok-outputs.ensures.made in
    let out : SinkSeen = sink_seen O.state c.args.out.now c.finish.new.out in
    finish_ends (OutputsOfFit words folder) (IsKnown words folder c.outputs_of.new.hint) outputs stored folder out c.finish.result made a.only_read.0 refl (omega (arith, a.only_read.1)) refl b.finish

pub returns-in_err-outputs-clause-stages : goal.returns-in_err-outputs-clause-stages
returns-in_err-outputs-clause-stages g c =
    let F = g.F.Folder in
    let E = g.E.Sink in
    let words = c.args.words.now in
    let folder : FolderSeen = folder_seen F.state c.args.folder.now c.outputs_of.new.folder in
    let stop = c.in_err-outputs.field-0.0 in
    let p = err_from_is_err_and c.from_residual.result c.from_residual.ensures.1 in
    let unmade = stopped_unmade (OutputsOfFit words folder) (IsKnown words folder c.outputs_of.new.hint) stop (fit_refuses words folder) c.in_err-outputs.ensures.stopped in
    let shown = c.in_err-outputs.ensures.shown in
    let first = c.new-stages.ensures in
    let says = says_stages words in
    let said = rounds_said says c.new-stages.result.says c.say.new.self.says c.new-stages.result.goes_on c.say.new.self.goes_on c.outputs_of.new.watch.goes_on READS.now shown.0 (E.state c.args.err.now) (E.state c.new-stages.result.err.now) (E.state c.say.new.self.err.now) (E.state c.outputs_of.new.watch.err.now) first.goes_on (first.says ∙ c.says_stages.ensures) c.say.ensures.says (ap E.state first.kept) c.say.ensures.said shown.1.2 in
    let put = said_put c.outputs_of.new.watch.goes_on (stages_text says shown.0 false) (E.state c.args.err.now) (E.state c.outputs_of.new.watch.err.now) said in
    rw (p.1, p.2) (shown.0, false, unmade, search rules)

pub returns-clause-stages : goal.returns-clause-stages
returns-clause-stages g c =
    let F = g.F.Folder in
    let E = g.E.Sink in
    let O = g.O.Sink in
    let words = c.args.words.now in
    let outputs = c.in_ok-outputs.outputs in
    let stored : FolderSeen = folder_seen F.state c.outputs_of.new.folder c.finish.new.folder in
    let out : SinkSeen = sink_seen O.state c.args.out.now c.finish.new.out in
    let made = finished_made outputs stored out c.finish.result c.finish.ensures.finish in
    let shown = c.in_ok-outputs.ensures.shown in
    let first = c.new-stages.ensures in
    let last = c.say-2.ensures in
    let says = says_stages words in
    let are = first.says ∙ c.says_stages.ensures in
    let said = rounds_said says c.new-stages.result.says c.say.new.self.says c.new-stages.result.goes_on c.say.new.self.goes_on c.outputs_of.new.watch.goes_on READS.now shown.0 (E.state c.args.err.now) (E.state c.new-stages.result.err.now) (E.state c.say.new.self.err.now) (E.state c.outputs_of.new.watch.err.now) first.goes_on are c.say.ensures.says (ap E.state first.kept) c.say.ensures.said shown.1.2 in
    let all = stage_said says c.outputs_of.new.watch.says c.outputs_of.new.watch.goes_on c.say-2.new.self.goes_on (stages_text says shown.0 false) STORES.now (E.state c.args.err.now) (E.state c.outputs_of.new.watch.err.now) (E.state c.say-2.new.self.err.now) (shown.1.1 ∙ c.say.ensures.says ∙ are) said last.said in
    let put = said_put c.say-2.new.self.goes_on (stages_text says shown.0 true) (E.state c.args.err.now) (E.state c.say-2.new.self.err.now) all in
    (shown.0, true, made, put_later (stages_text says shown.0 true) (E.state c.args.err.now) (E.state c.say-2.new.self.err.now) _ (search rules) put)
