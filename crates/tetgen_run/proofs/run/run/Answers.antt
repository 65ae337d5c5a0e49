use Rattle.std.proofs.Common.{refl, Ok, arith}
use Rattle.std.proofs.lemmas.Result.{err_from_is_err_and}
use Rattle.tet_ports.specs.Seen.{FolderSeen, SinkSeen, folder_seen, sink_seen}
use Rattle.tetgen_run.proofs.Runs.{bound_end, by_check, want_end, mesh_end, finish_end, outputs_run}
use Rattle.tet_ports.proofs.Windows.{IsWithin}
use Rattle.run_steps.proofs.Wider.{input_wider}
use Rattle.tetgen_run.proofs.run.run.Goals as goal

pub returns-in_err-bound : goal.returns-in_err-bound
returns-in_err-bound g c =
    let F = g.F.Folder in
    let O = g.O.Sink in
    let folder : FolderSeen = folder_seen F.state c.args.folder.now c.read_input.new.folder in
    let out : SinkSeen = sink_seen O.state c.args.out.now c.args.out.now in
    let p = err_from_is_err_and c.from_residual-in_err-bound.result c.from_residual-in_err-bound.ensures.1 in
    rw (p.1, p.2) (bound_end c.args.limits c.args.words.now folder out c.in_ok-options.options c.in_ok-input.input c.in_err-bound.field-0.0 (c.in_ok-options.ensures.understood, c.in_ok-options.ensures.options) c.if-options.false
    c.in_ok-input.ensures.answer c.in_err-bound.ensures.answer (record { files = c.read_input.ensures.only_read.0; written = refl }))

pub returns-then-options : goal.returns-then-options
returns-then-options g c =
    let F = g.F.Folder in
    let O = g.O.Sink in
    let folder : FolderSeen = folder_seen F.state c.args.folder.now c.check.new.folder in
    let out : SinkSeen = sink_seen O.state c.args.out.now c.check.new.out in
    by_check c.args.limits c.args.words.now folder out c.in_ok-options.options c.check.result (c.in_ok-options.ensures.understood, c.in_ok-options.ensures.options) c.if-options.true c.check.ensures

pub returns-in_err-numbering : goal.returns-in_err-numbering
returns-in_err-numbering g c =
    let F = g.F.Folder in
    let O = g.O.Sink in
    let folder : FolderSeen = folder_seen F.state c.args.folder.now c.read_input.new.folder in
    let out : SinkSeen = sink_seen O.state c.args.out.now c.args.out.now in
    let p = err_from_is_err_and c.from_residual-in_err-numbering.result c.from_residual-in_err-numbering.ensures.1 in
    rw (p.1, p.2) (want_end c.args.limits c.args.words.now folder out (record { files = c.read_input.ensures.only_read.0; written = refl }))

pub returns-in-Err : goal.returns-in-Err
returns-in-Err g c =
    let F = g.F.Folder in
    let O = g.O.Sink in
    let folder : FolderSeen = folder_seen F.state c.args.folder.now c.read_input.new.folder in
    let out : SinkSeen = sink_seen O.state c.args.out.now c.args.out.now in
    rw c.in_ok-numbering.ensures (mesh_end c.args.limits c.args.words.now folder out c.in_ok-options.options c.in_ok-input.input c.in_ok-bound.bound c.in-Err.status (c.in_ok-options.ensures.understood, c.in_ok-options.ensures.options) c.if-options.false
    c.in_ok-input.ensures.answer c.in_ok-bound.ensures.answer c.in-Err.ensures (record { files = c.read_input.ensures.only_read.0; written = refl }))

pub returns : goal.returns
returns g c =
    let F = g.F.Folder in
    let O = g.O.Sink in
    let part : FolderSeen = folder_seen F.state c.args.folder.now c.read_input.new.folder in
    let stored : FolderSeen = folder_seen F.state c.read_input.new.folder c.finish.new.folder in
    let folder : FolderSeen = folder_seen F.state c.args.folder.now c.finish.new.folder in
    let a = c.read_input.ensures in
    let b = c.finish.ensures in
    let within : IsWithin part folder = record {
      files = refl;
      faults_before = omega arith;
      faults_now = omega (arith, b.unread);
      misses_before = omega arith;
      misses_now = omega (arith, b.misses);
    } in
    let o = c.in_ok-options.options in
    let outputs = c.in-Ok.outputs in
    let read = input_wider c.args.limits part folder within o (Ok c.in_ok-input.input) c.in_ok-input.ensures.answer in
    let ran = outputs_run c.args.limits c.args.words.now folder o c.in_ok-input.input c.in_ok-bound.bound outputs (c.in_ok-options.ensures.understood, c.in_ok-options.ensures.options) read c.in_ok-bound.ensures.answer c.in-Ok.ensures in
    let out : SinkSeen = sink_seen O.state c.args.out.now c.finish.new.out in
    finish_end c.args.limits c.args.words.now stored folder out o outputs c.finish.result (c.in_ok-options.ensures.understood, c.in_ok-options.ensures.options) c.if-options.false ran a.only_read.0 refl (omega (arith, a.only_read.1)) refl b.finish
