use Rattle.memory_runs.specs.Runs.{IsTetfitRun}
use Rattle.memory_runs.proofs.Handed.{run_fault, run_handed}
use Rattle.memory_runs.proofs.runs.tetfit_into.Goals as goal

pub returns-clause-run : goal.returns-clause-run
returns-clause-run c =
    run_handed IsTetfitRun c.args.task.now c.in_ok-words.words c.in_ok-folder.folder c.tetfit_over-ran.result c.in_ok-words.ensures c.in_ok-folder.ensures c.tetfit_over-ran.ensures
    c.hand_over.new.lengths c.hand_over.new.room c.hand_over.result c.hand_over.ensures.texts

pub returns-clause-fault : goal.returns-clause-fault
returns-clause-fault c =
    run_fault IsTetfitRun c.args.task.now c.in_ok-words.words c.in_ok-folder.folder c.tetfit_over-ran.result c.in_ok-words.ensures c.in_ok-folder.ensures c.tetfit_over-ran.ensures
    _ _ c.hand_over.result c.hand_over.ensures.fault
