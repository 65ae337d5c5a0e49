use Rattle.tet_ports.specs.MemFolder.{MemoryFiles}
use Rattle.tet_ports.specs.MemSink.{MemoryBytes}
use Rattle.tet_ports.specs.Seen.{sink_seen}
use Rattle.tetfit_run.specs.Run.{IsFitAnswer, IsFitComplete, IsFitLeft, IsFitTold}
use Rattle.memory_runs.specs.Runs.{folder_run, sink_shows}
use Rattle.memory_runs.proofs.Handed.{from_start}
use Rattle.memory_runs.proofs.ran.tetfit_over.Goals as goal

pub returns : goal.returns
returns c =
    let words = c.args.words.now in
    let start = c.memory_with-memory.ensures in
    let after = c.run_fit-status.new in
    let status = c.run_fit-status.result in
    let run = c.run_fit-status.ensures in
    record {
      answer = from_start (λ (f : MemoryFiles) (s : MemoryBytes). IsFitAnswer words (folder_run f after.folder) (sink_seen sink_shows s after.out) status) _ _ _ start.folder start.out run.answer;
      complete = from_start (λ (f : MemoryFiles) (s : MemoryBytes). IsFitComplete words (folder_run f after.folder) (sink_seen sink_shows s after.out) status) _ _ _ start.folder start.out run.complete;
      left = from_start (λ (f : MemoryFiles) (s : MemoryBytes). IsFitLeft words (folder_run f after.folder) (sink_seen sink_shows s after.out) status) _ _ _ start.folder start.out run.left;
      told = from_start (λ (f : MemoryFiles) (s : MemoryBytes). IsFitTold words (folder_run f after.folder) (sink_seen sink_shows s after.err) status) _ _ _ start.folder start.err run.told;
    }
