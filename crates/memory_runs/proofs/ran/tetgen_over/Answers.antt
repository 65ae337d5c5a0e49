use Rattle.tet_ports.specs.MemFolder.{MemoryFiles}
use Rattle.tet_ports.specs.MemSink.{MemoryBytes}
use Rattle.tet_ports.specs.Seen.{sink_seen}
use Rattle.tetgen_run.specs.Run.{IsAnswer, IsComplete, IsLeft, IsTold}
use Rattle.memory_runs.specs.Runs.{folder_run, sink_shows}
use Rattle.memory_runs.proofs.Handed.{from_start}
use Rattle.memory_runs.proofs.ran.tetgen_over.Goals as goal

pub returns : goal.returns
returns c =
    let words = c.args.words.now in
    let start = c.memory_with-memory.ensures in
    let after = c.run_tetgen-status.new in
    let status = c.run_tetgen-status.result in
    let run = c.run_tetgen-status.ensures in
    record {
      answer = from_start (λ (f : MemoryFiles) (s : MemoryBytes). IsAnswer words (folder_run f after.folder) (sink_seen sink_shows s after.out) status) _ _ _ start.folder start.out run.answer;
      complete = from_start (λ (f : MemoryFiles) (s : MemoryBytes). IsComplete words (folder_run f after.folder) (sink_seen sink_shows s after.out) status) _ _ _ start.folder start.out run.complete;
      left = from_start (λ (f : MemoryFiles) (s : MemoryBytes). IsLeft words (folder_run f after.folder) (sink_seen sink_shows s after.out) status) _ _ _ start.folder start.out run.left;
      told = from_start (λ (f : MemoryFiles) (s : MemoryBytes). IsTold words (folder_run f after.folder) (sink_seen sink_shows s after.err) status) _ _ _ start.folder start.err run.told;
    }
