use Rattle.std.proofs.Common.{◌≡◌, ◌≤◌, ◌++◌}
use Rattle.std.specs.Vec.Iter.{into_iter_items}
use Rattle.run_steps.specs.Stores.{with_files}
use Rattle.run_steps.proofs.store.store_all.Given as goal

-- the texts so far are stored, and the others are left
abbrev pub invariant-loop-text : goal.invariant-loop-text
invariant-loop-text g l = record {
  all : l.fn.texts ≡ l.yielded ++ into_iter_items l.text-iterator;
  stored : (g.F.Folder.state l.folder).files ≡ with_files (g.F.Folder.state l.fn.folder).files l.yielded;
  faults : (g.F.Folder.state l.fn.folder).write_faults ≤ (g.F.Folder.state l.folder).write_faults;
  unread : (g.F.Folder.state l.folder).read_faults ≡ (g.F.Folder.state l.fn.folder).read_faults;
  misses : (g.F.Folder.state l.folder).misses ≡ (g.F.Folder.state l.fn.folder).misses;
}
