use Rattle.std.proofs.Common.{◌≡◌}
use Rattle.std.specs.Ordering.{nat_cmp}
use Rattle.std.specs.Cmp.Lexicographic.{slice_cmp}
use Rattle.std.specs.FinMap.{find}
use Rattle.std.specs.FinMap as map
use Rattle.std.specs.VecDeque.Iter.{deque_iter_rest}
use Rattle.tet_ports.proofs.mem_folder.MemFolder.get.Given as goal

abbrev pub invariant-loop-entry : goal.invariant-loop-entry
invariant-loop-entry l = map.get l.self.files l.name ≡ find (slice_cmp nat_cmp) l.name (deque_iter_rest l.entry-iterator)
