use Rattle.std.proofs.Common.{◌≡◌, ◌++◌, ◌+◌, ◌-◌, ◌*◌, drop, length}
use Rattle.node_files.specs.Writing.{point_lines}
use Rattle.node_files.proofs.writing.put_points.Given as goal

abbrev pub invariant-loop-i : goal.invariant-loop-i
invariant-loop-i l = record {
  written : l.out ++ point_lines l.frame.origin l.frame.grid l.table.attribute_count l.marks (l.first + l.i) (drop l.i l.table.listed) l.attributes l.markers ≡ l.fn.out ++ point_lines l.frame.origin l.frame.grid l.table.attribute_count l.marks l.first l.table.listed l.table.attributes l.table.markers;
  attributes : length l.attributes ≡ l.table.attribute_count * (length l.table.listed - l.i);
  markers : length l.markers ≡ l.marks * (length l.table.listed - l.i);
}
