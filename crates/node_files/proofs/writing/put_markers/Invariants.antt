use Rattle.std.proofs.Common.{◌≡◌, ◌++◌, drop, map}
use Rattle.node_files.specs.Writing.{fields_text, whole_text}
use Rattle.node_files.proofs.writing.put_markers.Given as goal

abbrev pub invariant-loop-marker : goal.invariant-loop-marker
invariant-loop-marker l = l.out ++ fields_text (map whole_text (drop l.marker-index l.markers)) ≡ l.fn.out ++ fields_text (map whole_text l.markers)
