use Rattle.std.proofs.Common.{◌≡◌, ◌++◌, drop}
use Rattle.node_files.specs.Writing.{fields_text}
use Rattle.node_files.proofs.writing.put_attributes.Given as goal

abbrev pub invariant-loop-attribute : goal.invariant-loop-attribute
invariant-loop-attribute l = l.out ++ fields_text (drop l.attribute-index l.attributes) ≡ l.fn.out ++ fields_text l.attributes
