use Rattle.std.proofs.Common.{◌≡◌, ◌-◌}
use Rattle.node_files.specs.Point.{attributes_at}
use Rattle.node_files.proofs.point.read_attributes.Given as goal
use Rattle.tet_text.specs.Repeated.{onto}

abbrev pub invariant-loop : goal.invariant-loop
invariant-loop l =
    (onto l.attributes (attributes_at (l.count - l.counter) l.fields.line l.fields.fields) ≡ onto l.fn.attributes (attributes_at l.count l.fn.fields.line l.fn.fields.fields))
    × (l.fields.line ≡ l.fn.fields.line)
