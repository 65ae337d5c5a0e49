use Rattle.array_meshes.proofs.Whole.{array_off, array_table}
use Rattle.array_meshes.proofs.arrays.table_of.Goals as goal

pub returns-in-Ok-clause-table : goal.returns-in-Ok-clause-table
returns-in-Ok-clause-table c = array_table c.args.halvings c.args.places.now c.in-Ok.table (rw (c.in_ok-text.ensures.value, c.array_limits.ensures.values) at c.in-Ok.ensures.outcome)

pub returns-in-Err-Range-clause-fault : goal.returns-in-Err-Range-clause-fault
returns-in-Err-Range-clause-fault c =
    array_off c.args.halvings c.args.places.now c.in-Err-Range.field-0-0
    (rw (c.in-Err-Range.field-0-is, c.in_ok-text.ensures.value, c.array_limits.ensures.values) at c.in-Err-Range.ensures.outcome)
