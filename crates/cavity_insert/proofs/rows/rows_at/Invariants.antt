use Rattle.cavity_insert.specs.Rows.{AreRowsBelow}
use Rattle.cavity_insert.proofs.rows.rows_at.Given as goal

abbrev pub invariant-loop-slot : goal.invariant-loop-slot
invariant-loop-slot l = AreRowsBelow l.arena.slots l.rows l.slot
