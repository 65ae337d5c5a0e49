use Rattle.std.proofs.Common.{map}
use Rattle.cavity_insert.specs.Rows.{AreRowsBelow}
use Rattle.cavity_insert.specs.RowKeys.{row_of_key}
use Rattle.cavity_insert.proofs.rows.keys_at.Given as goal

abbrev pub invariant-loop-i : goal.invariant-loop-i
invariant-loop-i l = AreRowsBelow l.arena.slots (map row_of_key l.keys) l.i
