use Rattle.std.proofs.Common.{◌≡◌, map, take}
use Rattle.cavity_insert.specs.RowKeys.{row_of_key}
use Rattle.cavity_insert.proofs.rows.rows_of_keys.Given as goal

abbrev pub invariant-loop-key : goal.invariant-loop-key
invariant-loop-key l = l.rows ≡ map row_of_key (take l.key-index l.keys)
