-- The numbers of points in messages.
use Rattle.std.specs.Prelude.{ℕ, ◌+◌, ◌-◌, nat_lt, length, slice_index, Option, Some, None, if◌then◌else◌}
use Rattle.node_files.specs.declared.table.NodeTable.{NodeTable}
use Rattle.run_steps.specs.declared.numbering.Numbering.{Numbering}

-- the numbers of a table's points and of those that are added to them
abbrev pub numbering_of : NodeTable → Numbering
numbering_of table = record { names = table.names; listed = length table.listed; first = table.first }

-- the number of a point: a kept one has that of its place in the input, an added one a number behind all those of the input
abbrev pub number_by : Numbering → ℕ → ℕ
number_by by point =
    (if nat_lt point (length by.names) then slice_index by.names point else by.listed + (point - length by.names)) + by.first

-- the number of a point, or its place where there is no numbering
abbrev pub told_number : Option Numbering → ℕ → ℕ
told_number None point = point
told_number (Some by) point = number_by by point
