use Rattle.std.proofs.Common.{◌≡◌, take}
use Rattle.std.specs.Prelude.{filter}
use Rattle.row_cells.specs.Parts.{reaches}
use Rattle.row_cells.proofs.parts.part_of.Given as goal

abbrev pub invariant-loop-row : goal.invariant-loop-row
invariant-loop-row l = l.part ≡ filter (reaches l.axis l.from l.to) (take l.row-index l.row-items)
