-- The answers of a call that may run out of memory.
use Rattle.std.specs.Prelude.{◌≡◌, Result, Ok, Err}
use Rattle.tet_text.specs.declared.fault.TextFault.{TextFault}
use Rattle.node_files.specs.declared.fault.NodeFault.{NodeFault}
use Rattle.node_files.specs.declared.fault.NodeFault.TheVariants as faults

-- the fault is that of the reading, unless memory ran out
abbrev pub NodeFails : {Y : Type 0} → NodeFault → Result Y TextFault → Type 0
NodeFails (faults.Text fault) reading = reading ≡ Err fault
NodeFails faults.NoMemory reading = Unit {0}
NodeFails other reading = ⊥

-- what was returned, seen by `view`, is what the reading gives, unless memory ran out
abbrev pub NodeGives : {X Y : Type 0} → (X → Y) → Result X NodeFault → Result Y TextFault → Type 0
NodeGives view (Ok x) reading = reading ≡ Ok (view x)
NodeGives view (Err fault) reading = NodeFails fault reading
