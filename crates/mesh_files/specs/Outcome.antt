-- What a call that may want memory returns.
use Rattle.std.specs.Prelude.{◌≡◌, Result, Ok, Err}
use Rattle.tet_text.specs.declared.fault.TextFault.{TextFault}
use Rattle.mesh_files.specs.declared.fault.MeshFault.{MeshFault}
use Rattle.mesh_files.specs.declared.fault.MeshFault.TheVariants as faults

-- the fault is that of the reading, unless memory ran out
abbrev pub MeshFails : {Y : Type 0} → MeshFault → Result Y TextFault → Type 0
MeshFails (faults.Text fault) reading = reading ≡ Err fault
MeshFails faults.NoMemory reading = Unit {0}

-- what was returned, seen by `view`, is what the reading gives, unless memory ran out
abbrev pub MeshGives : {X Y : Type 0} → (X → Y) → Result X MeshFault → Result Y TextFault → Type 0
MeshGives view (Ok x) reading = reading ≡ Ok (view x)
MeshGives view (Err fault) reading = MeshFails fault reading
