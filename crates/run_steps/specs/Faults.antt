-- The statuses of a complex that is on no grid or has no mesh, and of weighted points that have no mesh.
use Rattle.std.specs.Prelude.{ℕ, List}
use Rattle.complex_mesh.specs.declared.fault.MeshFault.{MeshFault}
use Rattle.complex_mesh.specs.declared.fault.MeshFault.TheVariants as fault
use Rattle.plc_files.specs.declared.fault.PlcFault.{PlcFault}
use Rattle.plc_files.specs.declared.fault.PlcFault.TheVariants as bind
use Rattle.run_steps.specs.declared.status.LimitKind.TheVariants.{Facets, Corners, Weight}
use Rattle.run_steps.specs.declared.status.Status.{Status}
use Rattle.run_steps.specs.declared.status.Status.TheVariants.{BadText, Limit, Flat, NotFlat, SegmentsCross, Crossing, GridEnd, BudgetEnd, NoFill, NoMemory}
use Rattle.weighted_mesh.specs.declared.regular_fault.RegularFault.{RegularFault}
use Rattle.weighted_mesh.specs.declared.regular_fault.RegularFault.TheVariants as regular

abbrev pub status_of_fault : MeshFault → Status
status_of_fault fault.Flat = Flat
status_of_fault (fault.NotFlat facet four) = NotFlat facet four
status_of_fault (fault.SegmentsCross one two) = SegmentsCross one two
status_of_fault (fault.GridEnd piece) = GridEnd piece
status_of_fault (fault.BudgetEnd made piece) = BudgetEnd made piece
status_of_fault (fault.Crossing one two) = Crossing one two
status_of_fault (fault.NoFill anomaly) = NoFill anomaly
status_of_fault fault.NoMemory = NoMemory

-- the status of weighted points, in the file with this name, that have no regular mesh
abbrev pub status_of_weights : List ℕ → RegularFault → Status
status_of_weights name (regular.Text fault) = BadText name fault
status_of_weights name (regular.TooHeavy line) = Limit (Weight line)
status_of_weights name regular.Flat = Flat
status_of_weights name regular.NoMemory = NoMemory

-- the complex was read: this is no fault of its text
abbrev pub IsOfRead : PlcFault → Type 0
IsOfRead (bind.Text fault) = ⊥
IsOfRead fault = Unit {0}

-- the status of a complex that was read and cannot be bound to the grid
abbrev pub status_of_bind : PlcFault → Status
status_of_bind (bind.Facets count most) = Limit (Facets count most)
status_of_bind (bind.Corners line count most) = Limit (Corners line count most)
status_of_bind fault = NoMemory
