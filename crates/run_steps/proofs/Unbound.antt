-- Why a complex is on no grid, by the fault of its binding.
use Rattle.std.proofs.Common.{◌≤◌, ℕ, length, Err}
use Rattle.grid_coords.specs.declared.grid.Grid.{Grid}
use Rattle.node_files.specs.declared.limits.Limits.{Limits}
use Rattle.plc_files.specs.Binding.{Binds, SizesSo}
use Rattle.plc_files.specs.Text.{Plc}
use Rattle.plc_files.specs.declared.fault.PlcFault.{PlcFault}
use Rattle.plc_files.specs.declared.fault.PlcFault.TheVariants as faults
use Rattle.command_words.specs.declared.options.Options.{Options}
use Rattle.run_steps.specs.Faults.{IsOfRead, status_of_bind}
use Rattle.run_steps.specs.Meshing.{IsOverLimit, IsUnbound}
use Rattle.run_steps.specs.declared.input.Input.{Input}
use Rattle.run_steps.specs.declared.status.LimitKind.TheVariants.{Facets, Corners}
use Rattle.run_steps.specs.declared.status.Status.{Status}
use Rattle.run_steps.specs.declared.status.Status.TheVariants.{Limit, NoMemory}

-- no binding refuses the text, and each fault of one is of a limit that the complex is over, or want of memory
pub binding_over : (limits : Limits) (text : Plc) (first : ℕ) (grid : Grid) (fault : PlcFault) → Binds limits text first grid (Err fault) → IsOfRead fault × IsOverLimit limits text (status_of_bind fault)
binding_over limits text first grid (faults.Facets count most) h = (tt, h)
binding_over limits text first grid (faults.Corners line count most) h = (tt, h)
binding_over limits text first grid faults.NoMemory h = (tt, tt)
binding_over limits text first grid (faults.Text fault) h = absurd h

-- and so of the sizes alone
pub sizes_over : (limits : Limits) (text : Plc) (fault : PlcFault) → SizesSo limits text (Err fault) → IsOfRead fault × IsOverLimit limits text (status_of_bind fault)
sizes_over limits text (faults.Facets count most) h = (tt, h)
sizes_over limits text (faults.Corners line count most) h = (tt, h)
sizes_over limits text faults.NoMemory h = absurd h
sizes_over limits text (faults.Text fault) h = absurd h

-- the limit of points comes before those of a complex
pub over_unbound : (limits : Limits) (options : Options) (input : Input) (status : Status) → length input.nodes.decimals ≤ limits.points → IsOverLimit limits input.complex status → IsUnbound limits options input status
over_unbound limits options input (Limit (Facets count most)) few h = (few, h)
over_unbound limits options input (Limit (Corners line count most)) few h = (few, h)
over_unbound limits options input NoMemory few h = tt
over_unbound limits options input status few h = absurd h
