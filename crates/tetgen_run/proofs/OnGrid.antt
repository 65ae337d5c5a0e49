-- A mesh of points on their grid is not refused for a point off the grid.
use Rattle.std.proofs.Common.{ℕ, Bool, true, false, List, Err, sym, subst}
use Rattle.command_words.specs.Names.{file_name}
use Rattle.command_words.specs.declared.options.Extension.TheVariants.{Node}
use Rattle.command_words.specs.declared.options.Options.{Options}
use Rattle.complex_mesh.specs.declared.fault.MeshFault.{MeshFault}
use Rattle.complex_mesh.specs.declared.fault.MeshFault.TheVariants as fault
use Rattle.run_steps.proofs.Steps.{and_then_refuses}
use Rattle.run_steps.specs.Faults.{status_of_fault, status_of_weights}
use Rattle.run_steps.specs.Steps.{AndThen}
use Rattle.run_steps.specs.Meshing.{IsFlatRefusal, MeshAnswer, MeshOf, OutputsAnswer, PointsMeshOf}
use Rattle.run_steps.specs.declared.mesh.Bound.{Bound}
use Rattle.run_steps.specs.declared.status.LimitKind.TheVariants.{Grid}
use Rattle.run_steps.specs.declared.status.Status.{Status}
use Rattle.run_steps.specs.declared.status.Status.TheVariants.{Flat, Limit, NoMemory}
use Rattle.weighted_mesh.specs.declared.regular_fault.RegularFault.{RegularFault}
use Rattle.weighted_mesh.specs.declared.regular_fault.RegularFault.TheVariants as regular

-- the status is not that of a point off the grid
abbrev pub IsOnGrid : Status → Type 0
IsOnGrid (Limit (Grid line)) = ⊥
IsOnGrid s = Unit {0}

fault_on_grid : (f : MeshFault) → IsOnGrid (status_of_fault f)
fault_on_grid fault.Flat = tt
fault_on_grid (fault.NotFlat facet four) = tt
fault_on_grid (fault.SegmentsCross one two) = tt
fault_on_grid (fault.GridEnd piece) = tt
fault_on_grid (fault.BudgetEnd made piece) = tt
fault_on_grid (fault.Crossing one two) = tt
fault_on_grid (fault.NoFill anomaly) = tt
fault_on_grid fault.NoMemory = tt

flat_on_grid : (bound : Bound) (s : Status) → IsFlatRefusal bound s → IsOnGrid s
flat_on_grid bound Flat h = tt
flat_on_grid bound NoMemory h = tt
flat_on_grid bound s h = absurd h

weights_on_grid : (name : List ℕ) (f : RegularFault) → IsOnGrid (status_of_weights name f)
weights_on_grid name (regular.Text fault) = tt
weights_on_grid name (regular.TooHeavy line) = tt
weights_on_grid name regular.Flat = tt
weights_on_grid name regular.NoMemory = tt

points_on_grid : (options : Options) (bound : Bound) (weighted : Bool) (s : Status) → PointsMeshOf weighted options bound (Err s) → IsOnGrid s
points_on_grid options bound false s h = flat_on_grid bound s h
points_on_grid options bound true s h = subst IsOnGrid (sym h.1) (weights_on_grid (file_name options.base Node) h.0)

mesh_on_grid : (options : Options) (bound : Bound) (piecewise : Bool) (s : Status) → MeshOf piecewise options bound (Err s) → IsOnGrid s
mesh_on_grid options bound false s h = points_on_grid options bound options.weighted s h
mesh_on_grid options bound true s h = subst IsOnGrid (sym h.1) (fault_on_grid h.0)

-- what the outputs of a bound input are refused for
pub made_on_grid : (options : Options) (bound : Bound) (s : Status) → AndThen (MeshAnswer options bound) (OutputsAnswer options) (Err s) → IsOnGrid s
made_on_grid options bound =
    and_then_refuses IsOnGrid (MeshAnswer options bound) (OutputsAnswer options) (mesh_on_grid options bound options.piecewise) (λ mesh s e. subst IsOnGrid (sym e) tt)
