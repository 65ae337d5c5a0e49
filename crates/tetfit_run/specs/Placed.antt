-- The points of a refused model on their grid, with those that are added on its segments.
use Rattle.std.specs.Prelude.{◌≡◌, Ok}
use Rattle.command_words.specs.declared.options.Options.{Options}
use Rattle.complex_mesh.specs.Meshing.{IsMeshFault}
use Rattle.complex_mesh.specs.Protection.{IsProtectedTo}
use Rattle.complex_mesh.specs.declared.fault.MeshFault.TheVariants.{Crossing}
use Rattle.node_files.specs.declared.limits.Limits.{Limits}
use Rattle.run_steps.specs.Meshing.{mesh_options}
use Rattle.run_steps.specs.declared.input.Input.{Input}
use Rattle.run_steps.specs.declared.mesh.Bound.{Bound}
use Rattle.simplex_meets.specs.declared.complex_parts.Part.{Part}
use Rattle.tetfit_run.specs.Measured.{BoundTried}
use Rattle.tetfit_run.specs.declared.placed.Placed.{Placed}

-- two parts of the model on its grid cross, once points are added on its segments
abbrev pub HasCrossingOn : Options → Bound → Type 0
HasCrossingOn options bound =
    (one : Part) × (two : Part) × IsMeshFault (mesh_options options bound.table) bound.table.points bound.complex (Crossing one two)

abbrev pub HasCrossing : Limits → Options → Input → Type 0
HasCrossing limits options input = (bound : Bound) × BoundTried limits options input (Ok bound) × HasCrossingOn options bound

-- the points are those with which protection of the model on its grid ends
pub record IsPlacedOn (options : Options) (bound : Bound) (placed : Placed) : Type 0 where
  pub frame : placed.frame ≡ record { grid = bound.table.grid; origin = options.origin }
  pub protected : IsProtectedTo (mesh_options options bound.table) bound.table.points bound.complex placed.points

abbrev pub IsPlaced : Limits → Options → Input → Placed → Type 0
IsPlaced limits options input placed = (bound : Bound) × BoundTried limits options input (Ok bound) × IsPlacedOn options bound placed
