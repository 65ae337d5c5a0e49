-- What the tetrahedra of a refined mesh are to be like.
use Rattle.std.specs.Prelude.{ℕ, ◌≤◌, List, Option, None, Some, IfSome, option_and_then, if◌then◌else◌}
use Rattle.std.specs.Option.{option_map}
use Rattle.grid_coords.specs.declared.grid.Grid.{Grid}
use Rattle.run_steps.specs.declared.mesh.Bound.{Bound}
use Rattle.refining.specs.declared.goal.Goal.{Goal}
use Rattle.refining.specs.declared.goal.Shape.{Shape}
use Rattle.refining.specs.declared.goal.ShapeBounds.{ShapeBounds}
use Rattle.tet_shapes.specs.Angle.{squared_cosine}
use Rattle.tet_shapes.specs.Bounds.{volume_bounds}
use Rattle.tet_shapes.specs.Shape.{IsFine}
use Rattle.tet_shapes.specs.declared.bounds.VolumeBounds.{VolumeBounds}
use Rattle.tet_shapes.specs.declared.shape.Ratio.{Ratio}
use Rattle.tet_text.specs.Decimals.{Scaled}

-- the terms of the ratio are at most 2^20, and the angle is of at most 30 degrees
pub record IsFineShape (shape : Shape) : Type 0 where
  pub ratio : IsFine shape.ratio
  pub angle : IfSome shape.angle (λ degrees. degrees ≤ 30)

-- a volume has at most 36 decimals, and the numbers of a shape are small
pub record IsFineGoal (goal : Goal) : Type 0 where
  pub volume : IfSome goal.volume (λ v. v.scale ≤ 36)
  pub shape : IfSome goal.shape IsFineShape

-- the bounds on volumes, where these are bounded: by the volume of the goal, and by the limits of regions
abbrev pub goal_volumes : Grid → Goal → List (Option Scaled) → Option VolumeBounds
goal_volumes grid goal limits = if goal.bounds_volumes then Some (volume_bounds grid goal.volume limits) else None

abbrev pub shape_ratio : Shape → Ratio
shape_ratio shape = shape.ratio

-- the least dihedral angle of a shape in degrees, where it has one
abbrev pub shape_angle : Shape → Option ℕ
shape_angle shape = shape.angle

-- and its squared cosine
abbrev pub shape_cosine : Shape → Option Ratio
shape_cosine shape = option_map squared_cosine shape.angle

-- the bounds of a goal on the tetrahedra of a mesh, in the units of the grid of its points, where regions have these limits
abbrev pub shape_bounds : Bound → Goal → List (Option Scaled) → ShapeBounds
shape_bounds bound goal limits = record {
  volumes = goal_volumes bound.table.grid goal limits;
  ratio = option_map shape_ratio goal.shape;
  angle = option_and_then shape_angle goal.shape;
  cosine = option_and_then shape_cosine goal.shape;
}
