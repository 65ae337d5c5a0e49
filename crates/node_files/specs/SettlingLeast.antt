-- The points of a mesh on their least grid.
use Rattle.std.specs.Prelude.{◌≡◌, ℕ, ◌<◌, ◌≤◌, length, List, map, Option, Result, Ok, Err}
use Rattle.sign_predicates.specs.Point.{Point}
use Rattle.grid_coords.specs.declared.grid.Grid.{Grid}
use Rattle.grid_coords.specs.declared.points.DecimalPoint.{DecimalPoint}
use Rattle.node_files.specs.declared.grid_fault.GridFault.{GridFault}
use Rattle.node_files.specs.declared.grid_fault.GridFault.TheVariants as faults
use Rattle.node_files.specs.LeastGrid.{least_grid_of, point_on}
use Rattle.node_files.specs.Settling.{rounded_points}

-- there are more points than are allowed
pub record AreTooMany (ps : List DecimalPoint) (most count : ℕ) : Type 0 where
  pub many : most < length ps
  pub counted : count ≡ length ps

-- the points are not too many, and the point of this line has a coordinate over `wide` units of their least grid
pub record IsOffLeastGrid (wide : ℕ) (ps : List DecimalPoint) (decimals : Option ℕ) (most line : ℕ) : Type 0 where
  pub few : length ps ≤ most
  pub off : least_grid_of wide (rounded_points decimals ps) ≡ Err (record { line = line })

-- the points are not too many, and these are they on their least grid
pub record IsOnLeastGrid (wide : ℕ) (ps : List DecimalPoint) (decimals : Option ℕ) (most : ℕ) (points : List Point) : Type 0 where
  pub few : length ps ≤ most
  pub grid : Grid
  pub on : least_grid_of wide (rounded_points decimals ps) ≡ Ok grid
  pub is : points ≡ map (point_on grid) (rounded_points decimals ps)

-- the first of these refusals that there is, unless memory ran out, else the points, where a coordinate may be `wide`
-- units in size
abbrev pub SettlesLeast : ℕ → List DecimalPoint → Option ℕ → ℕ → Result (List Point) GridFault → Type 0
SettlesLeast wide ps decimals most (Ok points) = IsOnLeastGrid wide ps decimals most points
SettlesLeast wide ps decimals most (Err (faults.TooMany count)) = AreTooMany ps most count
SettlesLeast wide ps decimals most (Err (faults.Range line)) = IsOffLeastGrid wide ps decimals most line
SettlesLeast wide ps decimals most (Err faults.NoMemory) = Unit {0}
