-- The points of a mesh measured from the middle of their box, on their least grid.
use Rattle.std.specs.Prelude.{◌≡◌, List, Option, Some, None, Result, Ok, Err}
use Rattle.sign_predicates.specs.Point.{Point}
use Rattle.grid_coords.specs.Origins.{origin_of}
use Rattle.grid_coords.specs.Units.{limit}
use Rattle.grid_coords.specs.declared.grid.Range.{Range}
use Rattle.grid_coords.specs.declared.origin.WholePoint.{WholePoint}
use Rattle.grid_coords.specs.declared.points.DecimalPoint.{DecimalPoint}
use Rattle.node_files.specs.SettlingLeast.{IsOnLeastGrid}
use Rattle.mesh_check.specs.Checking.{IsUnsettled, most_points}
use Rattle.mesh_check.specs.declared.fault.CheckFault.{CheckFault}
use Rattle.mesh_check.specs.declared.fault.CheckFault.TheVariants.{OffGrid, NoMemory}
use Rattle.mesh_check.specs.Moving.{moved_from}

-- the points, or that first one, which is off the grid
abbrev pub IsMoving : Result (List DecimalPoint) Range → Result (List DecimalPoint) CheckFault → Type 0
IsMoving moving (Ok moved) = moving ≡ Ok moved
IsMoving moving (Err (OffGrid line)) = moving ≡ Err (record { line = line })
IsMoving moving (Err NoMemory) = Unit {0}
IsMoving moving (Err fault) = ⊥

abbrev pub MovedAnswer : WholePoint → List DecimalPoint → Result (List DecimalPoint) CheckFault → Type 0
MovedAnswer w ps = IsMoving (moved_from w ps)

-- the points less an origin, where there is one
abbrev pub moved_by : Option WholePoint → List DecimalPoint → Result (List DecimalPoint) Range
moved_by None ps = Ok ps
moved_by (Some w) ps = moved_from w ps

-- The points less the middle of their box, which has whole coordinates; or the line of the first point with a coordinate that then has over
-- 36 digits
abbrev pub centered : List DecimalPoint → Result (List DecimalPoint) Range
centered ps = moved_by (origin_of ps) ps

abbrev pub CenteredAnswer : List DecimalPoint → Result (List DecimalPoint) CheckFault → Type 0
CenteredAnswer ps = IsMoving (centered ps)

-- the points on their least grid, on which no coordinate is over 2^29 units in size
abbrev pub PlacedAnswer : List DecimalPoint → Result (List Point) CheckFault → Type 0
PlacedAnswer ps (Ok points) = IsOnLeastGrid limit ps None most_points points
PlacedAnswer ps (Err fault) = IsUnsettled limit None ps fault
