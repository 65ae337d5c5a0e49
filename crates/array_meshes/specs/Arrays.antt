-- Arrays of points with whole coordinates, and the Delaunay list of such an array as an array of rows.
use Rattle.std.specs.Prelude.{◌≡◌, ◌⊎◌, ℕ, ◌^◌, ◌<◌, ◌≤◌, min, ℤ, pos, ◌*ℤ◌, unsigned_abs, List, [], map, length, false, All, slice_index, None}
use Rattle.geo_laws.specs.Delaunay.{AreCoplanar, IsDelaunayList}
use Rattle.geo_laws.specs.declared.tetrahedra.Tet.{Tet}
use Rattle.grid_coords.specs.Choice.{greatest_size, halvings_for, most_halvings}
use Rattle.grid_coords.specs.Units.{limit}
use Rattle.grid_coords.specs.declared.grid.Grid.{Grid}
use Rattle.grid_coords.specs.declared.points.DecimalPoint.{DecimalPoint}
use Rattle.node_files.specs.Folding.{IsFolded}
use Rattle.node_files.specs.declared.limits.Limits.{Limits}
use Rattle.node_files.specs.declared.node_text.NodeText.{NodeText}
use Rattle.node_files.specs.declared.table.GridOptions.{GridOptions}
use Rattle.node_files.specs.declared.table.NodeTable.{NodeTable}
use Rattle.sign_predicates.specs.Point.{Point}
use Rattle.tet_text.specs.Decimals.{Scaled}
use Rattle.array_meshes.specs.declared.arrays.ArrayFault.{ArrayFault}
use Rattle.array_meshes.specs.declared.arrays.ArrayFault.TheVariants.{TooMany, OffGrid, Flat, NoRoom, NoMemory}
use Rattle.array_meshes.specs.declared.arrays.Place.{Place}
use Rattle.array_meshes.specs.declared.arrays.Row.{Row}

-- ---- the points

-- the most points of an array
abbrev pub most_places : ℕ
most_places = 4000000

abbrev pub point_of : Place → Point
point_of p = record { x = p.x; y = p.y; z = p.z }

-- the points of an array
abbrev pub points_of : List Place → List Point
points_of places = map point_of places

-- each coordinate is at most 2^29 in size
pub record IsNear (p : Place) : Type 0 where
  pub x : unsigned_abs p.x ≤ limit
  pub y : unsigned_abs p.y ≤ limit
  pub z : unsigned_abs p.z ≤ limit

-- ---- the points as the text of a point list

-- the whole number as a decimal
abbrev pub whole : ℤ → Scaled
whole n = record { value = n; scale = 0 }

abbrev pub decimal_point : Place → DecimalPoint
decimal_point p = record { x = whole p.x; y = whole p.y; z = whole p.z; line = 0 }

-- the points without attributes and markers, numbered from 0
abbrev pub text_of : List Place → NodeText
text_of places = record {
  first = 0;
  attribute_count = 0;
  flag = false;
  decimals = map decimal_point places;
  attributes = [];
  markers = [];
}

-- nothing is rounded, and the unit is 1, which may be halved up to `most` times
abbrev pub whole_units : ℕ → GridOptions
whole_units most = record { decimals = None; halvings = most }

-- the limits of `tetfit`: 2^30 bytes of a file, 4,000,000 points and facets, 1,000,000 corners of a polygon, and coordinates up to 2^29
abbrev pub array_limits : Limits
array_limits = record { bytes = 1073741824; points = most_places; facets = 4000000; corners = 1000000; grid = limit }

-- ---- the points on their grid

-- how often the unit is halved: the largest number up to `most`, and up to 18, with which each coordinate is at most 2^29 units in size
abbrev pub halvings_of : ℕ → List Place → ℕ
halvings_of most places = halvings_for limit (min most_halvings most) (greatest_size 0 (map decimal_point places))

-- the grid whose unit is 1 / 2^halvings
abbrev pub halved_grid : ℕ → Grid
halved_grid halvings = record { decimals = 0; halvings = halvings }

-- the point in units of 1 / 2^halvings
abbrev pub halved_point : ℕ → Place → Point
halved_point halvings p = record { x = pos (2 ^ halvings) *ℤ p.x; y = pos (2 ^ halvings) *ℤ p.y; z = pos (2 ^ halvings) *ℤ p.z }

-- the points are few and near enough; the table has them in the units of its grid, where those that are equal to no earlier one are kept
pub record IsArrayTable (most : ℕ) (places : List Place) (table : NodeTable) : Type 0 where
  pub few : length places ≤ most_places
  pub near : All IsNear places
  pub grid_is : table.grid ≡ halved_grid (halvings_of most places)
  pub listed_are : table.listed ≡ map (halved_point table.grid.halvings) places
  pub folding : IsFolded table.listed table.points table.names table.folded

-- ---- the rows

-- a row of kept points, by the places of these points in the array
abbrev pub named : List ℕ → Tet → Row
named names t = record {
  a = slice_index names t.a;
  b = slice_index names t.b;
  c = slice_index names t.c;
  d = slice_index names t.d;
}

-- The points are few and near enough, and the rows are the Delaunay list of the points that are equal to no earlier one, in its order; a
-- corner is the place of its point in the array, from 0
pub record AreDelaunayRows (places : List Place) (rows : List Row) : Type 0 where
  pub few : length places ≤ most_places
  pub near : All IsNear places
  pub points : List Point
  pub names : List ℕ
  pub folded : List ℕ
  pub folding : IsFolded (points_of places) points names folded
  pub list : List Tet
  pub delaunay : IsDelaunayList points list
  pub rows_are : rows ≡ map (named names) list

-- ---- why there are none

-- there are too many points, or one is too far out
abbrev pub IsOverLimits : List Place → Type 0
IsOverLimits places = (most_places < length places) ⊎ ¬ All IsNear places

-- the array has a Delaunay list, of this length, and the room is less
pub record LacksRoom (places : List Place) (room count : ℕ) : Type 0 where
  pub rows : List Row
  pub are : AreDelaunayRows places rows
  pub counted : count ≡ length rows
  pub more : room < count

-- why the points are on no grid; out of memory may always come
abbrev pub IsTableFault : List Place → ArrayFault → Type 0
IsTableFault places TooMany = most_places < length places
IsTableFault places OffGrid = ¬ All IsNear places
IsTableFault places NoMemory = Unit {0}
IsTableFault places fault = ⊥

-- why the points have no mesh; it is no want of room
abbrev pub IsMeshFault : List Place → ArrayFault → Type 0
IsMeshFault places Flat = AreCoplanar (points_of places)
IsMeshFault places fault = IsTableFault places fault

-- why the rows are not in an array with this room
abbrev pub IsArrayFault : List Place → ℕ → ArrayFault → Type 0
IsArrayFault places room (NoRoom count) = LacksRoom places room count
IsArrayFault places room fault = IsMeshFault places fault

-- the statuses of the programs, and 20 for want of room
abbrev pub code_of : ArrayFault → ℕ
code_of TooMany = 5
code_of OffGrid = 5
code_of Flat = 6
code_of NoMemory = 10
code_of (NoRoom count) = 20

-- the length of the list for which there is no room
abbrev pub wanted_of : ArrayFault → ℕ
wanted_of (NoRoom count) = count
wanted_of fault = 0
