-- The mesh of a complex of arrays, as arrays; why there is none, and the statuses.
use Rattle.std.specs.Prelude.{◌≡◌, ◌⊎◌, ℕ, ◌-◌, ◌^◌, ◌<◌, ◌≤◌, List, ◌++◌, map, length, take, drop, false, All, Option, Some, None, slice_index}
use Rattle.complex_mesh.specs.Meshing.{IsComplexMesh, IsMeshFault}
use Rattle.complex_mesh.specs.declared.fault.MeshFault.{MeshFault}
use Rattle.complex_mesh.specs.declared.fault.MeshFault.TheVariants as fault
use Rattle.complex_mesh.specs.declared.mesh.ComplexMesh.{ComplexMesh}
use Rattle.geo_laws.specs.Delaunay.{numbers_below, row_at}
use Rattle.geo_laws.specs.declared.tetrahedra.Tet.{Tet}
use Rattle.hole_carve.specs.Marks.{mark_at}
use Rattle.incidence.specs.Pairs.{across_at, pairs_of}
use Rattle.incidence.specs.declared.pairs.Across.{Across}
use Rattle.mesh_files.specs.FaceRows.{AreFaceRowsOf}
use Rattle.mesh_files.specs.declared.markers.FaceRow.{FaceRow}
use Rattle.node_files.specs.Folding.{names_with}
use Rattle.node_files.specs.declared.table.NodeTable.{NodeTable}
use Rattle.sign_predicates.specs.Point.{Point}
use Rattle.array_meshes.specs.Arrays.{IsArrayTable, IsNear, most_places}
use Rattle.array_meshes.specs.Complexes.{HasParts, complex_on, mesh_options}
use Rattle.array_meshes.specs.declared.arrays.Place.{Place}
use Rattle.array_meshes.specs.declared.cells.Cell.{Cell}
use Rattle.array_meshes.specs.declared.cells.MarkedFace.{MarkedFace}
use Rattle.array_meshes.specs.declared.complexes.ArrayComplex.{ArrayComplex}
use Rattle.array_meshes.specs.declared.fault.ComplexFault.{ComplexFault}
use Rattle.array_meshes.specs.declared.fault.ComplexFault.TheVariants.{TooMany, OffGrid, BadIndex, Unmeshed, NoRoom, NoMemory}
use Rattle.array_meshes.specs.declared.fault.Counts.{Counts}
use Rattle.array_meshes.specs.declared.meshes.ArrayMesh.{ArrayMesh}

-- ---- a mesh as lists

abbrev pub place_of : Point → Place
place_of p = record { x = p.x; y = p.y; z = p.z }

-- no region, or no neighbor
abbrev pub no_place : ℕ
no_place = 2 ^ 32 - 1

abbrev pub place_or_none : Option ℕ → ℕ
place_or_none None = no_place
place_or_none (Some place) = place

-- the region of the tetrahedron at a place, where there are marks
abbrev pub region_at : Option (List (Option ℕ)) → ℕ → ℕ
region_at None i = no_place
region_at (Some marks) i = place_or_none (mark_at marks i)

-- a tetrahedron, by the names of its corners, with its region, and with its neighbors across the faces opposite its corners
abbrev pub named_cell : List ℕ → Tet → ℕ → Across → Cell
named_cell names t region across = record {
  a = slice_index names t.a;
  b = slice_index names t.b;
  c = slice_index names t.c;
  d = slice_index names t.d;
  region = region;
  n0 = place_or_none across.n0;
  n1 = place_or_none across.n1;
  n2 = place_or_none across.n2;
  n3 = place_or_none across.n3;
}

-- the tetrahedron at a place, with its region and its neighbors, which are those of the `.neigh` file
abbrev pub cell_at : List ℕ → List Tet → Option (List (Option ℕ)) → ℕ → Cell
cell_at names rows marks i = named_cell names (row_at rows i) (region_at marks i) (across_at (pairs_of rows) i)

-- a face, by the names of its corners
abbrev pub named_face : List ℕ → FaceRow → MarkedFace
named_face names f = record { a = slice_index names f.a; b = slice_index names f.b; c = slice_index names f.c; marker = f.marker }

-- the lists of a mesh, and how often the unit of its coordinates is halved
pub record MeshLists : Type 0 where
  pub halvings : ℕ
  pub points : List Place
  pub cells : List Cell
  pub faces : List MarkedFace

abbrev pub lists_of : ArrayMesh → MeshLists
lists_of made = record { halvings = made.halvings; points = made.points.items; cells = made.cells.items; faces = made.faces.items }

abbrev pub counts_of : MeshLists → Counts
counts_of made = record {
  points = length made.points;
  cells = length made.cells;
  faces = length made.faces;
  halvings = made.halvings;
}

-- the front of three arrays as lists, by these lengths
abbrev pub lists_in : Counts → List Place → List Cell → List MarkedFace → MeshLists
lists_in counts points cells faces = record {
  halvings = counts.halvings;
  points = take counts.points points;
  cells = take counts.cells cells;
  faces = take counts.faces faces;
}

-- the arrays have room for as many
pub record HasRoom (points cells faces : ℕ) (counts : Counts) : Type 0 where
  pub points_fit : counts.points ≤ points
  pub cells_fit : counts.cells ≤ cells
  pub faces_fit : counts.faces ≤ faces

-- ---- the mesh of a complex

-- The points on a table and all that the facets name is there; a mesh of the complex on the kept points, and its faces: those on the hull
-- and those that lie in facets, with their markers
pub record IsMeshed (c : ArrayComplex) (table : NodeTable) (mesh : ComplexMesh) (found : List FaceRow) : Type 0 where
  pub on : IsArrayTable c.options.halvings c.points.now table
  pub there : HasParts c
  pub is_mesh : IsComplexMesh (mesh_options table c) table.points (complex_on table c) mesh
  pub faces : AreFaceRowsOf mesh.points mesh.tetrahedra (complex_on table c) mesh.triangles false found

-- the points that were added to those of the table
abbrev pub added_to : NodeTable → ComplexMesh → List Point
added_to table mesh = drop (length table.points) mesh.points

-- the places of the mesh's points: a kept point has that of the array, an added one a place behind all of the array
abbrev pub names_of : NodeTable → ComplexMesh → List ℕ
names_of table mesh = names_with table (length (added_to table mesh))

-- the lists have all points of the array and the added ones behind them, in the units of the grid, the tetrahedra with their regions and
-- their neighbors, and the faces with their markers
pub record AreListsOf (table : NodeTable) (mesh : ComplexMesh) (found : List FaceRow) (made : MeshLists) : Type 0 where
  pub halvings_are : made.halvings ≡ table.grid.halvings
  pub points_are : made.points ≡ map place_of (table.listed ++ added_to table mesh)
  pub cells_are : made.cells ≡ map (cell_at (names_of table mesh) mesh.tetrahedra mesh.marks) (numbers_below (length mesh.tetrahedra))
  pub faces_are : made.faces ≡ map (named_face (names_of table mesh)) found

-- such a mesh, as these lists
pub record IsArrayMesh (c : ArrayComplex) (made : MeshLists) : Type 0 where
  pub table : NodeTable
  pub mesh : ComplexMesh
  pub found : List FaceRow
  pub meshed : IsMeshed c table mesh found
  pub lists : AreListsOf table mesh found made

-- ---- why there is none

-- the most points that may be added
abbrev pub most_added : ℕ
most_added = 100000000

-- the complex on the kept points has no mesh, for this reason
pub record IsUnmeshed (c : ArrayComplex) (why : MeshFault) : Type 0 where
  pub table : NodeTable
  pub on : IsArrayTable c.options.halvings c.points.now table
  pub there : HasParts c
  pub cause : IsMeshFault (mesh_options table c) table.points (complex_on table c) why

-- why the complex has no mesh; out of memory may always come
abbrev pub IsComplexFault : ArrayComplex → ComplexFault → Type 0
IsComplexFault c TooMany = (most_places < length c.points.now) ⊎ (most_added < c.options.budget)
IsComplexFault c OffGrid = ¬ All IsNear c.points.now
IsComplexFault c BadIndex = ¬ HasParts c
IsComplexFault c (Unmeshed why) = IsUnmeshed c why
IsComplexFault c (NoRoom counts) = ⊥
IsComplexFault c NoMemory = Unit {0}

-- one of the rooms is less than the lists of a mesh of the complex want
pub record LacksRoom (c : ArrayComplex) (points cells faces : ℕ) (counts : Counts) : Type 0 where
  pub made : MeshLists
  pub is : IsArrayMesh c made
  pub counted : counts ≡ counts_of made
  pub more : (points < counts.points) ⊎ (cells < counts.cells) ⊎ (faces < counts.faces)

-- why the mesh is not in arrays with these rooms
abbrev pub IsMeshedFault : ArrayComplex → ℕ → ℕ → ℕ → ComplexFault → Type 0
IsMeshedFault c points cells faces (NoRoom counts) = LacksRoom c points cells faces counts
IsMeshedFault c points cells faces why = IsComplexFault c why

-- ---- the statuses

abbrev pub mesh_code : MeshFault → ℕ
mesh_code fault.Flat = 6
mesh_code (fault.NotFlat facet four) = 6
mesh_code (fault.SegmentsCross one two) = 6
mesh_code (fault.Crossing one two) = 6
mesh_code (fault.GridEnd piece) = 7
mesh_code (fault.BudgetEnd made piece) = 8
mesh_code (fault.NoFill anomaly) = 9
mesh_code fault.NoMemory = 10

-- the statuses of the program, and 20 for want of room
abbrev pub code_of : ComplexFault → ℕ
code_of BadIndex = 4
code_of TooMany = 5
code_of OffGrid = 5
code_of (Unmeshed why) = mesh_code why
code_of NoMemory = 10
code_of (NoRoom counts) = 20

abbrev pub no_counts : Counts
no_counts = record { points = 0; cells = 0; faces = 0; halvings = 0 }

-- the lengths of the lists for which there is no room
abbrev pub wanted_of : ComplexFault → Counts
wanted_of (NoRoom counts) = counts
wanted_of why = no_counts
