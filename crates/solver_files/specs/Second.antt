-- Meshes of second order: tetrahedra and faces have the midpoints of their edges as further corners. The midpoints are behind all points,
-- in the ascending order of the edges.
use Rattle.std.specs.Prelude.{◌==◌, ℕ, ◌+◌, ◌≤◌, ◌+ℤ◌, Bool, ◌||◌, ◌&&◌, nat_lt, List, ◌∷◌, ◌++◌, flat_map, length, AllPairs, slice_index}
use Rattle.std.specs.List.{prefix_len}
use Rattle.std.specs.Fmt.{decimal}
use Rattle.sign_predicates.specs.Point.{Point}
use Rattle.grid_coords.specs.declared.grid.Grid.{Grid}
use Rattle.geo_laws.specs.Delaunay.{point}
use Rattle.geo_laws.specs.Faces.{SideBefore}
use Rattle.geo_laws.specs.declared.faces.Side.{Side}
use Rattle.node_files.specs.Writing.{fields_from}
use Rattle.solver_files.specs.Mesh.{Mesh, IsWritten, mesh_of, points_of, spaced}
use Rattle.solver_files.specs.declared.middle.Middle.{Middle}
use Rattle.solver_files.specs.declared.second_mesh.SecondMesh.{SecondMesh}

-- a mesh, its edges, and its points by the numbers of corners
pub record Second : Type 0 where
  pub mesh : Mesh
  pub sides : List Side
  pub points : List Point

abbrev pub second_of : SecondMesh → Second
second_of m = record { mesh = mesh_of m.whole; sides = m.sides.now; points = m.points.now }

-- A mesh that can be written in second order: its edges ascend, and its grid has a halving left for midpoints
pub record IsSecond (m : Second) : Type 0 where
  pub written : IsWritten m.mesh
  pub ascending : AllPairs SideBefore m.sides
  pub halvings : m.mesh.table.grid.halvings ≤ 17

-- ---- midpoints

-- the sum of two points
abbrev pub sum_of : Point → Point → Point
sum_of p q = record { x = p.x +ℤ q.x; y = p.y +ℤ q.y; z = p.z +ℤ q.z }

-- the coordinates of a midpoint as a point
abbrev pub point_of : Middle → Point
point_of m = record { x = m.x; y = m.y; z = m.z }

-- the grid with one halving more: in its units the midpoint of two grid points is their sum
abbrev pub finer : Grid → Grid
finer g = record { decimals = g.decimals; halvings = g.halvings + 1 }

-- the midpoint of an edge, in units of the finer grid
abbrev pub middle_of : List Point → Side → Point
middle_of ps s = sum_of (point ps s.a) (point ps s.b)

-- its coordinates as text, exact
abbrev pub middle_text : Second → Side → List ℕ
middle_text m s = spaced (fields_from m.mesh.origin (finer m.mesh.table.grid) (middle_of m.points s))

-- the number of points and midpoints
abbrev pub second_count : Second → ℕ
second_count m = length (points_of m.mesh) + length m.sides

-- ---- numbers of corners

abbrev pub is_before : Side → Side → Bool
is_before s t = nat_lt s.a t.a || (s.a == t.a && nat_lt s.b t.b)

-- the place of an edge among edges that ascend: the number of those that come before it
abbrev pub place_of : List Side → Side → ℕ
place_of sides s = prefix_len (λ t. is_before t s) sides

-- the number of a point in a file: its name, counted from the first number
abbrev pub corner_number : Second → ℕ → ℕ → ℕ
corner_number m first v = slice_index m.mesh.names v + first

-- the number of the midpoint of an edge: midpoints are behind all points
abbrev pub middle_number : Second → ℕ → Side → ℕ
middle_number m first s = length (points_of m.mesh) + place_of m.sides s + first

-- a number behind a space, 32
abbrev pub number_field : ℕ → List ℕ
number_field n = 32 ∷ decimal n

-- corners, and behind them the midpoints of edges
abbrev pub corner_fields : Second → ℕ → List ℕ → List Side → List ℕ
corner_fields m first corners edges =
    flat_map (λ v. number_field (corner_number m first v)) corners ++ flat_map (λ s. number_field (middle_number m first s)) edges
