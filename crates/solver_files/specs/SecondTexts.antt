-- The texts of a mesh of second order.
use Rattle.std.specs.Prelude.{◌==◌, ℕ, ◌+◌, ◌*◌, Bool, Option, Some, None, List, [], ◌∷◌, ◌++◌, drop, flat_map, length, codes, position}
use Rattle.std.specs.List.{enumerate_from}
use Rattle.std.specs.Fmt.{decimal}
use Rattle.geo_laws.specs.declared.faces.Side.{Side}
use Rattle.node_files.specs.Writing.{mark_count, node_text_from}
use Rattle.solver_files.specs.Mesh.{Mesh, copies, points_of}
use Rattle.solver_files.specs.Msh.{node_line}
use Rattle.solver_files.specs.Second.{Second, middle_text, second_count}
use Rattle.solver_files.specs.SecondRows.{face_rows, tet_rows}
use Rattle.solver_files.specs.Vtk.{cell_count, place_line, vtk_markers, vtk_regions}
use Rattle.solver_files.specs.declared.second_rows.Format.TheVariants.{Tetgen, Vtk, Gmsh}

-- ---- the points

-- the bytes behind a place
abbrev pub bytes_behind : List ℕ → Option ℕ → List ℕ
bytes_behind text None = []
bytes_behind text (Some place) = drop (place + 1) text

abbrev pub is_line_feed : ℕ → Bool
is_line_feed c = c == 10

-- the lines behind the first one
abbrev pub lines_behind : List ℕ → List ℕ
lines_behind text = bytes_behind text (position is_line_feed text)

-- <# of points> 3 <# of attributes> <marker flag>
abbrev pub second_head : Second → List ℕ
second_head m =
    decimal (second_count m) ++ codes " 3 " ++ decimal m.mesh.table.attribute_count ++ codes " "
    ++ (decimal (mark_count m.mesh.table.flag) ++ codes "\n")

-- how many attributes and markers a point has
abbrev pub tail_count : Second → ℕ
tail_count m = m.mesh.table.attribute_count + mark_count m.mesh.table.flag

-- the line of the midpoint of an edge: its number, its coordinates, and for each attribute and for the marker 0, as an added point has
abbrev pub middle_line : Second → ℕ → Side → List ℕ
middle_line m number s = decimal number ++ (32 ∷ middle_text m s) ++ copies (tail_count m) (codes " 0") ++ (10 ∷ [])

-- `.node`: the lines of all points are those of the file of first order, and the midpoints are numbered behind them
abbrev pub second_node_text : Second → ℕ → List ℕ
second_node_text m first =
    second_head m ++ lines_behind (node_text_from m.mesh.origin m.mesh.table m.mesh.added first)
    ++ flat_map (λ r. middle_line m r.0 r.1) (enumerate_from (length (points_of m.mesh) + first) m.sides)

-- ---- tetrahedra and faces

-- ten corners, and one attribute where the tetrahedra have marks
abbrev pub ele_head : Option (List (Option ℕ)) → List ℕ
ele_head None = codes " 10 0\n"
ele_head (Some marks) = codes " 10 1\n"

-- `.ele`
abbrev pub second_ele_text : Second → ℕ → List ℕ
second_ele_text m first = decimal (length m.mesh.rows) ++ ele_head m.mesh.marks ++ tet_rows Tetgen m first

-- `.face`, with markers
abbrev pub second_face_text : Second → ℕ → List ℕ
second_face_text m first = decimal (length m.mesh.faces) ++ codes " 1\n" ++ face_rows Tetgen m first

-- ---- the whole mesh

-- the coordinates of the midpoint of an edge
abbrev pub middle_place_line : Second → Side → List ℕ
middle_place_line m s = middle_text m s ++ (10 ∷ [])

-- points and midpoints, each in a line
abbrev pub second_vtk_points : Second → List ℕ
second_vtk_points m =
    codes "# vtk DataFile Version 3.0\ntetgen\nASCII\nDATASET UNSTRUCTURED_GRID\nPOINTS "
    ++ decimal (second_count m) ++ codes " double\n" ++ flat_map (place_line m.mesh) (points_of m.mesh)
    ++ flat_map (middle_place_line m) m.sides

-- eleven numbers a tetrahedron, and seven a face
abbrev pub second_size : Mesh → ℕ
second_size m = 11 * length m.rows + 7 * length m.faces

abbrev pub second_vtk_cells : Second → List ℕ
second_vtk_cells m =
    codes "CELLS " ++ decimal (cell_count m.mesh) ++ codes " " ++ (decimal (second_size m.mesh) ++ codes "\n")
    ++ tet_rows Vtk m 0 ++ face_rows Vtk m 0

-- 24 is a quadratic tetrahedron, 22 a quadratic triangle
abbrev pub second_vtk_types : Mesh → List ℕ
second_vtk_types m =
    codes "CELL_TYPES " ++ decimal (cell_count m) ++ codes "\n"
    ++ copies (length m.rows) (codes "24\n") ++ copies (length m.faces) (codes "22\n")

-- `.vtk`
abbrev pub second_vtk_text : Second → List ℕ
second_vtk_text m =
    second_vtk_points m ++ second_vtk_cells m ++ second_vtk_types m.mesh ++ vtk_regions m.mesh ++ vtk_markers m.mesh

-- the number of the midpoint of an edge, and its coordinates
abbrev pub middle_node : Second → ℕ → Side → List ℕ
middle_node m number s = decimal number ++ (32 ∷ middle_text m s) ++ (10 ∷ [])

-- points and midpoints, numbered from 1
abbrev pub second_msh_nodes : Second → List ℕ
second_msh_nodes m =
    codes "$MeshFormat\n2.2 0 8\n$EndMeshFormat\n$Nodes\n" ++ decimal (second_count m) ++ codes "\n"
    ++ flat_map (λ r. node_line m.mesh r.0 r.1) (enumerate_from 1 (points_of m.mesh))
    ++ flat_map (λ r. middle_node m r.0 r.1) (enumerate_from (length (points_of m.mesh) + 1) m.sides)
    ++ codes "$EndNodes\n"

abbrev pub second_msh_elements : Second → List ℕ
second_msh_elements m =
    codes "$Elements\n" ++ decimal (cell_count m.mesh) ++ codes "\n" ++ tet_rows Gmsh m 1 ++ face_rows Gmsh m 1 ++ codes "$EndElements\n"

-- `.msh`
abbrev pub second_msh_text : Second → List ℕ
second_msh_text m = second_msh_nodes m ++ second_msh_elements m
