-- Legacy VTK files, version 3.0: an unstructured grid in text ("Simple Legacy Formats", VTK user's guide). A cell is a tetrahedron or a
-- face, and its corners are places of points, from 0.
use Rattle.std.specs.Prelude.{ℕ, ◌+◌, ◌*◌, List, [], ◌∷◌, ◌++◌, map, flat_map, length, codes}
use Rattle.std.specs.List.{enumerate_from}
use Rattle.std.specs.Fmt.{decimal, signed_decimal}
use Rattle.sign_predicates.specs.Point.{Point}
use Rattle.geo_laws.specs.Delaunay.{numbers}
use Rattle.geo_laws.specs.declared.tetrahedra.Tet.{Tet}
use Rattle.mesh_files.specs.Texts.{file_number, marked_corners, text_line}
use Rattle.mesh_files.specs.declared.markers.FaceRow.{FaceRow}
use Rattle.solver_files.specs.Mesh.{Mesh, attribute_at, copies, place_text, points_of, scalar_of}

-- the number of cells, and the number of numbers in their lines: five a tetrahedron, and four a face
abbrev pub cell_count : Mesh → ℕ
cell_count m = length m.rows + length m.faces

abbrev pub cell_size : Mesh → ℕ
cell_size m = 5 * length m.rows + 4 * length m.faces

-- the points, each in a line
abbrev pub place_line : Mesh → Point → List ℕ
place_line m p = place_text m p ++ (10 ∷ [])

abbrev pub vtk_points : Mesh → List ℕ
vtk_points m =
    codes "# vtk DataFile Version 3.0\ntetgen\nASCII\nDATASET UNSTRUCTURED_GRID\nPOINTS "
    ++ decimal (length (points_of m)) ++ codes " double\n" ++ flat_map (place_line m) (points_of m)

-- the line of a cell: the number of its corners, and the corners. Those of a tetrahedron are in the order of its row: where it is
-- positive, the fourth is on the side to which the normal of the first three points by the right-hand rule, as VTK numbers them
abbrev pub cell_line : List ℕ → List ℕ → List ℕ
cell_line names corners = text_line (length corners) (map (file_number names 0) corners)

abbrev pub tet_cell : List ℕ → Tet → List ℕ
tet_cell names t = cell_line names (numbers t)

abbrev pub face_cell : List ℕ → FaceRow → List ℕ
face_cell names f = cell_line names (marked_corners f)

-- the tetrahedra, and then the faces
abbrev pub vtk_cells : Mesh → List ℕ
vtk_cells m =
    codes "CELLS " ++ decimal (cell_count m) ++ codes " " ++ (decimal (cell_size m) ++ codes "\n")
    ++ flat_map (tet_cell m.names) m.rows ++ flat_map (face_cell m.names) m.faces

-- their types: 10 is a tetrahedron, 5 a triangle
abbrev pub vtk_types : Mesh → List ℕ
vtk_types m =
    codes "CELL_TYPES " ++ decimal (cell_count m) ++ codes "\n"
    ++ copies (length m.rows) (codes "10\n") ++ copies (length m.faces) (codes "5\n")

-- the attribute of the tetrahedron at a place
abbrev pub scalar_line : Mesh → ℕ → List ℕ
scalar_line m place = scalar_of (attribute_at m place) ++ (10 ∷ [])

-- the attribute of each tetrahedron, and 0 for each face
abbrev pub vtk_regions : Mesh → List ℕ
vtk_regions m =
    codes "CELL_DATA " ++ decimal (cell_count m) ++ codes "\nSCALARS region double 1\nLOOKUP_TABLE default\n"
    ++ flat_map (λ r. scalar_line m r.0) (enumerate_from 0 m.rows)
    ++ copies (length m.faces) (codes "0\n")

-- the marker of a face
abbrev pub marker_line : FaceRow → List ℕ
marker_line f = signed_decimal f.marker ++ (10 ∷ [])

-- 0 for each tetrahedron, and the marker of each face
abbrev pub vtk_markers : Mesh → List ℕ
vtk_markers m =
    codes "SCALARS marker long 1\nLOOKUP_TABLE default\n"
    ++ copies (length m.rows) (codes "0\n") ++ flat_map marker_line m.faces

-- the whole file
abbrev pub vtk_text : Mesh → List ℕ
vtk_text m = vtk_points m ++ vtk_cells m ++ vtk_types m ++ vtk_regions m ++ vtk_markers m
