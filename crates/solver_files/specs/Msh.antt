-- Files of Gmsh's format MSH 2.2, in text ("MSH file format version 2", Gmsh reference manual). Nodes and elements are numbered from 1, and
-- an element is a tetrahedron or a face.
use Rattle.std.specs.Prelude.{ℕ, ◌+◌, pos, List, [], ◌∷◌, ◌++◌, map, flat_map, length, codes}
use Rattle.std.specs.List.{enumerate_from}
use Rattle.std.specs.Fmt.{decimal}
use Rattle.sign_predicates.specs.Point.{Point}
use Rattle.geo_laws.specs.Delaunay.{numbers}
use Rattle.geo_laws.specs.declared.tetrahedra.Tet.{Tet}
use Rattle.mesh_files.specs.Texts.{file_number, marked_corners, text_line}
use Rattle.mesh_files.specs.declared.markers.FaceRow.{FaceRow}
use Rattle.solver_files.specs.Mesh.{Mesh, marker_tag, place_text, points_of, tet_tag}

-- the number of a point and its coordinates
abbrev pub node_line : Mesh → ℕ → Point → List ℕ
node_line m number p = decimal number ++ (32 ∷ place_text m p) ++ (10 ∷ [])

-- all points
abbrev pub msh_nodes : Mesh → List ℕ
msh_nodes m =
    codes "$MeshFormat\n2.2 0 8\n$EndMeshFormat\n$Nodes\n" ++ decimal (length (points_of m)) ++ codes "\n"
    ++ flat_map (λ r. node_line m r.0 r.1) (enumerate_from 1 (points_of m))
    ++ codes "$EndNodes\n"

-- the line of an element: its number, its type, the number of its tags, the tags of its physical and its elementary group, which are
-- equal, and its corners. Those of a tetrahedron are in the order of its row: where it is positive, the fourth is on the side to which the
-- normal of the first three points by the right-hand rule, as Gmsh numbers them
abbrev pub element_line : List ℕ → ℕ → ℕ → ℕ → List ℕ → List ℕ
element_line names number kind tag corners =
    text_line number (pos kind ∷ pos 2 ∷ pos tag ∷ pos tag ∷ map (file_number names 1) corners)

-- the tetrahedron at a place, of type 4, in the group of its attribute
abbrev pub tet_line : Mesh → ℕ → Tet → List ℕ
tet_line m place t = element_line m.names (place + 1) 4 (tet_tag m place) (numbers t)

-- the face at a place, of type 2, in the group of its marker, numbered behind the tetrahedra
abbrev pub triangle_line : Mesh → ℕ → FaceRow → List ℕ
triangle_line m place f =
    element_line m.names (length m.rows + place + 1) 2 (marker_tag f.marker) (marked_corners f)

-- the tetrahedra, and then the faces
abbrev pub msh_elements : Mesh → List ℕ
msh_elements m =
    codes "$Elements\n" ++ decimal (length m.rows + length m.faces) ++ codes "\n"
    ++ flat_map (λ r. tet_line m r.0 r.1) (enumerate_from 0 m.rows)
    ++ flat_map (λ r. triangle_line m r.0 r.1) (enumerate_from 0 m.faces)
    ++ codes "$EndElements\n"

-- the whole file
abbrev pub msh_text : Mesh → List ℕ
msh_text m = msh_nodes m ++ msh_elements m
