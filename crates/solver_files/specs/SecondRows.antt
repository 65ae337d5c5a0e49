-- The lines of tetrahedra and faces of second order, in the order and the form of each format.
use Rattle.std.specs.Prelude.{ℕ, ◌+◌, Option, Some, None, List, [], ◌∷◌, ◌++◌, flat_map, length, codes}
use Rattle.std.specs.List.{enumerate_from}
use Rattle.std.specs.Fmt.{decimal, signed_decimal}
use Rattle.geo_laws.specs.Delaunay.{numbers}
use Rattle.geo_laws.specs.Faces.{side_of}
use Rattle.geo_laws.specs.declared.faces.Side.{Side}
use Rattle.geo_laws.specs.declared.tetrahedra.Tet.{Tet}
use Rattle.mesh_files.specs.Texts.{marked_corners}
use Rattle.mesh_files.specs.declared.markers.FaceRow.{FaceRow}
use Rattle.solver_files.specs.Mesh.{Mesh, attribute_at, marker_tag, tet_tag}
use Rattle.solver_files.specs.Second.{Second, corner_fields}
use Rattle.solver_files.specs.declared.second_rows.Format.{Format}
use Rattle.solver_files.specs.declared.second_rows.Format.TheVariants.{Tetgen, Vtk, Gmsh}

-- ---- the order of midpoints behind the corners a, b, c, d

abbrev pub tet_edges : Format → Tet → List Side
tet_edges Tetgen t = side_of t.c t.d ∷ side_of t.a t.d ∷ side_of t.a t.b ∷ side_of t.b t.c ∷ side_of t.b t.d ∷ side_of t.a t.c ∷ []
tet_edges Vtk t = side_of t.a t.b ∷ side_of t.b t.c ∷ side_of t.a t.c ∷ side_of t.a t.d ∷ side_of t.b t.d ∷ side_of t.c t.d ∷ []
tet_edges Gmsh t = side_of t.a t.b ∷ side_of t.b t.c ∷ side_of t.a t.c ∷ side_of t.a t.d ∷ side_of t.c t.d ∷ side_of t.b t.d ∷ []

-- and behind the corners a, b, c of a face
abbrev pub face_edges : Format → FaceRow → List Side
face_edges Tetgen f = side_of f.b f.c ∷ side_of f.a f.c ∷ side_of f.a f.b ∷ []
face_edges Vtk f = side_of f.a f.b ∷ side_of f.b f.c ∷ side_of f.a f.c ∷ []
face_edges Gmsh f = side_of f.a f.b ∷ side_of f.b f.c ∷ side_of f.a f.c ∷ []

-- ---- tetrahedra

-- the tag of a group twice, for the physical and the elementary one
abbrev pub twice : ℕ → List ℕ
twice tag = decimal tag ++ (32 ∷ decimal tag)

-- what is in front of the corners of the tetrahedron at a place: its number; of VTK how many corners there are; of Gmsh also the type 11,
-- that there are two tags, and its group twice
abbrev pub tet_front : Format → Mesh → ℕ → ℕ → List ℕ
tet_front Tetgen m first place = decimal (place + first)
tet_front Vtk m first place = codes "10"
tet_front Gmsh m first place = decimal (place + first) ++ codes " 11 2 " ++ twice (tet_tag m place)

-- the attribute of a tetrahedron as the `.ele` file has it, and none where there are no marks
abbrev pub attribute_end : Option (List (Option ℕ)) → List ℕ → List ℕ
attribute_end None attribute = 10 ∷ []
attribute_end (Some marks) attribute = 32 ∷ attribute ++ (10 ∷ [])

abbrev pub tet_end : Format → Mesh → ℕ → List ℕ
tet_end Tetgen m place = attribute_end m.marks (attribute_at m place)
tet_end Vtk m place = 10 ∷ []
tet_end Gmsh m place = 10 ∷ []

-- the line of the tetrahedron at a place
abbrev pub tet_row : Format → Second → ℕ → ℕ → Tet → List ℕ
tet_row format m first place t =
    tet_front format m.mesh first place ++ (corner_fields m first (numbers t) (tet_edges format t) ++ tet_end format m.mesh place)

abbrev pub tet_rows : Format → Second → ℕ → List ℕ
tet_rows format m first = flat_map (λ r. tet_row format m first r.0 r.1) (enumerate_from 0 m.mesh.rows)

-- ---- faces

-- of Gmsh the type is 9, and faces are numbered behind the tetrahedra
abbrev pub face_front : Format → Mesh → ℕ → ℕ → FaceRow → List ℕ
face_front Tetgen m first place f = decimal (place + first)
face_front Vtk m first place f = codes "6"
face_front Gmsh m first place f = decimal (length m.rows + place + first) ++ codes " 9 2 " ++ twice (marker_tag f.marker)

abbrev pub face_end : Format → FaceRow → List ℕ
face_end Tetgen f = 32 ∷ signed_decimal f.marker ++ (10 ∷ [])
face_end Vtk f = 10 ∷ []
face_end Gmsh f = 10 ∷ []

-- the line of the face at a place
abbrev pub face_row : Format → Second → ℕ → ℕ → FaceRow → List ℕ
face_row format m first place f =
    face_front format m.mesh first place f ++ (corner_fields m first (marked_corners f) (face_edges format f) ++ face_end format f)

abbrev pub face_rows : Format → Second → ℕ → List ℕ
face_rows format m first = flat_map (λ r. face_row format m first r.0 r.1) (enumerate_from 0 m.mesh.faces)
