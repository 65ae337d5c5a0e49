-- The texts of a mesh's files, as functions of its rows.
use Rattle.std.specs.Prelude.{ℕ, ◌+◌, ◌<◌, ℤ, pos, negsuc, Option, Some, None, List, [], ◌∷◌, ◌++◌, map, flat_map, length, All, slice_index, slice_index_or}
use Rattle.std.specs.List.{enumerate_from}
use Rattle.std.specs.Fmt.{decimal, signed_decimal}
use Rattle.geo_laws.specs.Delaunay.{numbers}
use Rattle.geo_laws.specs.declared.complex.Region.{Region}
use Rattle.geo_laws.specs.declared.faces.Side.{Side}
use Rattle.geo_laws.specs.declared.tetrahedra.Tet.{Tet}
use Rattle.incidence.specs.declared.pairs.Across.{Across}
use Rattle.mesh_files.specs.declared.markers.FaceRow.{FaceRow}

-- a number, fields after it, each after a space, and what follows
abbrev pub fields_then : ℕ → List ℤ → List ℕ → List ℕ
fields_then number fields rest = decimal number ++ flat_map (λ z. 32 ∷ signed_decimal z) fields ++ rest

-- a line: a number, fields after it, and a line feed
abbrev pub text_line : ℕ → List ℤ → List ℕ
text_line number fields = fields_then number fields (10 ∷ [])

-- the number of a point in a file: its name, counted from the first number
abbrev pub file_number : List ℕ → ℕ → ℕ → ℤ
file_number names first point = pos (slice_index names point + first)

-- each of these points has a name
abbrev pub AreNamed : List ℕ → List ℕ → Type 0
AreNamed names points = All (λ n. n < length names) points

-- the line of the row at a place: its number and its four corners
abbrev pub ele_line : List ℕ → ℕ → ℕ → Tet → List ℕ
ele_line names first place row = text_line (place + first) (map (file_number names first) (numbers row))

-- the lines of rows from a place on
abbrev pub ele_lines : List ℕ → ℕ → ℕ → List Tet → List ℕ
ele_lines names first place rows = flat_map (λ r. ele_line names first r.0 r.1) (enumerate_from place rows)

-- `.ele`: the number of rows, four corners and no attribute; then the rows, numbered from the first number
abbrev pub ele_text : List ℕ → ℕ → List Tet → List ℕ
ele_text names first rows = text_line (length rows) (pos 4 ∷ pos 0 ∷ []) ++ ele_lines names first 0 rows

-- the attribute of a region, and 0 where there is none
abbrev pub attribute_of : List Region → Option ℕ → List ℕ
attribute_of regions None = 48 ∷ []
attribute_of regions (Some region) = slice_index_or (map (λ r. r.attribute) regions) region []

-- the line of the row at a place, with the attribute of the region that its mark names
abbrev pub marked_line : List Region → List ℕ → ℕ → ℕ → Tet → Option ℕ → List ℕ
marked_line regions names first place row mark = fields_then (place + first) (map (file_number names first) (numbers row))
    (32 ∷ attribute_of regions mark ++ (10 ∷ []))

-- its mark is the one at the same place
abbrev pub attributed_line : List (Option ℕ) → List Region → List ℕ → ℕ → ℕ → Tet → List ℕ
attributed_line marks regions names first place row = marked_line regions names first place row (slice_index_or marks place None)

abbrev pub attributed_lines : List (Option ℕ) → List Region → List ℕ → ℕ → ℕ → List Tet → List ℕ
attributed_lines marks regions names first place rows =
    flat_map (λ r. attributed_line marks regions names first r.0 r.1) (enumerate_from place rows)

-- `.ele` with marks: the number of rows, four corners and one attribute; then the rows
abbrev pub attributed_text : List (Option ℕ) → List Region → List ℕ → ℕ → List Tet → List ℕ
attributed_text marks regions names first rows =
    text_line (length rows) (pos 4 ∷ pos 1 ∷ []) ++ attributed_lines marks regions names first 0 rows

-- `.ele` with or without marks
abbrev pub ele_text_of : Option (List (Option ℕ)) → List Region → List ℕ → ℕ → List Tet → List ℕ
ele_text_of None regions names first rows = ele_text names first rows
ele_text_of (Some marks) regions names first rows = attributed_text marks regions names first rows

-- the corners of a face with a marker
abbrev pub marked_corners : FaceRow → List ℕ
marked_corners f = f.a ∷ f.b ∷ f.c ∷ []

-- the line of the face at a place: its number, its three corners and its marker
abbrev pub face_line : List ℕ → ℕ → ℕ → FaceRow → List ℕ
face_line names first place f =
    text_line (place + first) (file_number names first f.a ∷ file_number names first f.b ∷ file_number names first f.c ∷ f.marker ∷ [])

abbrev pub face_lines : List ℕ → ℕ → ℕ → List FaceRow → List ℕ
face_lines names first place faces = flat_map (λ r. face_line names first r.0 r.1) (enumerate_from place faces)

-- `.face`: the number of faces, and that they have markers; then the faces
abbrev pub face_text : List ℕ → ℕ → List FaceRow → List ℕ
face_text names first faces = text_line (length faces) (pos 1 ∷ []) ++ face_lines names first 0 faces

-- the line of the side at a place: its number and its two ends
abbrev pub edge_line : List ℕ → ℕ → ℕ → Side → List ℕ
edge_line names first place s = text_line (place + first) (file_number names first s.a ∷ file_number names first s.b ∷ [])

abbrev pub edge_lines : List ℕ → ℕ → ℕ → List Side → List ℕ
edge_lines names first place sides = flat_map (λ r. edge_line names first r.0 r.1) (enumerate_from place sides)

-- `.edge`: the number of sides, and that they have no markers; then the sides
abbrev pub edge_text : List ℕ → ℕ → List Side → List ℕ
edge_text names first sides = text_line (length sides) (pos 0 ∷ []) ++ edge_lines names first 0 sides

-- the number of a neighbor, and -1 where there is none
abbrev pub neighbor : ℕ → Option ℕ → ℤ
neighbor first None = negsuc 0
neighbor first (Some place) = pos (place + first)

-- the line of the row at a place: its number, and its neighbor across the face opposite each corner
abbrev pub neigh_line : ℕ → ℕ → Across → List ℕ
neigh_line first place x = text_line (place + first) (map (neighbor first) (x.n0 ∷ x.n1 ∷ x.n2 ∷ x.n3 ∷ []))

abbrev pub neigh_lines : ℕ → ℕ → List Across → List ℕ
neigh_lines first place rows = flat_map (λ r. neigh_line first r.0 r.1) (enumerate_from place rows)

-- `.neigh`: the number of rows, and four neighbors; then the neighbors, row by row
abbrev pub neigh_text : ℕ → List Across → List ℕ
neigh_text first rows = text_line (length rows) (pos 4 ∷ []) ++ neigh_lines first 0 rows
