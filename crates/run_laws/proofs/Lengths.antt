-- A text has as many lines as rows, and so at least as many bytes.
use Rattle.std.proofs.Common.{ℕ, ◌+◌, ◌≤◌, ℤ, pos, List, [], ◌∷◌, ◌++◌, length, Option, Some, None, length-append, arith}
use Rattle.std.specs.Prelude.{flat_map, map, slice_index_or}
use Rattle.std.specs.Fmt.{decimal, signed_decimal}
use Rattle.geo_laws.specs.Delaunay.{numbers}
use Rattle.geo_laws.specs.declared.tetrahedra.Tet.{Tet}
use Rattle.geo_laws.specs.declared.complex.Region.{Region}
use Rattle.mesh_files.specs.Texts.{text_line, file_number, ele_line, ele_lines, ele_text, ele_text_of, attribute_of, attributed_line, attributed_lines, face_line, face_lines, face_text}
use Rattle.mesh_files.specs.declared.markers.FaceRow.{FaceRow}

line_long : (number : ℕ) (fields : List ℤ) → 1 ≤ length (text_line number fields)
line_long number fields =
    let e = length-append (decimal number ++ flat_map (λ z. 32 ∷ signed_decimal z) fields) (10 ∷ []) in omega arith

ele_lines_long : (names : List ℕ) (first place : ℕ) (rows : List Tet) → length rows ≤ length (ele_lines names first place rows)
ele_lines_long names first place [] = omega arith
ele_lines_long names first place (t ∷ rows) =
    let e = length-append (ele_line names first place t) (ele_lines names first (place + 1) rows) in
    let one : 1 ≤ length (ele_line names first place t) = line_long (place + first) (map (file_number names first) (numbers t)) in
    let more = ele_lines_long names first (place + 1) rows in
    omega arith

ele_long : (names : List ℕ) (first : ℕ) (rows : List Tet) → length rows ≤ length (ele_text names first rows)
ele_long names first rows =
    let e = length-append (text_line (length rows) (pos 4 ∷ pos 0 ∷ [])) (ele_lines names first 0 rows) in
    let more = ele_lines_long names first 0 rows in
    omega arith

attributed_lines_long : (marks : List (Option ℕ)) (regions : List Region) (names : List ℕ) (first place : ℕ) (rows : List Tet) → length rows ≤ length (attributed_lines marks regions names first place rows)
attributed_lines_long marks regions names first place [] = omega arith
attributed_lines_long marks regions names first place (t ∷ rows) =
    let e = length-append (attributed_line marks regions names first place t) (attributed_lines marks regions names first (place + 1) rows) in
    let tail : List ℕ = 32 ∷ (attribute_of regions (slice_index_or marks place None) ++ (10 ∷ [])) in
    let one = length-append (decimal (place + first) ++ flat_map (λ z. 32 ∷ signed_decimal z) (map (file_number names first) (numbers t))) tail in
    let more = attributed_lines_long marks regions names first (place + 1) rows in
    omega arith

pub ele_long_of : (marks : Option (List (Option ℕ))) (regions : List Region) (names : List ℕ) (first : ℕ) (rows : List Tet) → length rows ≤ length (ele_text_of marks regions names first rows)
ele_long_of None regions names first rows = ele_long names first rows
ele_long_of (Some marks) regions names first rows =
    let e = length-append (text_line (length rows) (pos 4 ∷ pos 1 ∷ [])) (attributed_lines marks regions names first 0 rows) in
    let more = attributed_lines_long marks regions names first 0 rows in
    omega arith

face_lines_long : (names : List ℕ) (first place : ℕ) (faces : List FaceRow) → length faces ≤ length (face_lines names first place faces)
face_lines_long names first place [] = omega arith
face_lines_long names first place (f ∷ faces) =
    let e = length-append (face_line names first place f) (face_lines names first (place + 1) faces) in
    let one : 1 ≤ length (face_line names first place f) = line_long (place + first) (file_number names first f.a ∷ file_number names first f.b ∷ file_number names first f.c ∷ f.marker ∷ []) in
    let more = face_lines_long names first (place + 1) faces in
    omega arith

pub face_long : (names : List ℕ) (first : ℕ) (faces : List FaceRow) → length faces ≤ length (face_text names first faces)
face_long names first faces =
    let e = length-append (text_line (length faces) (pos 1 ∷ [])) (face_lines names first 0 faces) in
    let more = face_lines_long names first 0 faces in
    omega arith
