-- The texts of a mesh, read back.
use Rattle.std.specs.Prelude.{◌≡◌, ℕ, ◌+◌, ◌^◌, ◌<◌, unsigned_abs, false, List, length, map, All, Option, None, IfSome, slice_index, Ok}
use Rattle.std.specs.List.{slice_index_or}
use Rattle.tet_text.specs.Lines.{IsField, is_comment_mark, content_lines}
use Rattle.geo_laws.specs.declared.complex.Region.{Region}
use Rattle.geo_laws.specs.declared.tetrahedra.Tet.{Tet}
use Rattle.incidence.specs.declared.pairs.Across.{Across}
use Rattle.mesh_files.specs.Texts.{ele_text_of, face_text, neigh_text}
use Rattle.mesh_files.specs.declared.markers.FaceRow.{FaceRow}
use Rattle.mesh_files.specs.ReadRows.{ele_of, face_list_of, neigh_of}
use Rattle.run_laws.specs.Renamed.{renamed_row, renamed_face}

-- a number of up to 18 digits, as readers take them
abbrev pub IsShortNumber : ℕ → Type 0
IsShortNumber n = n < 10 ^ 18

-- a field of a content line: none of its bytes is a line feed, a blank or a comment mark
pub record IsPlainField (bytes : List ℕ) : Type 0 where
  pub field : IsField bytes
  pub no_mark : All (λ byte. is_comment_mark byte ≡ false) bytes

-- the attributes of regions are fields, and each mark, where there are marks, is that of a region
pub record AreLegibleMarks (regions : List Region) (marks : Option (List (Option ℕ))) : Type 0 where
  pub plain : All (λ r. IsPlainField r.attribute) regions
  pub each : IfSome marks (λ ms. (i : ℕ) → IfSome (slice_index_or ms i None) (λ r. r < length regions))

-- the point has a name, which is that of one of a number of listed points
abbrev pub IsOneOf : List ℕ → ℕ → ℕ → Type 0
IsOneOf names points n = slice_index names n < points

pub record HasNames (names : List ℕ) (points : ℕ) (t : Tet) : Type 0 where
  pub a : IsOneOf names points t.a
  pub b : IsOneOf names points t.b
  pub c : IsOneOf names points t.c
  pub d : IsOneOf names points t.d

-- and the face has a marker of up to 18 digits
pub record HasFaceNames (names : List ℕ) (points : ℕ) (f : FaceRow) : Type 0 where
  pub a : IsOneOf names points f.a
  pub b : IsOneOf names points f.b
  pub c : IsOneOf names points f.c
  pub marker : IsShortNumber (unsigned_abs f.marker)

-- `.ele`, with the attributes of regions or without them: the rows, with each corner by its name
abbrev pub EleReadLaw : Type 0
EleReadLaw = (marks : Option (List (Option ℕ))) (regions : List Region) (names : List ℕ) (first points total : ℕ) (rows : List Tet)
    → AreLegibleMarks regions marks → IsShortNumber (first + points) → IsShortNumber (first + length rows)
    → All (HasNames names points) rows
    → ele_of first points total (content_lines (ele_text_of marks regions names first rows))
    ≡ Ok (map (renamed_row (slice_index names)) rows)

-- `.face`: the faces, with each corner by its name, and their markers
abbrev pub FaceReadLaw : Type 0
FaceReadLaw = (names : List ℕ) (first points total : ℕ) (faces : List FaceRow) → IsShortNumber (first + points)
    → IsShortNumber (first + length faces) → All (HasFaceNames names points) faces
    → face_list_of first points total (content_lines (face_text names first faces)) ≡ Ok (map (renamed_face (slice_index names)) faces)

-- each neighbor is a place below a number
pub record AreBelow (count : ℕ) (x : Across) : Type 0 where
  pub n0 : IfSome x.n0 (λ i. i < count)
  pub n1 : IfSome x.n1 (λ i. i < count)
  pub n2 : IfSome x.n2 (λ i. i < count)
  pub n3 : IfSome x.n3 (λ i. i < count)

-- `.neigh`: the neighbors
abbrev pub NeighReadLaw : Type 0
NeighReadLaw = (first total : ℕ) (neighbors : List Across) → IsShortNumber (first + length neighbors)
    → All (AreBelow (length neighbors)) neighbors
    → neigh_of first total (content_lines (neigh_text first neighbors)) ≡ Ok neighbors
