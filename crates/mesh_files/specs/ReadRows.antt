-- The rows of a mesh's files.
use Rattle.std.specs.Prelude.{ℕ, ◌-◌, ◌<◌, ℤ, pos, negsuc, Bool, true, false, List, Option, Some, None, Result, Ok, nat_le, ◌==◌, if◌then◌else◌}
use Rattle.std.specs.Option.{ok_or}
use Rattle.tet_text.specs.declared.fault.TextFault.{TextFault}
use Rattle.tet_text.specs.Lines.{ContentLine}
use Rattle.tet_text.specs.Faults.{bad_index}
use Rattle.tet_text.specs.Reading.{◌>>=◌, Fields, whole_at, end_at, line_at, text_end_at}
use Rattle.geo_laws.specs.declared.tetrahedra.Tet.{Tet}
use Rattle.incidence.specs.declared.pairs.Across.{Across}
use Rattle.mesh_files.specs.declared.markers.FaceRow.{FaceRow}
use Rattle.mesh_files.specs.declared.field_reading.Listed.{Listed}
use Rattle.mesh_files.specs.ReadFields.{four_head, flag_head, numbered, corner_place_at, passed_over}
use Rattle.mesh_files.specs.Repeated.{next_row}
use Rattle.tet_text.specs.Repeated.{so_many}

-- ---- tetrahedra

-- <row #> <corner> <corner> <corner> <corner> [<attribute>]
unfoldable pub tet_row : Listed → Bool → ℕ → ContentLine → Result Tet TextFault
tet_row listed flag wanted line = do
  number ← numbered wanted line.line line.fields
  a ← corner_place_at listed line.line number.1
  b ← corner_place_at listed line.line a.1
  c ← corner_place_at listed line.line b.1
  d ← corner_place_at listed line.line c.1
  rest ← passed_over flag line.line d.1
  _ ← end_at line.line rest.1
  Ok (record { a = a.0; b = b.0; c = c.0; d = d.0 })

-- the tetrahedra of a text with `total` lines, with no content line behind them
unfoldable pub tets_of : Listed → ℕ → List ContentLine → Result (List Tet) TextFault
tets_of listed total lines = do
  line ← line_at total lines
  head ← four_head true line.0
  rows ← so_many (next_row (tet_row listed head.flag) total) head.count (listed.first, line.1)
  _ ← text_end_at rows.1.1
  Ok rows.0

-- the tetrahedra of an `.ele` text that numbers rows and corners from `first` on, with a given number of points
abbrev pub ele_of : ℕ → ℕ → ℕ → List ContentLine → Result (List Tet) TextFault
ele_of first points = tets_of (record { first = first; points = points })

-- each corner is one of the first `points` points
pub record AreCornersBelow (points : ℕ) (t : Tet) : Type 0 where
  pub a : t.a < points
  pub b : t.b < points
  pub c : t.c < points
  pub d : t.d < points

-- ---- faces

-- a marker where the flag is set, and else 0
unfoldable pub marker_field : Bool → ℕ → Fields → Result (ℤ × Fields) TextFault
marker_field true line fields = whole_at line fields
marker_field false line fields = Ok (pos 0, fields)

-- <row #> <corner> <corner> <corner> [<marker>]
unfoldable pub face_row : Listed → Bool → ℕ → ContentLine → Result FaceRow TextFault
face_row listed flag wanted line = do
  number ← numbered wanted line.line line.fields
  a ← corner_place_at listed line.line number.1
  b ← corner_place_at listed line.line a.1
  c ← corner_place_at listed line.line b.1
  marker ← marker_field flag line.line c.1
  _ ← end_at line.line marker.1
  Ok (record { a = a.0; b = b.0; c = c.0; marker = marker.0 })

-- the faces of a text with `total` lines, with no content line behind them
unfoldable pub face_rows_of : Listed → ℕ → List ContentLine → Result (List FaceRow) TextFault
face_rows_of listed total lines = do
  line ← line_at total lines
  head ← flag_head line.0
  rows ← so_many (next_row (face_row listed head.flag) total) head.count (listed.first, line.1)
  _ ← text_end_at rows.1.1
  Ok rows.0

abbrev pub face_list_of : ℕ → ℕ → ℕ → List ContentLine → Result (List FaceRow) TextFault
face_list_of first points = face_rows_of (record { first = first; points = points })

-- each corner is one of the first `points` points
pub record IsFaceBelow (points : ℕ) (f : FaceRow) : Type 0 where
  pub a : f.a < points
  pub b : f.b < points
  pub c : f.c < points

-- ---- neighbors

-- the place that a number stands for, counted from the first number, and none for -1; nothing for the other numbers
abbrev pub neighbor_place : ℕ → ℤ → Option (Option ℕ)
neighbor_place first (pos n) = if nat_le first n then Some (Some (n - first)) else None
neighbor_place first (negsuc n) = if n == 0 then Some None else None

unfoldable pub neighbor_at : ℕ → ℕ → Fields → Result (Option ℕ × Fields) TextFault
neighbor_at first line fields = do
  number ← whole_at line fields
  place ← ok_or (neighbor_place first number.0) (bad_index line)
  Ok (place, number.1)

-- <row #> <neighbor> <neighbor> <neighbor> <neighbor>
unfoldable pub across_row : ℕ → ℕ → ContentLine → Result Across TextFault
across_row first wanted line = do
  number ← numbered wanted line.line line.fields
  n0 ← neighbor_at first line.line number.1
  n1 ← neighbor_at first line.line n0.1
  n2 ← neighbor_at first line.line n1.1
  n3 ← neighbor_at first line.line n2.1
  _ ← end_at line.line n3.1
  Ok (record { n0 = n0.0; n1 = n1.0; n2 = n2.0; n3 = n3.0 })

-- the neighbors of a text with `total` lines, with no content line behind them
unfoldable pub neighbors_of : ℕ → ℕ → List ContentLine → Result (List Across) TextFault
neighbors_of first total lines = do
  line ← line_at total lines
  head ← four_head false line.0
  rows ← so_many (next_row (across_row first) total) head.count (first, line.1)
  _ ← text_end_at rows.1.1
  Ok rows.0

abbrev pub neigh_of : ℕ → ℕ → List ContentLine → Result (List Across) TextFault
neigh_of first = neighbors_of first
