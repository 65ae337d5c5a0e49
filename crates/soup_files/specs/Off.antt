-- The `.off` files: a keyword, the counts, the points, and the faces.
use Rattle.std.specs.Prelude.{ℕ, Bool, List, [], ◌∷◌, codes, Result, Ok}
use Rattle.std.specs.List.{list_any}
use Rattle.std.specs.Str.{bytes_eq, str_eq_ignore_ascii_case}
use Rattle.tet_text.specs.declared.fault.TextFault.{TextFault}
use Rattle.tet_text.specs.Lines.{ContentLine}
use Rattle.tet_text.specs.Reading.{◌>>=◌, Fields, count_at, end_at, line_at, text_end_at}
use Rattle.grid_coords.specs.declared.points.DecimalPoint.{DecimalPoint}
use Rattle.node_files.specs.Header.{count_or}
use Rattle.plc_files.specs.declared.parts.CornerText.{CornerText}
use Rattle.plc_files.specs.declared.parts.PolygonText.{PolygonText}
use Rattle.plc_files.specs.Fields.{some_count_at}
use Rattle.plc_files.specs.Polygon.{field_ahead}
use Rattle.plc_files.specs.Text.{Plc}
use Rattle.soup_files.specs.declared.fields.Grammar.{Grammar}
use Rattle.soup_files.specs.declared.fields.Grammar.TheVariants.{Strict, Wide}
use Rattle.soup_files.specs.Keyword.{passing_at}
use Rattle.soup_files.specs.OnLine.{on_line, place_of}
use Rattle.soup_files.specs.Surface.{surface_of}
use Rattle.tet_text.specs.Repeated.{so_many}
use Rattle.plc_files.specs.Facet.{Lines}

-- <# of points> <# of faces> [<# of edges>], where the number of edges is any count
unfoldable pub counts_of : ContentLine → Result (ℕ × ℕ) TextFault
counts_of line = do
  points ← count_at line.line line.fields
  faces ← count_at line.line points.1
  edges ← count_or 0 0 999999999999999999 line.line faces.1
  _ ← end_at line.line edges.1
  Ok (points.0, faces.0)

-- the keywords that say what stands behind the coordinates of a point: texture coordinates (ST), a color (C), a normal (N)
abbrev pub off_words : List (List ℕ)
off_words =
    codes "OFF" ∷ codes "COFF" ∷ codes "NOFF" ∷ codes "CNOFF" ∷ codes "STOFF" ∷ codes "STCOFF" ∷ codes "STNOFF" ∷ codes "STCNOFF" ∷ []

-- the field is one of them, in letters of either case
abbrev pub is_wide_off_word : List ℕ → Bool
is_wide_off_word field = list_any (str_eq_ignore_ascii_case field) off_words

-- the field is the keyword OFF, or in the wide grammar one of these
abbrev pub is_off_word : Grammar → List ℕ → Bool
is_off_word Strict field = bytes_eq field (codes "OFF")
is_off_word Wide field = is_wide_off_word field

-- the keyword, and the counts, on the same content line or on the next one
unfoldable pub head_of : Grammar → ℕ → Lines → Result ((ℕ × ℕ) × Lines) TextFault
head_of grammar total lines = do
  line ← line_at total lines
  rest ← passing_at (is_off_word grammar) line.0.line line.0.fields
  ahead ← field_ahead total line.0.line rest.1 line.1
  counts ← counts_of ahead.0
  Ok (counts, ahead.1)

-- <x> <y> <z>, and in the wide grammar whatever stands behind them
unfoldable pub vertex_line : Grammar → ℕ → Lines → Result (DecimalPoint × Lines) TextFault
vertex_line grammar = on_line (place_of grammar)

-- a corner, on the line of its face
unfoldable pub corner_at : ℕ → Fields → Result (CornerText × Fields) TextFault
corner_at line fields = do
  number ← count_at line fields
  Ok (record { number = number.0; line = line }, number.1)

-- <# of corners> <corner> .., and whatever stands behind the last corner
unfoldable pub off_polygon : ℕ → Lines → Result (PolygonText × Lines) TextFault
off_polygon total lines = do
  line ← line_at total lines
  count ← some_count_at line.0.line line.0.fields
  corners ← so_many (corner_at line.0.line) count.0 count.1
  Ok (record { line = line.0.line; corners = corners.0 }, line.1)

-- a whole text, with its number of lines
unfoldable pub off_by : Grammar → ℕ → Lines → Result Plc TextFault
off_by grammar total lines = do
  head ← head_of grammar total lines
  points ← so_many (vertex_line grammar total) head.0.0 head.1
  faces ← so_many (off_polygon total) head.0.1 points.1
  _ ← text_end_at faces.1
  Ok (surface_of points.0 faces.0)

abbrev pub off_of : ℕ → Lines → Result Plc TextFault
off_of = off_by Strict

abbrev pub wide_off_of : ℕ → Lines → Result Plc TextFault
wide_off_of = off_by Wide
