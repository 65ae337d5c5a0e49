-- ListedPoint lists.
use Rattle.std.specs.Prelude.{◌≡◌, ◌≤◌, ◌<◌, ◌*◌, ◌-◌, ◌^◌, length, if◌then◌else◌, ℕ, zero, suc, Bool, List, [], ◌∷◌, ◌++◌, map, Option, Some, None, Result, Ok}
use Rattle.std.specs.List.{flat_map}
use Rattle.tet_text.specs.declared.fault.TextFault.{TextFault}
use Rattle.tet_text.specs.Lines.{ContentLine}
use Rattle.tet_text.specs.Reading.{◌>>=◌, line_at, text_end_at}
use Rattle.node_files.specs.declared.header.Header.{Header}
use Rattle.node_files.specs.declared.node_text.NodeText.{NodeText}
use Rattle.node_files.specs.Header.{header_of}
use Rattle.node_files.specs.Point.{ListedPoint, point_of}

-- *n* points, one a line, numbered from the one after `before` on, in a text of `total` lines
unfoldable pub points_of : ℕ → Bool → Option ℕ → ℕ → ℕ → List ContentLine → Result (List ListedPoint × List ContentLine) TextFault
points_of attribute_count flag before zero total lines = Ok ([], lines)
points_of attribute_count flag before (suc count) total lines = do
  line ← line_at total lines
  point ← point_of attribute_count flag before line.0
  others ← points_of attribute_count flag (Some point.number) count total line.1
  Ok (point ∷ others.0, others.1)

-- the number of the first point, and 1 where there is none
abbrev pub first_number : List ListedPoint → ℕ
first_number [] = 1
first_number (point ∷ points) = point.number

-- the table of the points
abbrev pub listed_text : Header → List ListedPoint → NodeText
listed_text header points = record {
  first = first_number points;
  attribute_count = header.attribute_count;
  flag = header.flag;
  decimals = map (λ point. point.place) points;
  attributes = flat_map (λ point. point.attributes) points;
  markers = flat_map (λ point. point.markers) points;
}

-- the points that the first line states, as a table
unfoldable pub points_table : Header → ℕ → List ContentLine → Result (NodeText × List ContentLine) TextFault
points_table header total lines = do
  points ← points_of header.attribute_count header.flag None header.count total lines
  Ok (listed_text header points.0, points.1)

-- a point list, and the content lines behind it, in a text with `total` lines
unfoldable pub node_list_of : ℕ → List ContentLine → Result (NodeText × List ContentLine) TextFault
node_list_of total lines = do
  line ← line_at total lines
  header ← header_of line.0
  points_table header total line.1

-- a point list with no content line behind it
unfoldable pub node_of : ℕ → List ContentLine → Result NodeText TextFault
node_of total lines = do
  list ← node_list_of total lines
  _ ← text_end_at list.1
  Ok list.0

-- the first number, where a point with this number comes behind `before`
abbrev pub first_with : Option ℕ → ℕ → ℕ → ℕ
first_with None first number = number
first_with (Some before) first number = first

-- the table with one more point
abbrev pub with_point : Option ℕ → NodeText → ListedPoint → NodeText
with_point before text point = record text {
  first = first_with before text.first point.number;
  decimals = text.decimals
      ++ point.place ∷ [];
  attributes = text.attributes ++ point.attributes;
  markers = text.markers ++ point.markers;
}

-- the point's number, and the table with it
abbrev pub point_onto : Header → Option ℕ → ContentLine → NodeText → Result (ℕ × NodeText) TextFault
point_onto header before line text = do
  point ← point_of header.attribute_count header.flag before line
  Ok (point.number, with_point before text point)

-- a table: its first number is 0 or 1, each point has as many attributes as stated, at most 100, and a marker where the flag is set, and
-- the points can be named by 32 bits
pub record IsNodeText (text : NodeText) : Type 0 where
  pub first : text.first ≤ 1
  pub few_attributes : text.attribute_count ≤ 100
  pub attributes : length text.attributes ≡ text.attribute_count * length text.decimals
  pub markers : length text.markers ≡ (if text.flag then length text.decimals else 0)
  pub few : length text.decimals < 2 ^ 32 - 1
