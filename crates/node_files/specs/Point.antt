-- The line of a point.
use Rattle.std.specs.Prelude.{ℕ, zero, suc, ◌+◌, ℤ, Bool, true, false, List, [], ◌∷◌, Option, Some, None, Result, Ok, Err, nat_le, ◌==◌, if◌then◌else◌}
use Rattle.grid_coords.specs.declared.points.DecimalPoint.{DecimalPoint}
use Rattle.tet_text.specs.declared.fault.TextFault.{TextFault}
use Rattle.tet_text.specs.Lines.{ContentLine}
use Rattle.tet_text.specs.Faults.{bad_index}
use Rattle.tet_text.specs.Reading.{◌>>=◌, Fields, field_at, count_at, whole_at, decimal_at, end_at}

-- a point with its number, its attributes as they are written, and its marker, if it has one
pub record ListedPoint : Type 0 where
  pub number : ℕ
  pub place : DecimalPoint
  pub attributes : List (List ℕ)
  pub markers : List ℤ

-- the first number is 0 or 1, and each further one is the one before plus 1
abbrev pub is_next : Option ℕ → ℕ → Bool
is_next None number = nat_le number 1
is_next (Some before) number = number == before + 1

unfoldable pub index_at : Option ℕ → ℕ → Fields → Result (ℕ × Fields) TextFault
index_at before line fields = do
  number ← count_at line fields
  if is_next before number.0 then Ok number else Err (bad_index line)

unfoldable pub place_at : ℕ → Fields → Result (DecimalPoint × Fields) TextFault
place_at line fields = do
  x ← decimal_at line fields
  y ← decimal_at line x.1
  z ← decimal_at line y.1
  Ok (record { x = x.0; y = y.0; z = z.0; line = line }, z.1)

-- the next *n* fields, as they are written
unfoldable pub attributes_at : ℕ → ℕ → Fields → Result (List (List ℕ) × Fields) TextFault
attributes_at zero line fields = Ok ([], fields)
attributes_at (suc count) line fields = do
  first ← field_at line fields
  others ← attributes_at count line first.1
  Ok (first.0 ∷ others.0, others.1)

-- a marker where the flag is set
unfoldable pub markers_at : Bool → ℕ → Fields → Result (List ℤ × Fields) TextFault
markers_at false line fields = Ok ([], fields)
markers_at true line fields = do
  marker ← whole_at line fields
  Ok (marker.0 ∷ [], marker.1)

-- <point #> <x> <y> <z> <attributes> [<marker>]
unfoldable pub point_of : ℕ → Bool → Option ℕ → ContentLine → Result ListedPoint TextFault
point_of attribute_count flag before line = do
  number ← index_at before line.line line.fields
  place ← place_at line.line number.1
  attributes ← attributes_at attribute_count line.line place.1
  markers ← markers_at flag line.line attributes.1
  _ ← end_at line.line markers.1
  Ok (record { number = number.0; place = place.0; attributes = attributes.0; markers = markers.0 })
