-- The first line of a point list.
use Rattle.std.specs.Prelude.{ℕ, Bool, ◌&&◌, [], ◌∷◌, Result, Ok, Err, nat_le, ◌==◌, if◌then◌else◌}
use Rattle.tet_text.specs.declared.fault.TextFault.{TextFault}
use Rattle.tet_text.specs.Lines.{ContentLine}
use Rattle.tet_text.specs.Faults.{bad_count}
use Rattle.tet_text.specs.Reading.{◌>>=◌, Fields, count_at, end_at}
use Rattle.node_files.specs.declared.header.Header.{Header}

abbrev pub is_count_in_range : ℕ → ℕ → ℕ → Bool
is_count_in_range least most count = nat_le least count && nat_le count most

-- a count from `least` to `most`
unfoldable pub count_within : ℕ → ℕ → ℕ → Fields → Result (ℕ × Fields) TextFault
count_within least most line fields = do
  count ← count_at line fields
  if is_count_in_range least most count.0 then Ok count else Err (bad_count line)

-- the next field as a count from `least` to `most`, or `absent` where no field is left
unfoldable pub count_or : ℕ → ℕ → ℕ → ℕ → Fields → Result (ℕ × Fields) TextFault
count_or absent least most line [] = Ok (absent, [])
count_or absent least most line (field ∷ fields) = count_within least most line (field ∷ fields)

-- <# of points> [<dimension> [<# of attributes> [<markers>]]], where missing fields are 3, 0 and 0
unfoldable pub header_of : ContentLine → Result Header TextFault
header_of line = do
  count ← count_at line.line line.fields
  dimension ← count_or 3 3 3 line.line count.1
  attributes ← count_or 0 0 100 line.line dimension.1
  flag ← count_or 0 0 1 line.line attributes.1
  _ ← end_at line.line flag.1
  Ok (record { count = count.0; attribute_count = attributes.0; flag = flag.0 == 1 })
