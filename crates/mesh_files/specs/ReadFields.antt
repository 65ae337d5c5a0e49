-- The fields of the rows of a mesh's files.
use Rattle.std.specs.Prelude.{ℕ, ◌+◌, ◌-◌, Bool, true, false, ◌&&◌, Result, Ok, Err, nat_le, nat_lt, ◌==◌, if◌then◌else◌}
use Rattle.tet_text.specs.declared.fault.TextFault.{TextFault}
use Rattle.tet_text.specs.Lines.{ContentLine}
use Rattle.tet_text.specs.Faults.{bad_index}
use Rattle.tet_text.specs.Reading.{◌>>=◌, Fields, field_at, count_at, end_at}
use Rattle.node_files.specs.Header.{count_within, count_or}
use Rattle.mesh_files.specs.declared.field_reading.Head.{Head}
use Rattle.mesh_files.specs.declared.field_reading.Listed.{Listed}

-- the flag, where there may be one: 0 or 1, and 0 where it is missing
unfoldable pub flag_at : Bool → ℕ → Fields → Result (Bool × Fields) TextFault
flag_at false line fields = Ok (false, fields)
flag_at true line fields = do
  flag ← count_or 0 0 1 line fields
  Ok (flag.0 == 1, flag.1)

-- <# of rows> 4 [<flag>]
unfoldable pub four_head : Bool → ContentLine → Result Head TextFault
four_head flagged line = do
  count ← count_at line.line line.fields
  four ← count_within 4 4 line.line count.1
  flag ← flag_at flagged line.line four.1
  _ ← end_at line.line flag.1
  Ok (record { count = count.0; flag = flag.0 })

-- <# of rows> [<flag>]
unfoldable pub flag_head : ContentLine → Result Head TextFault
flag_head line = do
  count ← count_at line.line line.fields
  flag ← flag_at true line.line count.1
  _ ← end_at line.line flag.1
  Ok (record { count = count.0; flag = flag.0 })

-- the number of a row, which is the wanted one
unfoldable pub numbered : ℕ → ℕ → Fields → Result (Unit {0} × Fields) TextFault
numbered wanted line fields = do
  number ← count_at line fields
  if number.0 == wanted then Ok (tt, number.1) else Err (bad_index line)

-- one of the points has the number
abbrev pub is_listed : Listed → ℕ → Bool
is_listed listed number = nat_le listed.first number && nat_lt number (listed.first + listed.points)

-- a corner by its place, where one of the points has its number
unfoldable pub corner_place_at : Listed → ℕ → Fields → Result (ℕ × Fields) TextFault
corner_place_at listed line fields = do
  number ← count_at line fields
  if is_listed listed number.0 then Ok (number.0 - listed.first, number.1) else Err (bad_index line)

-- what is left behind a field, where the flag says that there is one
unfoldable pub passed_over : Bool → ℕ → Fields → Result (Unit {0} × Fields) TextFault
passed_over false line fields = Ok (tt, fields)
passed_over true line fields = do
  field ← field_at line fields
  Ok (tt, field.1)
