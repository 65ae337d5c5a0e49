-- Rows as single numbers.
use Rattle.std.specs.Prelude.{ℕ, ◌<◌, ◌/◌, ◌%◌, List, map}
use Rattle.geo_laws.specs.declared.tetrahedra.Tet.{Tet as Row}
use Rattle.cavity_insert.specs.declared.rows.SlotRows.{SlotRows}
use Rattle.cavity_insert.specs.declared.rows.SlotRows.TheVariants.{Keys, Rows}

-- each of the four numbers has 16 bits
abbrev pub HasKey : Row → Type 0
HasKey t = (t.a < 65536) × (t.b < 65536) × (t.c < 65536) × (t.d < 65536)

-- the row of a key: its numbers are the digits of the key in base 2^16
abbrev pub row_of_key : ℕ → Row
row_of_key key = record { a = key / 65536 / 65536 / 65536; b = key / 65536 / 65536 % 65536; c = key / 65536 % 65536; d = key % 65536 }

-- the rows of some slots, also where they are kept as keys
abbrev pub rows_in : SlotRows → List Row
rows_in (Keys keys) = map row_of_key keys
rows_in (Rows rows) = rows
