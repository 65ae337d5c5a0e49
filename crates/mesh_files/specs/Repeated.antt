-- Many things of one kind, one after the other.
use Rattle.std.specs.Prelude.{ℕ, ◌+◌, List, Result, Ok}
use Rattle.tet_text.specs.declared.fault.TextFault.{TextFault}
use Rattle.tet_text.specs.Lines.{ContentLine}
use Rattle.tet_text.specs.Reading.{◌>>=◌, line_at}

-- the next row of a list, in a text with `total` lines, where `row` reads its line, and the number that the row behind
-- it has
unfoldable pub next_row : {X : Type 0} → (ℕ → ContentLine → Result X TextFault) → ℕ → ℕ × List ContentLine
    → Result (X × (ℕ × List ContentLine)) TextFault
next_row row total place = do
  line ← line_at total place.1
  item ← row place.0 line.0
  Ok (item, (place.0 + 1, line.1))
