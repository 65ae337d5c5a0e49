-- Printing and reading.
use Rattle.std.specs.Prelude.{◌≡◌, ◌≤◌, ℕ, Some, List, All}
use Rattle.tet_text.specs.Decimals.{Scaled, IsDecimal, decimal_of}
use Rattle.tet_text.specs.Lines.{IsField, lines_of, content_lines_from}
use Rattle.tet_text.specs.Printing.{decimal_text}

-- The text of a decimal writes that decimal. With more than 35 decimals it has more than the 36 digits that a decimal may have.
abbrev pub PrintedLaw : Type 0
PrintedLaw = (d : Scaled) → IsDecimal d → d.scale ≤ 35 → decimal_of (decimal_text d) ≡ Some d

-- The fields of the content lines of bytes, whatever the number of the first line, have no line feed and no blank in them.
abbrev pub FieldLaw : Type 0
FieldLaw = (n : ℕ) (bytes : List ℕ) → All (λ line. All IsField line.fields) (content_lines_from n (lines_of bytes))
