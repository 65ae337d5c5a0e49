-- What the lines of a text show.
use Rattle.std.specs.Prelude.{ℕ, ◌+◌, List, length}
use Rattle.tet_text.specs.Lines.{ContentLine, lines_of, content_lines_from}
use Rattle.tet_text.specs.declared.lines.Lines.{Lines}

-- the content lines that are left
unfoldable pub content_left : Lines → List ContentLine
content_left lines = content_lines_from (lines.passed + 1) (lines_of lines.rest.now)

-- the number of all lines, also of those that have gone by
unfoldable pub line_total : Lines → ℕ
line_total lines = lines.passed + length (lines_of lines.rest.now)
