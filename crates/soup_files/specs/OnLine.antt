-- What a content line says.
use Rattle.std.specs.Prelude.{ℕ, List, Result, Ok}
use Rattle.tet_text.specs.declared.fault.TextFault.{TextFault}
use Rattle.tet_text.specs.Lines.{ContentLine}
use Rattle.tet_text.specs.Reading.{◌>>=◌, Fields, end_at, line_at}
use Rattle.grid_coords.specs.declared.points.DecimalPoint.{DecimalPoint}
use Rattle.node_files.specs.Point.{place_at}
use Rattle.soup_files.specs.declared.fields.Grammar.{Grammar}
use Rattle.soup_files.specs.declared.fields.Grammar.TheVariants.{Strict, Wide}
use Rattle.soup_files.specs.Keyword.{keyword_at}

-- the value read from the next content line, and the lines behind it, in a text with `total` lines
unfoldable pub on_line : {X : Type 0} → (ContentLine → Result X TextFault) → ℕ → List ContentLine → Result (X × List ContentLine) TextFault
on_line read total lines = do
  line ← line_at total lines
  x ← read line.0
  Ok (x, line.1)

-- this word, and the end of the line
unfoldable pub last_word_at : Grammar → List ℕ → ℕ → Fields → Result (Unit {0}) TextFault
last_word_at grammar word line fields = do
  rest ← keyword_at grammar word line fields
  end_at line rest.1

-- <x> <y> <z>, and the end of the line
unfoldable pub last_place_at : ℕ → Fields → Result DecimalPoint TextFault
last_place_at line fields = do
  place ← place_at line fields
  _ ← end_at line place.1
  Ok place.0

-- a line with this word alone
abbrev pub word_of : Grammar → List ℕ → ContentLine → Result (Unit {0}) TextFault
word_of grammar word line = last_word_at grammar word line.line line.fields

-- <x> <y> <z>, and whatever stands behind them
unfoldable pub first_place_at : ℕ → Fields → Result DecimalPoint TextFault
first_place_at line fields = do
  place ← place_at line fields
  Ok place.0

-- a line with a point's coordinates, in the strict grammar alone
abbrev pub place_of : Grammar → ContentLine → Result DecimalPoint TextFault
place_of Strict line = last_place_at line.line line.fields
place_of Wide line = first_place_at line.line line.fields
