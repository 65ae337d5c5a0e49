-- Reading fields and lines from left to right, with the first fault that is met.
use Rattle.std.specs.Prelude.{ℕ, ◌+◌, ℤ, List, [], ◌∷◌, Option, Result, Ok, Err}
use Rattle.std.specs.Option.{ok_or}
use Rattle.tet_text.specs.declared.fault.TextFault.{TextFault}
use Rattle.tet_text.specs.Lines.{ContentLine}
use Rattle.tet_text.specs.Numbers.{count_of, whole_of}
use Rattle.tet_text.specs.Decimals.{Scaled, decimal_of}
use Rattle.tet_text.specs.Faults.{ended, not_a_number, extra}

infixl 10 ◌>>=◌
abbrev pub ◌>>=◌ : {A B : Type 0} → Result A TextFault → (A → Result B TextFault) → Result B TextFault
(Ok x) >>= f = f x
(Err e) >>= f = Err e

abbrev pub Fields : Type 0
Fields = List (List ℕ)

-- what a call read, seen by `view`, and what it left; or its fault
abbrev pub left_after : {X A R : Type 0} → (X → A) → Result X TextFault → R → Result (A × R) TextFault
left_after view (Ok x) rest = Ok (view x, rest)
left_after view (Err e) rest = Err e

-- a field that is wanted, on this line
abbrev pub field_at : ℕ → Fields → Result (List ℕ × Fields) TextFault
field_at line [] = Err (ended line)
field_at line (field ∷ fields) = Ok (field, fields)

-- a number that is wanted, as this kind of number reads it
abbrev pub number_at : {N : Type 0} → (List ℕ → Option N) → ℕ → Fields → Result (N × Fields) TextFault
number_at number line fields = do
  field ← field_at line fields
  n ← ok_or (number field.0) (not_a_number line)
  Ok (n, field.1)

abbrev pub count_at : ℕ → Fields → Result (ℕ × Fields) TextFault
count_at = number_at count_of

abbrev pub whole_at : ℕ → Fields → Result (ℤ × Fields) TextFault
whole_at = number_at whole_of

abbrev pub decimal_at : ℕ → Fields → Result (Scaled × Fields) TextFault
decimal_at = number_at decimal_of

-- the end of a line
abbrev pub end_at : ℕ → Fields → Result (Unit {0}) TextFault
end_at line [] = Ok tt
end_at line (field ∷ fields) = Err (extra line)

-- the next content line, which is required, in a text with `total` lines
abbrev pub line_at : ℕ → List ContentLine → Result (ContentLine × List ContentLine) TextFault
line_at total [] = Err (ended (total + 1))
line_at total (line ∷ lines) = Ok (line, lines)

-- the end of a text
abbrev pub text_end_at : List ContentLine → Result (Unit {0}) TextFault
text_end_at [] = Ok tt
text_end_at (line ∷ lines) = Err (extra line.line)
