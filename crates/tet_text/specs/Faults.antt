-- Faults of a text, each with its line.
use Rattle.std.specs.Prelude.{ℕ}
use Rattle.tet_text.specs.declared.fault.TextFault.{TextFault}
use Rattle.tet_text.specs.declared.fault.TextKind.TheVariants.{Ended, NotANumber, Extra, BadCount, BadIndex}

-- the line ends where a field is wanted, or the text before this line
abbrev pub ended : ℕ → TextFault
ended line = record { line = line; kind = Ended }

-- a field of this line is not the number that is wanted
abbrev pub not_a_number : ℕ → TextFault
not_a_number line = record { line = line; kind = NotANumber }

-- a field stands past the last of this line, or this line past the last
abbrev pub extra : ℕ → TextFault
extra line = record { line = line; kind = Extra }

-- a count of this line has a value that is not allowed there
abbrev pub bad_count : ℕ → TextFault
bad_count line = record { line = line; kind = BadCount }

-- a number of this line is not the one wanted
abbrev pub bad_index : ℕ → TextFault
bad_index line = record { line = line; kind = BadIndex }
