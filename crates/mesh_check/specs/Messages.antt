-- The lines in which the programs report refusals. Each begins with the program's name.
use Rattle.std.specs.Prelude.{ℕ, List, [], ◌∷◌, ◌++◌, codes}
use Rattle.std.specs.Fmt.{decimal}
use Rattle.tet_text.specs.declared.fault.TextFault.{TextFault}
use Rattle.tet_text.specs.declared.fault.TextKind.{TextKind}
use Rattle.tet_text.specs.declared.fault.TextKind.TheVariants.{Ended, NotANumber, Extra, BadCount, BadIndex}

-- what is wrong with a text
abbrev pub kind_text : TextKind → List ℕ
kind_text Ended = codes "too few"
kind_text NotANumber = codes "not a number"
kind_text Extra = codes "too many"
kind_text BadCount = codes "bad count"
kind_text BadIndex = codes "bad number"

-- a line that begins with the program's name
abbrev pub line : List ℕ → List ℕ → List ℕ
line program text = program ++ text ++ (10 ∷ [])

-- a line on a file
abbrev pub file_message : List ℕ → List ℕ → List ℕ → List ℕ
file_message program name text = line program (name ++ codes ": " ++ text)

-- a line on a word that is not understood, by its number and the place in it
abbrev pub usage_message : List ℕ → ℕ → ℕ → List ℕ
usage_message program word place =
    line program (codes "word " ++ decimal word ++ codes ", place " ++ decimal place ++ codes ": not understood")

-- a line on a file that is not in its grammar
abbrev pub text_message : List ℕ → List ℕ → TextFault → List ℕ
text_message program name fault = line program (name ++ codes ": line " ++ decimal fault.line ++ codes ": " ++ kind_text fault.kind)
