-- The formats of files that have a whole mesh, and the words that ask for them.
use Rattle.std.specs.Prelude.{ℕ, Bool, true, false, ◌||◌, List, [], ◌∷◌, ◌++◌, codes}
use Rattle.std.specs.Str.{bytes_eq}
use Rattle.command_words.specs.Words.{has_word}
use Rattle.command_words.specs.declared.formats.Format.{Format}
use Rattle.command_words.specs.declared.formats.Format.TheVariants.{Vtk, Msh}
use Rattle.command_words.specs.declared.formats.Formats.{Formats}

-- the word that asks for a file
abbrev pub word_of : Format → List ℕ
word_of Vtk = codes "-k"
word_of Msh = codes "--msh"

-- what stands behind the base in the name of a file
abbrev pub ending_of : Format → List ℕ
ending_of Vtk = codes ".1.vtk"
ending_of Msh = codes ".1.msh"

-- the word that asks for second order
abbrev pub second_order_word : List ℕ
second_order_word = codes "-o2"

-- the word asks for a file, or for second order
abbrev pub is_format : List ℕ → Bool
is_format word = bytes_eq word (word_of Vtk) || (bytes_eq word (word_of Msh) || bytes_eq word second_order_word)

-- what the words ask for
abbrev pub formats_of : List (List ℕ) → Formats
formats_of words = record {
  vtk = has_word words (word_of Vtk);
  msh = has_word words (word_of Msh);
  second_order = has_word words second_order_word;
}

-- no file of the whole mesh, and tetrahedra of first order
abbrev pub no_formats : Formats
no_formats = record { vtk = false; msh = false; second_order = false }

-- the format, where it is asked for
abbrev pub listed_if : Bool → Format → List Format
listed_if true format = format ∷ []
listed_if false format = []

-- the formats that are asked for, in the order in which their files are stored
abbrev pub asked : Formats → List Format
asked formats = listed_if formats.vtk Vtk ++ listed_if formats.msh Msh

-- there is one
abbrev pub are_some : List Format → Bool
are_some [] = false
are_some (format ∷ more) = true

-- a file of the whole mesh is asked for
abbrev pub asks_whole : Formats → Bool
asks_whole formats = are_some (asked formats)
