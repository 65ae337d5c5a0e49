-- The line on the keyword of an `.off` file that is not read.
use Rattle.std.specs.Prelude.{◌≡◌, ℕ, ◌&&◌, nat_le, not, Bool, length, List, [], ◌∷◌, ◌++◌, codes, Option, Some, None, if◌then◌else◌}
use Rattle.std.specs.Char.{is_ascii_alphabetic, is_ascii_graphic}
use Rattle.std.specs.Fmt.{decimal}
use Rattle.std.specs.List.{list_all, list_any}
use Rattle.command_words.specs.declared.options.Extension.{Extension}
use Rattle.command_words.specs.declared.options.Extension.TheVariants.{Off}
use Rattle.run_steps.specs.declared.status.Status.{Status}
use Rattle.run_steps.specs.declared.status.Status.TheVariants.{BadText}
use Rattle.soup_files.specs.Off.{is_wide_off_word}
use Rattle.tet_ports.specs.Files.{Holds}
use Rattle.tet_ports.specs.Seen.{FolderSeen}
use Rattle.tet_text.specs.Lines.{ContentLine, content_lines}
use Rattle.tet_text.specs.Reading.{Fields}

-- a word that can be told: at most 20 bytes, each a printing character of ASCII, with a letter among them, as no number without an
-- exponent has
abbrev pub is_plain_word : List ℕ → Bool
is_plain_word word = nat_le (length word) 20 && list_all is_ascii_graphic word && list_any is_ascii_alphabetic word

-- a word that can be told and is no keyword of an `.off` file
abbrev pub is_unread_word : List ℕ → Bool
is_unread_word word = is_plain_word word && not (is_wide_off_word word)

-- the line that the word is not read, on a line of the file with this name
abbrev pub unread_front : List ℕ → ℕ → List ℕ
unread_front name line = codes "tetfit: " ++ name ++ codes ": line " ++ decimal line ++ codes ": "

abbrev pub unread_line : List ℕ → ℕ → List ℕ → List ℕ
unread_line name line word =
    unread_front name line ++ word ++ codes " is not read: OFF, COFF, NOFF, CNOFF, STOFF, STCOFF, STNOFF and STCNOFF are\n"

-- on the first of the fields of a line
abbrev pub unread_field : List ℕ → ℕ → Fields → List ℕ
unread_field name line [] = []
unread_field name line (word ∷ fields) = if is_unread_word word then unread_line name line word else []

-- on the first field of a text
abbrev pub unread_text : List ℕ → List ContentLine → List ℕ
unread_text name [] = []
unread_text name (line ∷ lines) = unread_field name line.line line.fields

-- on the first field of an `.off` file; nothing of an `.stl` file
abbrev pub keyword_text : Extension → List ℕ → List ℕ → List ℕ
keyword_text Off name bytes = unread_text name (content_lines bytes)
keyword_text form name bytes = []

-- the line on the keyword of the surface in the file with this name; none of another file
abbrev pub TellsKeyword : Option Extension → FolderSeen → List ℕ → List ℕ → Type 0
TellsKeyword (Some form) seen name hint = (bytes : List ℕ) × Holds seen.files_before name bytes × (hint ≡ keyword_text form name bytes)
TellsKeyword None seen name hint = hint ≡ []

-- it follows the message on a text that is not in its grammar
abbrev pub TellsBadText : Option Extension → FolderSeen → List ℕ → List ℕ → Status → Type 0
TellsBadText named seen name hint (BadText file fault) = TellsKeyword named seen name hint
TellsBadText named seen name hint status = Unit {0}
