-- The names of files.
use Rattle.std.specs.Prelude.{ℕ, ◌-◌, Bool, List, ◌++◌, length, take, codes, nat_eq, Option, Some, None, if◌then◌else◌}
use Rattle.std.specs.List.{ends_with}
use Rattle.command_words.specs.declared.options.Extension.{Extension}
use Rattle.command_words.specs.declared.options.Extension.TheVariants.{Node, Poly, Smesh, Off, Stl}

-- the bytes of an extension
abbrev pub text_of : Extension → List ℕ
text_of Node = codes ".node"
text_of Poly = codes ".poly"
text_of Smesh = codes ".smesh"
text_of Off = codes ".off"
text_of Stl = codes ".stl"

-- the name ends with this extension
abbrev pub has_extension : List ℕ → Extension → Bool
has_extension name extension = ends_with nat_eq name (text_of extension)

-- the known extension with which the name ends, if any
abbrev pub extension_of : List ℕ → Option Extension
extension_of name =
    if has_extension name Node then Some Node else
    if has_extension name Poly then Some Poly else
    if has_extension name Smesh then Some Smesh else
    if has_extension name Off then Some Off else
    if has_extension name Stl then Some Stl else None

-- the name without this extension, if any
abbrev pub without : Option Extension → List ℕ → List ℕ
without None name = name
without (Some extension) name = take (length name - length (text_of extension)) name

-- the name without its known extension
abbrev pub base_of : List ℕ → List ℕ
base_of name = without (extension_of name) name

-- the base with an extension
abbrev pub file_name : List ℕ → Extension → List ℕ
file_name base extension = base ++ text_of extension
