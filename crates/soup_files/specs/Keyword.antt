-- Keywords: words that stand in a text, in the strict grammar as they are, in the wide one with letters of either case.
use Rattle.std.specs.Prelude.{ℕ, Bool, List, Result, Ok, Err, if◌then◌else◌}
use Rattle.std.specs.Str.{bytes_eq, str_eq_ignore_ascii_case}
use Rattle.tet_text.specs.declared.fault.TextFault.{TextFault}
use Rattle.tet_text.specs.Faults.{bad_count}
use Rattle.tet_text.specs.Reading.{◌>>=◌, Fields, field_at}
use Rattle.soup_files.specs.declared.fields.Grammar.{Grammar}
use Rattle.soup_files.specs.declared.fields.Grammar.TheVariants.{Strict, Wide}

-- the field is this word
abbrev pub is_word : Grammar → List ℕ → List ℕ → Bool
is_word Strict word field = bytes_eq field word
is_word Wide word field = str_eq_ignore_ascii_case field word

-- a field that passes the test, in this line; another field in its place is told as a bad count
unfoldable pub passing_at : (List ℕ → Bool) → ℕ → Fields → Result (Unit {0} × Fields) TextFault
passing_at test line fields = do
  field ← field_at line fields
  if test field.0 then Ok (tt, field.1) else Err (bad_count line)

-- this word, in this line
abbrev pub keyword_at : Grammar → List ℕ → ℕ → Fields → Result (Unit {0} × Fields) TextFault
keyword_at grammar word = passing_at (is_word grammar word)
