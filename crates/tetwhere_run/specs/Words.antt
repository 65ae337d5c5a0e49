-- The words of the program that finds points: exactly two names.
use Rattle.std.specs.Prelude.{ℕ, Bool, ◌&&◌, not, List, [], length, Option, Some, None, nat_lt, if◌then◌else◌}
use Rattle.std.specs.List.{slice_index_or}
use Rattle.command_words.specs.Words.{is_name}

-- a name stands at this place, from 0
abbrev pub is_named_at : List (List ℕ) → ℕ → Bool
is_named_at words i = nat_lt i (length words) && is_name (slice_index_or words i [])

-- The first bad word, counted from 1: one that is no name, the one behind the last of too few, or a third one
abbrev pub bad_word : List (List ℕ) → Option ℕ
bad_word words =
    if not (is_named_at words 0) then Some 1 else
    if not (is_named_at words 1) then Some 2 else
    if nat_lt 2 (length words) then Some 3 else None
