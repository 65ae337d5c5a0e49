-- Marks of the places of a list.
use Rattle.std.specs.Prelude.{ℕ, Bool, false, List}
use Rattle.std.specs.List.{slice_index_or}

-- whether the place has a mark; there is none past the end
abbrev pub is_marked : List Bool → ℕ → Bool
is_marked marks i = slice_index_or marks i false
