-- Counts and whole numbers.
use Rattle.std.specs.Prelude.{ℕ, ℤ, Bool, ◌&&◌, List, length, Option, Some, None, nat_lt, nat_le, if◌then◌else◌}
use Rattle.std.specs.List.{list_all}
use Rattle.std.specs.Char.{is_ascii_digit}
use Rattle.std.specs.Str.Parse.{digits_value, digits_value_after, signed_digits_value, without_leading_sign}

-- from 1 to `most` digits, and nothing else
unfoldable pub are_digits : ℕ → List ℕ → Bool
are_digits most text = (nat_lt 0 (length text) && nat_le (length text) most) && list_all is_ascii_digit text

-- the number that *n* digits write
abbrev pub number_of : ℕ → List ℕ → Option ℕ
number_of most text = if are_digits most text then Some (digits_value 10 text) else None

-- a count has 1 to 18 digits
abbrev pub count_of : List ℕ → Option ℕ
count_of text = number_of 18 text

-- a whole number has a sign, if it has one, and then 1 to 18 digits
abbrev pub whole_of : List ℕ → Option ℤ
whole_of text = if are_digits 18 (without_leading_sign text) then Some (signed_digits_value 10 text) else None

-- the number that the digits write behind those of n, where they are digits
unfoldable pub digits_from : ℕ → List ℕ → Option ℕ
digits_from n text = if list_all is_ascii_digit text then Some (digits_value_after 10 n text) else None
