-- Binary floats of 64 bits, by their bits: a sign, an exponent of 11 bits and a fraction of 52; and the whole number nearest to one.
use Rattle.std.specs.Prelude.{ℕ, ◌+◌, ◌-◌, ◌*◌, ◌/◌, ◌%◌, ◌^◌, ℤ, Bool, ◌&&◌, ◌==◌, nat_le, nat_lt, Option, Some, None, if◌then◌else◌}
use Rattle.tet_text.specs.Decimals.{signed}

-- ---- a float

abbrev pub has_sign_bit : ℕ → Bool
has_sign_bit bits = nat_le (2 ^ 63) bits

abbrev pub exponent_of : ℕ → ℕ
exponent_of bits = bits / 2 ^ 52 % 2 ^ 11

abbrev pub fraction_of : ℕ → ℕ
fraction_of bits = bits % 2 ^ 52

-- the size is below 2^52; other floats are as large or larger, infinite, or no number
abbrev pub is_small : ℕ → Bool
is_small bits = nat_lt (exponent_of bits) 1075

-- a size below 2^52 is this whole number over 2^halvings
abbrev pub count_of : ℕ → ℕ
count_of bits = if exponent_of bits == 0 then fraction_of bits else fraction_of bits + 2 ^ 52

abbrev pub halvings_of : ℕ → ℕ
halvings_of bits = if exponent_of bits == 0 then 1074 else 1075 - exponent_of bits

-- ---- the nearest whole number

-- the whole number nearest to n / 2^k, and the larger of two
unfoldable pub nearest_whole : ℕ → ℕ → ℕ
nearest_whole n k = (2 * n + 2 ^ k) / (2 * 2 ^ k)

-- the size in units of 1 / 10^decimals, rounded to a whole number
abbrev pub nearest_size : ℕ → ℕ → ℕ
nearest_size decimals bits = nearest_whole (count_of bits * 10 ^ decimals) (halvings_of bits)

-- the float in units of 1 / 10^decimals, rounded to a whole number, halves away from zero; None where that is over `most` in size, or
-- the float is 2^52 or more in size, infinite or no number
abbrev pub nearest_units : ℕ → ℕ → ℕ → Option ℤ
nearest_units most decimals bits =
    if is_small bits && nat_le (nearest_size decimals bits) most
    then Some (signed (has_sign_bit bits) (nearest_size decimals bits)) else None
