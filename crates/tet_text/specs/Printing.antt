-- Decimals as text.
use Rattle.std.specs.Prelude.{ℕ, ◌+◌, ◌-◌, Bool, unsigned_abs, int_lt, pos, List, [], ◌∷◌, ◌++◌, length, take, drop, map, replicate, ◌==◌, if◌then◌else◌}
use Rattle.std.specs.Int.Digits.{digits_of}
use Rattle.tet_text.specs.Decimals.{Scaled}

-- the digits of a number, none for 0; '0' is 48
abbrev pub glyphs : ℕ → List ℕ
glyphs n = map (λ digit. 48 + digit) (digits_of 10 n)

-- the digits of a number, at least one
unfoldable pub numeral : ℕ → List ℕ
numeral n = if n == 0 then 48 ∷ [] else glyphs n

-- digits with zeros in front, so that there are more than `scale`
abbrev pub with_zeros : ℕ → List ℕ → List ℕ
with_zeros scale digits = replicate (scale + 1 - length digits) 48 ++ digits

-- the digits with a point, 46, before the last `scale` of them; no point before none
abbrev pub with_decimal_point : ℕ → List ℕ → List ℕ
with_decimal_point scale digits = take (length digits - scale) digits
    ++ (if scale == 0 then [] else 46 ∷ drop (length digits - scale) digits)

abbrev pub size_text : ℕ → ℕ → List ℕ
size_text n scale = with_decimal_point scale (with_zeros scale (numeral n))

-- a minus, 45, where the number is below zero
abbrev pub sign_text : Bool → List ℕ
sign_text negative = if negative then 45 ∷ [] else []

-- the sign and the size
abbrev pub decimal_text : Scaled → List ℕ
decimal_text d = sign_text (int_lt d.value (pos 0)) ++ size_text (unsigned_abs d.value) d.scale
