-- Decimals: their text, and the number that it writes.
use Rattle.std.specs.Prelude.{◌≡◌, ◌≢◌, ℕ, zero, suc, ◌+◌, ◌*◌, ◌/◌, ◌%◌, ◌^◌, ◌<◌, ℤ, pos, neg_ℤ, unsigned_abs, Bool, ◌||◌, List, [], ◌∷◌, ◌++◌, length, Option, Some, None, option_and_then, unwrap_or, position, drop, nat_lt, ◌==◌, if◌then◌else◌}
use Rattle.std.specs.Option.{option_map}
use Rattle.std.specs.List.{before_first, after_first}
use Rattle.std.specs.Str.Parse.{digits_value, starts_with_minus, without_leading_sign}
use Rattle.tet_text.specs.Numbers.{number_of}

infixl 10 ◌>>=◌
abbrev pub ◌>>=◌ : {A B : Type 0} → Option A → (A → Option B) → Option B
o >>= f = option_and_then f o

-- the number value / 10^scale
pub record Scaled : Type 0 where
  pub value : ℤ
  pub scale : ℕ

-- its size is below 10^36, and its fraction has no trailing zero
pub record IsDecimal (d : Scaled) : Type 0 where
  pub small : unsigned_abs d.value < 10 ^ 36
  pub no_trailing_zero : 0 < d.scale → unsigned_abs d.value % 10 ≢ 0

-- '.', 46
abbrev pub is_point : ℕ → Bool
is_point byte = byte == 46

-- 'e', 101, or 'E', 69
abbrev pub is_exponent_mark : ℕ → Bool
is_exponent_mark byte = byte == 101 || byte == 69

-- the parts of a decimal: the digits before and after the point, and the exponent
pub record Parts : Type 0 where
  pub negative : Bool
  pub whole : List ℕ
  pub fraction : List ℕ
  pub exponent : List ℕ

abbrev pub mantissa_of : List ℕ → List ℕ
mantissa_of unsigned = before_first is_exponent_mark unsigned

-- where no exponent is written it is '0', 48
abbrev pub exponent_of : List ℕ → List ℕ
exponent_of unsigned = unwrap_or (option_map (λ mark. drop (mark + 1) unsigned) (position is_exponent_mark unsigned)) (48 ∷ [])

abbrev pub parts_of : List ℕ → Parts
parts_of text = record {
  negative = starts_with_minus text;
  whole = before_first is_point (mantissa_of (without_leading_sign text));
  fraction = after_first is_point (mantissa_of (without_leading_sign text));
  exponent = exponent_of (without_leading_sign text);
}

-- by how many tens an exponent of 1 to 3 digits raises a number, and by how many it lowers it
abbrev pub steps_of : List ℕ → Option (ℕ × ℕ)
steps_of exponent = option_map (λ size. if starts_with_minus exponent then (0, size) else (size, 0))
    (number_of 3 (without_leading_sign exponent))

-- n / 10^scale, as it is written with no trailing zero in the fraction
abbrev pub lowest : ℕ → ℕ → ℕ × ℕ
lowest n zero = (n, zero)
lowest n (suc scale) = if n % 10 == 0 then lowest (n / 10) scale else (n, suc scale)

abbrev pub signed : Bool → ℕ → ℤ
signed negative n = if negative then neg_ℤ (pos n) else pos n

abbrev pub with_sign : Bool → ℕ × ℕ → Scaled
with_sign negative n = record { value = signed negative n.0; scale = n.1 }

-- the number, where it is below 10^36
abbrev pub below_limit : ℕ → Option ℕ
below_limit n = if nat_lt n (10 ^ 36) then Some n else None

-- digits × 10^raise / 10^lower, where that is below 10^36
unfoldable pub scaled_of : ℕ → ℕ → ℕ → Option (ℕ × ℕ)
scaled_of digits raise lower = if nat_lt (digits * 10 ^ raise) (10 ^ (36 + lower)) then Some (lowest (digits * 10 ^ raise) lower) else None

-- the decimal that the parts write: 1 to 36 digits, where each one of the fraction divides the number by ten, and an
-- exponent
unfoldable pub decimal_of_parts : Parts → Option Scaled
decimal_of_parts parts = do
  digits ← number_of 36 (parts.whole ++ parts.fraction)
  steps ← steps_of parts.exponent
  scaled ← scaled_of digits steps.0 (length parts.fraction + steps.1)
  Some (with_sign parts.negative scaled)

-- the decimal that the text writes
abbrev pub decimal_of : List ℕ → Option Scaled
decimal_of text = decimal_of_parts (parts_of text)

abbrev pub exponent_size : Parts → ℕ
exponent_size parts = digits_value 10 (without_leading_sign parts.exponent)

-- by how many tens the exponent raises the number
abbrev pub raising : Parts → ℕ
raising parts = if starts_with_minus parts.exponent then 0 else exponent_size parts

-- by how many tens the fraction and the exponent lower it
abbrev pub lowering : Parts → ℕ
lowering parts = length parts.fraction + (if starts_with_minus parts.exponent then exponent_size parts else 0)

-- value / 10^scale is what the parts write: their digits × 10^raising / 10^lowering, with their sign
pub record IsNumberOf (parts : Parts) (d : Scaled) : Type 0 where
  pub size : unsigned_abs d.value * 10 ^ lowering parts ≡ digits_value 10 (parts.whole
      ++ parts.fraction) * 10 ^ raising parts * 10 ^ d.scale
  pub sign : d.value ≡ signed parts.negative (unsigned_abs d.value)
