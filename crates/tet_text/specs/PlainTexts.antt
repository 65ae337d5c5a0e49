-- Decimals that are written without an exponent.
use Rattle.std.specs.Prelude.{◌≡◌, ◌<◌, ◌^◌, ℕ, Bool, List, [], ◌∷◌, ◌++◌, length, Some}
use Rattle.std.specs.List.{before_first, after_first}
use Rattle.tet_text.specs.Numbers.{number_of}
use Rattle.tet_text.specs.Lines.{is_blank, without_blanks}
use Rattle.tet_text.specs.Decimals.{is_point, mantissa_of, exponent_of, lowest, with_sign, decimal_of}

-- digits with at most one point, that write number / 10^scale, and no exponent; '0' is 48
pub record IsPlain (unsigned : List ℕ) (number scale : ℕ) : Type 0 where
  pub no_exponent : exponent_of unsigned ≡ 48 ∷ []
  pub digits : number_of 36 (before_first is_point (mantissa_of unsigned) ++ after_first is_point (mantissa_of unsigned)) ≡ Some number
  pub decimals : length (after_first is_point (mantissa_of unsigned)) ≡ scale

-- the first field of the bytes writes number / 10^scale with this sign, and behind it stand, past blanks, the same bytes as in `rest`
pub record IsPlainField (bytes : List ℕ) (negative : Bool) (number scale : ℕ) (rest : List ℕ) : Type 0 where
  pub some : 0 < length bytes
  pub small : number < 10 ^ 19
  pub value : decimal_of (before_first is_blank bytes) ≡ Some (with_sign negative (lowest number scale))
  pub behind : without_blanks (after_first is_blank bytes) ≡ without_blanks rest
