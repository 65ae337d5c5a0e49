-- The decimal of a float: of those that read back as it, rounded to the nearest float and on a middle to the even one, that with the fewest
-- digits behind the point, and of these the nearest. A float that is whole is itself.
use Rattle.std.specs.Prelude.{ℕ, zero, suc, ◌+◌, ◌-◌, ◌*◌, ◌^◌, Option, None, not, nat_le, if◌then◌else◌}
use Rattle.std.specs.Option.{option_map, option_or}
use Rattle.tet_text.specs.Decimals.{Scaled, lowest, with_sign, below_limit}
use Rattle.binary_floats.specs.declared.steps.Steps.{Steps}
use Rattle.binary_floats.specs.Floats.{has_sign_bit, is_finite, float_exponent, step_count, float_steps}
use Rattle.binary_floats.specs.Nearest.{at_places}

-- the whole number at the least of the next *n* numbers of places, from `places` on, and that number of places
unfoldable pub least_places : ℕ → ℕ → Steps → Option (ℕ × ℕ)
least_places zero places s = None
least_places (suc more) places s = option_or (option_map (λ n. (n, places)) (at_places s places)) (least_places more (places + 1) s)

-- with as many places as halvings the decimal is the float itself
abbrev pub shortest : Steps → Option (ℕ × ℕ)
shortest s = least_places (s.halvings + 1) 0 s

-- the shortest decimal of the float with these bits; None where the float is infinite or no number, or 10^36 or more
abbrev pub float_decimal : ℕ → Option Scaled
float_decimal bits =
    if not (is_finite bits) then None else
    if nat_le 150 (float_exponent bits) then
    option_map (λ n. with_sign (has_sign_bit bits) (n, 0)) (below_limit (step_count bits * 2 ^ (float_exponent bits - 150)))
    else option_map (λ d. with_sign (has_sign_bit bits) (lowest d.0 d.1)) (shortest (float_steps bits))
