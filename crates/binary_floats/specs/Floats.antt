-- Binary floats of 32 bits: a sign, an exponent of 8 bits and a fraction of 23.
use Rattle.std.specs.Prelude.{ℕ, ◌+◌, ◌-◌, ◌/◌, ◌%◌, ◌^◌, Bool, ◌&&◌, ◌==◌, nat_le, nat_lt, if◌then◌else◌}
use Rattle.binary_floats.specs.declared.steps.Steps.{Steps}

abbrev pub has_sign_bit : ℕ → Bool
has_sign_bit bits = nat_le (2 ^ 31) bits

abbrev pub float_exponent : ℕ → ℕ
float_exponent bits = bits / 2 ^ 23 % 256

abbrev pub fraction_of : ℕ → ℕ
fraction_of bits = bits % 2 ^ 23

-- the last exponent is that of infinities, and of what is no number
abbrev pub is_finite : ℕ → Bool
is_finite bits = nat_lt (float_exponent bits) 255

-- the size is this whole number times 2^(exponent - 150), or 2^-149 where the exponent is 0
abbrev pub step_count : ℕ → ℕ
step_count bits = if float_exponent bits == 0 then fraction_of bits else fraction_of bits + 2 ^ 23

-- a float below 2^24 as a whole number of steps. Below a power of two, but the least, floats are twice as close, so the middle between it
-- and the next one below is a quarter of a step away; else each middle is two quarters away
abbrev pub float_steps : ℕ → Steps
float_steps bits = record {
  count = step_count bits;
  halvings = if float_exponent bits == 0 then 149 else 150 - float_exponent bits;
  below = if fraction_of bits == 0 && nat_lt 1 (float_exponent bits) then 1 else 2;
}
