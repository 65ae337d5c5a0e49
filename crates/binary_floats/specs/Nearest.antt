-- The whole number that is the nearest to a fraction among those that read back as it.
use Rattle.std.specs.Prelude.{ℕ, ◌+◌, ◌*◌, ◌/◌, ◌%◌, ◌^◌, Bool, true, false, ◌==◌, nat_le, nat_lt, Option, Some, None, if◌then◌else◌}
use Rattle.binary_floats.specs.declared.steps.Steps.{Steps}

-- the middle between two floats reads back as the one whose count is even
abbrev pub is_reached : Bool → ℕ → ℕ → Bool
is_reached true a b = nat_le a b
is_reached false a b = nat_lt a b

abbrev pub first_reached : Bool → ℕ → Bool → ℕ → Option ℕ
first_reached b m c n = if b then Some m else if c then Some n else None

-- The whole number below or above the fraction whole + rest / unit that is in reach, where a quarter of a step is
-- quarter / unit: the nearer one first, and of two that are equally near the even one
abbrev pub nearest : ℕ → ℕ → ℕ → ℕ → ℕ → Bool → Option ℕ
nearest whole rest unit quarter below closed =
    if (if 2 * rest == unit then whole % 2 == 0 else nat_lt (2 * rest) unit)
    then first_reached (is_reached closed rest (below * quarter)) whole (is_reached closed unit (rest + 2 * quarter)) (whole + 1)
    else first_reached (is_reached closed unit (rest + 2 * quarter)) (whole + 1) (is_reached closed rest (below * quarter)) whole

-- the nearest whole number in reach of count × 10^places / 2^halvings
unfoldable pub at_places : Steps → ℕ → Option ℕ
at_places s places =
    nearest (4 * s.count * 10 ^ places / 2 ^ (s.halvings + 2)) (4 * s.count * 10 ^ places % 2 ^ (s.halvings + 2)) (2 ^ (s.halvings + 2))
    (10 ^ places) s.below (s.count % 2 == 0)
