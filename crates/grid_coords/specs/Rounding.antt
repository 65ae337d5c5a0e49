-- Decimals rounded to a number of decimals.
use Rattle.std.specs.Prelude.{ℕ, ◌+◌, ◌-◌, ◌*◌, ◌/◌, ◌^◌, pos, int_lt, unsigned_abs, nat_le, if◌then◌else◌}
use Rattle.tet_text.specs.Decimals.{Scaled, lowest, with_sign}

-- the whole number nearest to n / 10^k, and the larger of two
unfoldable pub nearest_whole : ℕ → ℕ → ℕ
nearest_whole n k = (2 * n + 10 ^ k) / (2 * 10 ^ k)

-- the number rounded to *n* decimals, halves away from zero
unfoldable pub rounded : ℕ → Scaled → Scaled
rounded decimals d =
    if nat_le d.scale decimals then d
    else with_sign (int_lt d.value (pos 0)) (lowest (nearest_whole (unsigned_abs d.value) (d.scale - decimals)) decimals)
