-- Calls of one kind, counted from 1, of which one may be set to fail.
use Rattle.std.specs.Prelude.{◌≡◌, ℕ, ◌+◌, ◌-◌, ◌^◌, ◌&&◌, nat_le, min, Option, Some, None, if◌then◌else◌, refl}
use Rattle.std.specs.Coded.{Coded, code_by, coded×, coded_ℕ, coded_option}
use Rattle.tet_ports.specs.declared.calls.Calls.{Calls}

-- no call was made, and none is to fail
abbrev pub fresh_calls : Calls
fresh_calls = record { made = 0; failing = None }

-- the calls with the one of this number set to fail
abbrev pub failing_at : ℕ → Calls → Calls
failing_at nth calls = record calls { failing = Some nth }

-- the calls after one more, in a count that stays at the last value of a u64
abbrev pub one_more : Calls → Calls
one_more calls = record calls { made = min (calls.made + 1) (2 ^ 64 - 1) }

-- the next call is the one that is to fail
abbrev pub IsNextFailing : Calls → Type 0
IsNextFailing calls = calls.failing ≡ Some (calls.made + 1)

-- 1 where a call is to fail and its number has come, and else 0
abbrev pub failures_among : ℕ → Option ℕ → ℕ
failures_among made None = 0
failures_among made (Some nth) = if nat_le 1 nth && nat_le nth made then 1 else 0

-- how many of the calls so far were to fail
abbrev pub failures : Calls → ℕ
failures calls = failures_among calls.made calls.failing

-- they are stored as the pair of the fields
abbrev pub calls_code : Coded Calls
calls_code = code_by (ℕ × Option ℕ) (coded× coded_ℕ (coded_option coded_ℕ)) (λ c. (c.made, c.failing))
    (λ p. record { made = p.0; failing = p.1 }) (λ _. refl)
