-- What a sink in memory has taken, and which of its puts is to fail.
use Rattle.std.specs.Prelude.{ℕ, ◌+◌, ◌-◌, ◌^◌, List, ◌++◌, min, refl}
use Rattle.std.specs.Coded.{Coded, code_by, coded×, coded_ℕ, coded_list}
use Rattle.tet_ports.specs.Calls.{calls_code, one_more}
use Rattle.tet_ports.specs.declared.calls.Calls.{Calls}

-- its bytes, its puts, how many bytes the failing put appends, and how many puts were refused for want of memory
pub record MemoryBytes : Type 0 where
  pub bytes : List ℕ
  pub puts : Calls
  pub kept : ℕ
  pub wants : ℕ

-- the sink after one more put, with this piece appended
abbrev pub appended : MemoryBytes → List ℕ → MemoryBytes
appended sink piece = record sink { bytes = sink.bytes ++ piece; puts = one_more sink.puts }

-- the sink after one more put that was refused for want of memory
abbrev pub wanting : MemoryBytes → MemoryBytes
wanting sink = record sink { puts = one_more sink.puts; wants = min (sink.wants + 1) (2 ^ 64 - 1) }

-- it is stored as the tuple of its fields
abbrev pub memory_bytes_code : Coded MemoryBytes
memory_bytes_code =
    code_by (List ℕ × (Calls × (ℕ × ℕ))) (coded× (coded_list coded_ℕ) (coded× calls_code (coded× coded_ℕ coded_ℕ)))
    (λ s. (s.bytes, (s.puts, (s.kept, s.wants)))) (λ p. record { bytes = p.0; puts = p.1.0; kept = p.1.1.0; wants = p.1.1.1 }) (λ _. refl)
