-- What a folder in memory holds, and which of its calls are to fail.
use Rattle.std.specs.Prelude.{ℕ, List, refl}
use Rattle.std.specs.Coded.{Coded, code_by, coded×, coded_ℕ, coded_list}
use Rattle.std.specs.FinMap as map
use Rattle.tet_ports.specs.Calls.{calls_code, one_more}
use Rattle.tet_ports.specs.Files.{Files}
use Rattle.tet_ports.specs.declared.calls.Calls.{Calls}

-- its files, its fetches, its stores, and how many bytes the failing store keeps
pub record MemoryFiles : Type 0 where
  pub files : Files
  pub fetches : Calls
  pub stores : Calls
  pub kept : ℕ

-- the folder after one more store, with this name set to this text
abbrev pub stored : MemoryFiles → List ℕ → List ℕ → MemoryFiles
stored folder name text = record folder { files = map.insert folder.files name text; stores = one_more folder.stores }

-- it is stored as the tuple of its fields
abbrev pub memory_files_code : Coded MemoryFiles
memory_files_code =
    code_by (Files × (Calls × (Calls × ℕ))) (coded× (map.code (coded_list coded_ℕ) (coded_list coded_ℕ))
    (coded× calls_code (coded× calls_code coded_ℕ)))
    (λ s. (s.files, (s.fetches, (s.stores, s.kept)))) (λ p. record { files = p.0; fetches = p.1.0; stores = p.1.1.0; kept = p.1.1.1 })
    (λ _. refl)
