-- The refusals of a fetch that carry something.
use Rattle.std.specs.Prelude.{List, ℕ, ⊤}
use Rattle.tet_ports.specs.declared.folder.FetchFault.{FetchFault}
use Rattle.tet_ports.specs.declared.folder.FetchFault.TheVariants.{TooLarge, Missing, Failed, NoMemory}

-- P holds of the bytes that were taken, where the fault is that the file is too large
abbrev pub IfTooLarge : FetchFault → (List ℕ → Type 0) → Type 0
IfTooLarge (TooLarge taken) P = P taken
IfTooLarge Missing P = ⊤
IfTooLarge Failed P = ⊤
IfTooLarge NoMemory P = ⊤
