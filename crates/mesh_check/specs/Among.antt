-- The first defect of some kinds.
use Rattle.std.specs.Prelude.{ℕ, ◌<◌, ◌≤◌, Option, Some, None}
use Rattle.mesh_check.specs.Defects.{ReadMesh, HasDefect, IsToldBefore, kind_of}
use Rattle.mesh_check.specs.declared.defect.Defect.{Defect}

-- the kind is one of those from `low` to before `high`
abbrev pub IsOfKinds : ℕ → ℕ → Defect → Type 0
IsOfKinds low high d = (low ≤ kind_of d) × (kind_of d < high)

-- the first defect of these kinds that the mesh has, or none where it has none
abbrev pub IsFirstOfKinds : ReadMesh → ℕ → ℕ → Option Defect → Type 0
IsFirstOfKinds m low high None = (d : Defect) → IsOfKinds low high d → ¬ HasDefect m d
IsFirstOfKinds m low high (Some d) = IsOfKinds low high d × HasDefect m d
    × ((e : Defect) → IsOfKinds low high e → IsToldBefore e d → ¬ HasDefect m e)
