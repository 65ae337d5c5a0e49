-- Steps one after another.
use Rattle.std.specs.Prelude.{◌≡◌, ◌⊎◌, Result, Ok, Err}
use Rattle.mesh_check.specs.declared.fault.CheckFault.{CheckFault}
use Rattle.mesh_check.specs.declared.fault.CheckFault.TheVariants.{Missing, NoMemory}

-- two steps: the second takes what the first gives, and a refusal of either is one of both
abbrev pub AndThen : {A B : Type 0} → (Result A CheckFault → Type 0) → (A → Result B CheckFault → Type 0) → Result B CheckFault → Type 0
AndThen {A = A} first next (Ok b) = (a : A) × first (Ok a) × next a (Ok b)
AndThen {A = A} first next (Err fault) = first (Err fault) ⊎ ((a : A) × first (Ok a) × next a (Err fault))

-- the step gives this value
abbrev pub Gives : {A : Type 0} → A → Result A CheckFault → Type 0
Gives a (Ok b) = b ≡ a
Gives a (Err fault) = fault ≡ NoMemory
