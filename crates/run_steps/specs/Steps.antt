-- Steps of a run, one after another. A step answers a value, or the status with which the run ends.
use Rattle.std.specs.Prelude.{◌≡◌, ◌⊎◌, List, ℕ, Result, Ok, Err}
use Rattle.run_steps.specs.declared.status.Status.{Status}
use Rattle.run_steps.specs.declared.status.Status.TheVariants.{Done, Missing, NoFill, NoMemory}

-- two steps: the second takes what the first gives, and a refusal of either is one of both
abbrev pub AndThen : {A B : Type 0} → (Result A Status → Type 0) → (A → Result B Status → Type 0) → Result B Status → Type 0
AndThen {A = A} first next (Ok b) = (a : A) × first (Ok a) × next a (Ok b)
AndThen {A = A} first next (Err status) = first (Err status) ⊎ ((a : A) × first (Ok a) × next a (Err status))

-- the answer is not that a file is missing
abbrev pub IsFound : {A : Type 0} → Result A Status → Type 0
IsFound (Err (Missing name)) = ⊥
IsFound answer = Unit {0}

-- the answer of the first step, or where it finds no file, that of the second one
abbrev pub IfMissing : {A : Type 0} → (Result A Status → Type 0) → (Result A Status → Type 0) → Result A Status → Type 0
IfMissing first second answer = first answer × IsFound answer ⊎ ((name : List ℕ) × first (Err (Missing name)) × second answer)

-- the step gives this value, unless it is out of memory
abbrev pub Gives : {A : Type 0} → A → Result A Status → Type 0
Gives a (Ok b) = b ≡ a
Gives a (Err status) = status ≡ NoMemory

-- the answer as it is forced: an anomaly permits its refusal, and stands beside Done
abbrev pub forced_answer : Status → Status
forced_answer (NoFill anomaly) = Done
forced_answer status = status
