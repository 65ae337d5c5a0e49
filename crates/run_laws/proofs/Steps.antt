-- Steps that give one value, unless they want memory.
use Rattle.std.proofs.Common.{◌≡◌, ◌≢◌, ◌⊎◌, inl, inr, Result, Ok, Err, refl, subst}
use Rattle.run_steps.specs.Steps.{AndThen}
use Rattle.run_steps.specs.declared.status.Status.{Status}
use Rattle.run_steps.specs.declared.status.Status.TheVariants.{Done, NoMemory}
use Rattle.run_steps.proofs.Steps.{IsDecided, IsOnce}

-- the step gives this value, unless it wants memory
abbrev pub IsOnly : {A : Type 0} → (Result A Status → Type 0) → A → Type 0
IsOnly {A = A} step a = (r : Result A Status) → IsDecided r → step r → r ≡ Ok a

abbrev pub given : {A : Type 0} → A → Result A Status
given a = Ok a

abbrev pub refused : (A : Type 0) → Status → Result A Status
refused A s = Err s

pub ok_same : {A : Type 0} (a b : A) → given a ≡ given b → a ≡ b
ok_same a b e = cc

pub ok_err : {A : Type 0} (a : A) (s : Status) → Err s ≡ given a → ⊥
ok_err a s e = cc

pub once_only : {A : Type 0} (step : Result A Status → Type 0) (a : A) → IsOnce step → step (Ok a) → IsOnly step a
once_only step a once is r n h = once r (Ok a) n tt h is

-- two such steps
pub then_only : {A B : Type 0} (first : Result A Status → Type 0) (next : A → Result B Status → Type 0) (a : A) (b : B) → IsOnly first a → IsOnly (next a) b → IsOnly (AndThen first next) b
then_only first next a b one two (Ok c) n f = two (Ok c) n (subst (λ x. next x (Ok c)) (ok_same f.0 a (one (Ok f.0) tt f.1)) f.2)
then_only first next a b one two (Err s) n (inl f) = absurd (ok_err a s (one (Err s) n f))
then_only first next a b one two (Err s) n (inr f) = two (Err s) n (subst (λ x. next x (Err s)) (ok_same f.0 a (one (Ok f.0) tt f.1)) f.2)

pub is_want : (s : Status) → (s ≡ NoMemory) ⊎ (s ≢ NoMemory)
is_want NoMemory = inl refl
is_want s = inr (λ e. cc)

pub not_want : Done ≢ NoMemory
not_want e = cc
