-- Steps one after another: each answers in one way at most, if it does not want memory.
use Rattle.std.proofs.Common.{◌≡◌, ◌≢◌, inl, inr, ℕ, List, Result, Ok, Err, refl, subst, sym, ap, ◌∙◌}
use Rattle.run_steps.specs.Steps.{AndThen, IsFound, IfMissing, Gives, forced_answer}
use Rattle.run_steps.specs.declared.status.Status.{Status}
use Rattle.run_steps.specs.declared.status.Status.TheVariants.{Done, Missing, NoMemory}

-- the answer is not want of memory, which is free
abbrev pub IsDecided : {A : Type 0} → Result A Status → Type 0
IsDecided (Ok a) = Unit {0}
IsDecided (Err status) = status ≢ NoMemory

-- the step answers in one way
abbrev pub IsOnce : {A : Type 0} → (Result A Status → Type 0) → Type 0
IsOnce {A = A} step = (r s : Result A Status) → IsDecided r → IsDecided s → step r → step s → r ≡ s

-- values and refusals, at their types
abbrev given : {A : Type 0} → A → Result A Status
given a = Ok a

abbrev refused : (A : Type 0) → Status → Result A Status
refused A status = Err status

ok_same : {A : Type 0} (a b : A) → given a ≡ given b → a ≡ b
ok_same a b e = cc

err_same : (A B : Type 0) (s t : Status) → refused A s ≡ refused A t → refused B s ≡ refused B t
err_same A B s t e = cc

ok_err : {A : Type 0} (a : A) (s : Status) → given a ≡ refused A s → ⊥
ok_err a s e = cc

-- so do two such steps
pub and_then_once : {A B : Type 0} (first : Result A Status → Type 0) (next : A → Result B Status → Type 0) → IsOnce first → ((a : A) → IsOnce (next a)) → IsOnce (AndThen first next)
and_then_once first next one two (Ok b) (Ok c) n m f g =
    two g.0 (Ok b) (Ok c) n m (subst (λ a. next a (Ok b)) (ok_same f.0 g.0 (one (Ok f.0) (Ok g.0) tt tt f.1 g.1)) f.2) g.2
and_then_once first next one two (Ok b) (Err t) n m f (inl g) = absurd (ok_err f.0 t (one (Ok f.0) (Err t) tt m f.1 g))
and_then_once first next one two (Ok b) (Err t) n m f (inr g) =
    two g.0 (Ok b) (Err t) n m (subst (λ a. next a (Ok b)) (ok_same f.0 g.0 (one (Ok f.0) (Ok g.0) tt tt f.1 g.1)) f.2) g.2
and_then_once first next one two (Err s) (Ok c) n m (inl f) g = absurd (ok_err g.0 s (sym (one (Err s) (Ok g.0) n tt f g.1)))
and_then_once first next one two (Err s) (Ok c) n m (inr f) g =
    two g.0 (Err s) (Ok c) n m (subst (λ a. next a (Err s)) (ok_same f.0 g.0 (one (Ok f.0) (Ok g.0) tt tt f.1 g.1)) f.2) g.2
and_then_once {A} {B} first next one two (Err s) (Err t) n m (inl f) (inl g) = err_same A B s t (one (Err s) (Err t) n m f g)
and_then_once first next one two (Err s) (Err t) n m (inl f) (inr g) = absurd (ok_err g.0 s (sym (one (Err s) (Ok g.0) n tt f g.1)))
and_then_once first next one two (Err s) (Err t) n m (inr f) (inl g) = absurd (ok_err f.0 t (one (Ok f.0) (Err t) tt m f.1 g))
and_then_once first next one two (Err s) (Err t) n m (inr f) (inr g) =
    two g.0 (Err s) (Err t) n m (subst (λ a. next a (Err s)) (ok_same f.0 g.0 (one (Ok f.0) (Ok g.0) tt tt f.1 g.1)) f.2) g.2

-- a value of the first step, and an answer of the second to it
pub and_then_ok : {A B : Type 0} (first : Result A Status → Type 0) (next : A → Result B Status → Type 0) (a : A) (r : Result B Status) → first (Ok a) → next a r → AndThen first next r
and_then_ok first next a (Ok b) f g = (a, f, g)
and_then_ok first next a (Err s) f g = inr (a, f, g)

pub gives_once : {A : Type 0} (a : A) → IsOnce (Gives a)
gives_once a (Ok b) (Ok c) n m h k = ap (λ x. Ok x) (h ∙ sym k)
gives_once a (Ok b) (Err t) n m h k = absurd (m k)
gives_once a (Err s) s' n m h k = absurd (n h)

missing_lost : {A : Type 0} (name : List ℕ) (r : Result A Status) → r ≡ Err (Missing name) → IsFound r → ⊥
missing_lost name r e f = subst IsFound e f

missing_is_no_want : (name : List ℕ) → Missing name ≢ NoMemory
missing_is_no_want name e = cc

pub if_missing_once : {A : Type 0} (first second : Result A Status → Type 0) → IsOnce first → IsOnce second → IsOnce (IfMissing first second)
if_missing_once first second one two r s n m (inl f) (inl g) = one r s n m f.0 g.0
if_missing_once first second one two r s n m (inl f) (inr g) = absurd (missing_lost g.0 r (one r (Err (Missing g.0)) n (missing_is_no_want g.0) f.0 g.1) f.1)
if_missing_once first second one two r s n m (inr f) (inl g) = absurd (missing_lost f.0 s (one s (Err (Missing f.0)) m (missing_is_no_want f.0) g.0 f.1) g.1)
if_missing_once first second one two r s n m (inr f) (inr g) = two r s n m f.2 g.2

-- ---- steps that answer with one status

-- the status of an answer, as it is read: Done where there is a value
abbrev pub status_by : {A : Type 0} → (Status → Status) → Result A Status → Status
status_by read (Ok a) = Done
status_by read (Err status) = read status

-- any two answers of the step have one status, as it is read
abbrev pub IsSameBy : {A : Type 0} → (Status → Status) → (Result A Status → Type 0) → Type 0
IsSameBy {A = A} read step = (r s : Result A Status) → IsDecided r → IsDecided s → step r → step s → status_by read r ≡ status_by read s

pub once_same_by : {A : Type 0} (read : Status → Status) (step : Result A Status → Type 0) → IsOnce step → IsSameBy read step
once_same_by read step one r s n m h k = ap (status_by read) (one r s n m h k)

pub and_then_same_by : {A B : Type 0} (read : Status → Status) (first : Result A Status → Type 0) (next : A → Result B Status → Type 0) → IsOnce first → ((a : A) → IsSameBy read (next a)) → IsSameBy read (AndThen first next)
and_then_same_by read first next one two (Ok b) (Ok c) n m f g = refl
and_then_same_by read first next one two (Ok b) (Err t) n m f (inl g) = absurd (ok_err f.0 t (one (Ok f.0) (Err t) tt m f.1 g))
and_then_same_by read first next one two (Ok b) (Err t) n m f (inr g) =
    two g.0 (Ok b) (Err t) n m (subst (λ a. next a (Ok b)) (ok_same f.0 g.0 (one (Ok f.0) (Ok g.0) tt tt f.1 g.1)) f.2) g.2
and_then_same_by read first next one two (Err s) (Ok c) n m (inl f) g = absurd (ok_err g.0 s (sym (one (Err s) (Ok g.0) n tt f g.1)))
and_then_same_by read first next one two (Err s) (Ok c) n m (inr f) g =
    two g.0 (Err s) (Ok c) n m (subst (λ a. next a (Err s)) (ok_same f.0 g.0 (one (Ok f.0) (Ok g.0) tt tt f.1 g.1)) f.2) g.2
and_then_same_by read first next one two (Err s) (Err t) n m (inl f) (inl g) = once_same_by read first one (Err s) (Err t) n m f g
and_then_same_by read first next one two (Err s) (Err t) n m (inl f) (inr g) = absurd (ok_err g.0 s (sym (one (Err s) (Ok g.0) n tt f g.1)))
and_then_same_by read first next one two (Err s) (Err t) n m (inr f) (inl g) = absurd (ok_err f.0 t (one (Ok f.0) (Err t) tt m f.1 g))
and_then_same_by read first next one two (Err s) (Err t) n m (inr f) (inr g) =
    two g.0 (Err s) (Err t) n m (subst (λ a. next a (Err s)) (ok_same f.0 g.0 (one (Ok f.0) (Ok g.0) tt tt f.1 g.1)) f.2) g.2

-- the status of an answer, as it is forced
abbrev pub status_of : {A : Type 0} → Result A Status → Status
status_of {A = A} = status_by {A = A} forced_answer

-- any two answers of the step have one status, as it is forced
abbrev pub IsSame : {A : Type 0} → (Result A Status → Type 0) → Type 0
IsSame {A = A} = IsSameBy {A = A} forced_answer

pub once_same : {A : Type 0} (step : Result A Status → Type 0) → IsOnce step → IsSame step
once_same = once_same_by forced_answer

pub and_then_same : {A B : Type 0} (first : Result A Status → Type 0) (next : A → Result B Status → Type 0) → IsOnce first → ((a : A) → IsSame (next a)) → IsSame (AndThen first next)
and_then_same = and_then_same_by forced_answer

-- a step behind which only memory may be wanting
pub and_then_sure : {A B : Type 0} (first : Result A Status → Type 0) (next : A → Result B Status → Type 0) → IsSame first → ((a : A) (s : Status) → next a (Err s) → s ≡ NoMemory) → IsSame (AndThen first next)
and_then_sure first next one sure (Ok b) (Ok c) n m f g = refl
and_then_sure first next one sure (Ok b) (Err t) n m f (inl g) = one (Ok f.0) (Err t) tt m f.1 g
and_then_sure first next one sure (Ok b) (Err t) n m f (inr g) = absurd (m (sure g.0 t g.2))
and_then_sure first next one sure (Err s) (Ok c) n m (inl f) g = one (Err s) (Ok g.0) n tt f g.1
and_then_sure first next one sure (Err s) c n m (inr f) g = absurd (n (sure f.0 s f.2))
and_then_sure first next one sure (Err s) (Err t) n m (inl f) (inl g) = one (Err s) (Err t) n m f g
and_then_sure first next one sure (Err s) (Err t) n m (inl f) (inr g) = absurd (m (sure g.0 t g.2))

-- each refusal of two steps has what the refusals of each have
pub and_then_refuses : {A B : Type 0} (P : Status → Type 0) (first : Result A Status → Type 0) (next : A → Result B Status → Type 0)
    → ((s : Status) → first (Err s) → P s) → ((a : A) (s : Status) → next a (Err s) → P s) → (s : Status) → AndThen first next (Err s) → P s
and_then_refuses P first next one two s (inl f) = one s f
and_then_refuses P first next one two s (inr f) = two f.0 s f.2

-- what each step answers over a part of what is seen, both answer over all of it
pub and_then_wider : {A B : Type 0} (first first' : Result A Status → Type 0) (next next' : A → Result B Status → Type 0)
    → ((r : Result A Status) → first r → first' r) → ((a : A) (r : Result B Status) → next a r → next' a r) → (r : Result B Status) → AndThen first next r → AndThen first' next' r
and_then_wider first first' next next' one two (Ok b) f = (f.0, one (Ok f.0) f.1, two f.0 (Ok b) f.2)
and_then_wider first first' next next' one two (Err s) (inl f) = inl (one (Err s) f)
and_then_wider first first' next next' one two (Err s) (inr f) = inr (f.0, one (Ok f.0) f.1, two f.0 (Err s) f.2)
